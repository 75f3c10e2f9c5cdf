-- What calls wait on, where descriptions come, go or change.
use Rattle.std.proofs.Common.{◌≡◌, ℕ, zero, suc, Bool, true, false, cond, List, [], ◌∷◌, Option, None, Some, IfSome, refl, sym, ◌∙◌, ap, subst, inl, inr, nat_eq, slice_index_or, arith}
use Rattle.std.specs.Prelude.{◌||◌, All, if◌then◌else◌, option_map}
use Rattle.std.specs.List.{list_any}
use Rattle.std.specs.Set.{is_member}
use Rattle.std.proofs.lemmas.Bool.{eq-eqb}
use Rattle.std.proofs.lemmas.Bool.Decides.{eqb_tells}
use Rattle.std.proofs.lemmas.List.Folds.{list_any_at}
use Rattle.pl_model.specs.declared.calls.Call.{Call}
use Rattle.pl_model.specs.declared.node.Node.{Node}
use Rattle.pl_model.specs.declared.node.Node.TheVariants as node
use Rattle.pl_model.specs.Map.{Map, get, set_at, change_at}
use Rattle.pl_model.specs.State.{Waiting}
use Rattle.pl_model.specs.Numbered.{numbers}
use Rattle.pl_parked.specs.declared.call.ParkedCall.{ParkedCall}
use Rattle.pl_desc.specs.Rows.{at}
use Rattle.pl_desc.specs.Descs.{Opened, Descs, last_hold}
use Rattle.pl_state.specs.Contents.{Nodes, parked_of}
use Rattle.pl_state.specs.LastHold.{Releases, ReleasesAll}
use Rattle.pl_state.specs.Sound.{IsPipe, MayKeep, MayKeepFile, MayGo, OnNode, GoApart, KeepsNodes, WaitOnNodes}
use Rattle.pl_state.proofs.holders.Belonging.{if_some}

-- a description that is gone, or on the node that it was on
abbrev pub Fades : (old new : Option Opened) → Type 0
Fades old None = Unit {0}
Fades old (Some y) = (x : Opened) × (old ≡ Some x) × (y.node ≡ x.node)

pub fades-same : (o : Option Opened) → Fades o o
fades-same None = tt
fades-same (Some x) = (x, refl, refl)

fades-is : (o n : Option Opened) → n ≡ o → Fades o n
fades-is o n same = subst (Fades o) (sym same) (fades-same o)

pub faded : (P : Node → Type 0) (o n : Option Opened) → Fades o n → IfSome o (λ x. P x.node) → IfSome n (λ y. P y.node)
faded P o None f h = tt
faded P o (Some y) f h = subst P (sym f.2) (subst (λ z. IfSome z (λ x. P x.node)) f.1 h)

-- a call keeps what it did, where what it keeps faded
module _ (old new : ℕ → Option Opened) where
  abbrev AllFade : List ℕ → Type 0
  AllFade kept = (d : ℕ) → is_member nat_eq kept d ≡ true → Fades (old d) (new d)

  on-by : {A : Type 0} (w : ParkedCall A) (kept : List ℕ) → AllFade kept → All (OnNode old w) kept → All (OnNode new w) kept
  on-by w kept f on i z l =
      let d = slice_index_or kept i z in
      faded (MayKeep w) (old d) (new d) (f d (list_any_at (nat_eq d) kept i z l (eq-eqb d d refl))) (on i z l)

  apart-by : {A : Type 0} (x : Call A) (kept : List ℕ) → AllFade kept → GoApart old x kept → GoApart new x kept
  apart-by x [] f h = tt
  apart-by x (a ∷ []) f h = tt
  apart-by x (a ∷ b ∷ []) f h =
      faded (λ m. IfSome (new b) (λ y. MayGo x m y.node)) (old a) (new a) (f a (ap (λ t. t || (nat_eq a b || false)) (eq-eqb a a refl)))
      (if_some (λ o. IfSome (old b) (λ y. MayGo x o.node y.node)) (λ o. IfSome (new b) (λ y. MayGo x o.node y.node)) (old a)
      (λ o g. faded (MayGo x o.node) (old b) (new b) (f b ((λ i. nat_eq b a || (eq-eqb b b refl i || false)) ∙ either (nat_eq b a))) g) h)
    where
      either : (t : Bool) → (t || true) ≡ true
      either true = refl
      either false = refl
  apart-by x (a ∷ b ∷ c ∷ rest) f h = tt

  keeps-by : {A : Type 0} (w : ParkedCall A) → AllFade w.kept → KeepsNodes old w → KeepsNodes new w
  keeps-by w f h = record { on = on-by w w.kept f h.on; apart = apart-by w.call w.kept f h.apart }

module _ {A : Type 0} (calls : Map ℕ (ParkedCall A)) where
  pub wait-by : (old new : ℕ → Option Opened) → ((d : ℕ) → Fades (old d) (new d)) → WaitOnNodes calls old → WaitOnNodes calls new
  wait-by old new f on number = if_some (KeepsNodes old) (KeepsNodes new) (get nat_eq calls number) (λ w h. keeps-by old new w (λ d _. f d) h) (on number)

  pub wait-same : (old new : ℕ → Option Opened) → new ≡ old → WaitOnNodes calls old → WaitOnNodes calls new
  wait-same old new same = subst (WaitOnNodes calls) (sym same)

  -- one changes, and is on what it was on
  pub wait-changed : (old new : ℕ → Option Opened) (key : ℕ) (f : Opened → Opened) → ((o : Opened) → (f o).node ≡ o.node) → new ≡ change_at key f old → WaitOnNodes calls old → WaitOnNodes calls new
  wait-changed old new key f same changed on = subst (WaitOnNodes calls) (sym changed) (wait-by old (change_at key f old) (λ d. by (nat_eq key d) (old d)) on)
    where
      by : (b : Bool) (o : Option Opened) → Fades o (if b then option_map f o else o)
      by true None = tt
      by true (Some o) = (o, refl, same o)
      by false o = fades-same o

  -- a hold of one is given up
  pub wait-released : (old new : Descs) (before after : Nodes) (key : ℕ) → Releases old new before after key → WaitOnNodes calls (at old.opened) → WaitOnNodes calls (at new.opened)
  wait-released old new before after key r on = subst (WaitOnNodes calls) (sym r.opened) (by (last_hold old key))
    where
      less : (b : Bool) (o : Option Opened) → Fades o (if b then None else o)
      less true o = tt
      less false o = fades-same o

      by : (b : Bool) → WaitOnNodes calls (if b then set_at nat_eq (at old.opened) key None else at old.opened)
      by true = wait-by (at old.opened) (set_at nat_eq (at old.opened) key None) (λ d. less (nat_eq key d) (at old.opened d)) on
      by false = on

  -- and of several
  pub wait-released-all : (keys : List ℕ) (old new : Descs) (before after : Nodes) → ReleasesAll keys old new before after → WaitOnNodes calls (at old.opened) → WaitOnNodes calls (at new.opened)
  wait-released-all [] old new before after r on = subst (λ (d : Descs). WaitOnNodes calls (at d.opened)) (sym r.0) on
  wait-released-all (key ∷ keys) old new before after r on = wait-released-all keys r.0 new r.1 after r.3 (wait-released old r.0 before r.1 key r.2 on)

-- what a call keeps that keeps one
pub kept-one : {A : Type 0} (opened : ℕ → Option Opened) (w : ParkedCall A) (key : ℕ) → w.kept ≡ key ∷ [] → KeepsNodes opened w → OnNode opened w key
kept-one opened w key one h = (subst (All (OnNode opened w)) one h.on) 0 key (omega arith)

pub keeps-one : {A : Type 0} (opened : ℕ → Option Opened) (w : ParkedCall A) (key : ℕ) → w.kept ≡ key ∷ [] → OnNode opened w key → KeepsNodes opened w
keeps-one opened w key one on = record {
  on = subst (All (OnNode opened w)) (sym one) (λ i d l. subst (λ j. OnNode opened w (slice_index_or (key ∷ []) j d)) (let z : 0 ≡ i = omega (arith, l) in z) on);
  apart = subst (GoApart opened w.call) (sym one) tt;
}

-- and one that keeps two
pub keeps-two : {A : Type 0} (opened : ℕ → Option Opened) (w : ParkedCall A) (a b : ℕ) → w.kept ≡ a ∷ b ∷ [] → OnNode opened w a → OnNode opened w b → GoApart opened w.call (a ∷ b ∷ []) → KeepsNodes opened w
keeps-two opened w a b two on_a on_b apart = record {
  on = subst (All (OnNode opened w)) (sym two) each;
  apart = subst (GoApart opened w.call) (sym two) apart;
}
  where
    each : All (OnNode opened w) (a ∷ b ∷ [])
    each zero d l = on_a
    each (suc zero) d l = on_b
    each (suc (suc i)) d l = absurd (omega (arith, l))

-- a call that may keep no file waits on a pipe
pub is-pipe : {A : Type 0} (w : ParkedCall A) → ¬ MayKeepFile w.call → (o : Option Opened) → IfSome o (λ o. MayKeep w o.node) → IfSome o (λ o. IsPipe o.node)
is-pipe w no_file None h = tt
is-pipe w no_file (Some o) h = at o.node h where
  at : (n : Node) → MayKeep w n → IsPipe n
  at (node.Pipe p) h = tt
  at (node.File f) h = absurd (no_file h)

both : {X : Type 0} (P Q R : X → Type 0) (o : Option X) → ((x : X) → P x → Q x → R x) → IfSome o P → IfSome o Q → IfSome o R
both P Q R None f h k = h
both P Q R (Some x) f h k = f x h k

-- a description that no parked call keeps, none waits on
module _ {A : Type 0} (d : ℕ) where
  pub keeps-map : (es : Map ℕ (ParkedCall A)) → list_any (λ (e : ℕ × Waiting A numbers). is_member nat_eq e.1.kept d) (parked_of es) ≡ list_any (λ (e : ℕ × ParkedCall A). is_member nat_eq e.1.kept d) es
  keeps-map [] = refl
  keeps-map (e ∷ es) = ap (λ b. is_member nat_eq e.1.kept d || b) (keeps-map es)

  none_waits : (es : Map ℕ (ParkedCall A)) (n : ℕ) → list_any (λ (e : ℕ × ParkedCall A). is_member nat_eq e.1.kept d) es ≡ false → IfSome (get nat_eq es n) (λ w. is_member nat_eq w.kept d ≡ false)
  none_waits [] n none = tt
  none_waits (e ∷ es) n none = by (is_member nat_eq e.1.kept d) refl none (none_waits es n)
    where
      pick : (b : Bool) → is_member nat_eq e.1.kept d ≡ false → IfSome (get nat_eq es n) (λ w. is_member nat_eq w.kept d ≡ false) → IfSome (cond b (Some e.1) (get nat_eq es n)) (λ w. is_member nat_eq w.kept d ≡ false)
      pick true here rest = here
      pick false here rest = rest

      by : (b : Bool) → is_member nat_eq e.1.kept d ≡ b → (b || list_any (λ (e : ℕ × ParkedCall A). is_member nat_eq e.1.kept d) es) ≡ false
          → (list_any (λ (e : ℕ × ParkedCall A). is_member nat_eq e.1.kept d) es ≡ false → IfSome (get nat_eq es n) (λ w. is_member nat_eq w.kept d ≡ false))
          → IfSome (cond (nat_eq e.0 n) (Some e.1) (get nat_eq es n)) (λ w. is_member nat_eq w.kept d ≡ false)
      by true here f rest = absurd (cc)
      by false here f rest = pick (nat_eq e.0 n) here (rest f)

  pub wait-beside : (calls : Map ℕ (ParkedCall A)) (old : ℕ → Option Opened) (o : Opened) → list_any (λ (e : ℕ × ParkedCall A). is_member nat_eq e.1.kept d) calls ≡ false → WaitOnNodes calls old → WaitOnNodes calls (set_at nat_eq old d (Some o))
  wait-beside calls old o none on number =
      both (KeepsNodes old) (λ w. is_member nat_eq w.kept d ≡ false) (KeepsNodes new) (get nat_eq calls number) (λ w h off. keeps-by old new w (λ q member. one w.kept off q member) h) (on number) (none_waits calls number none)
    where
      new : ℕ → Option Opened
      new = set_at nat_eq old d (Some o)

      one : (kept : List ℕ) → is_member nat_eq kept d ≡ false → (q : ℕ) → is_member nat_eq kept q ≡ true → Fades (old q) (set_at nat_eq old d (Some o) q)
      one kept off q member = elim (eqb_tells d q) as (λ _. Fades (old q) (set_at nat_eq old d (Some o) q)) [
        | inl t ↦ absurd (let f : false ≡ true = sym off ∙ ap (is_member nat_eq kept) t.1 ∙ member in cc)
        | inr t ↦ fades-is (old q) (set_at nat_eq old d (Some o) q) (ap (λ b. cond b (Some o) (old q)) t.0)
      ]
