-- What is left of a node, from the flags that the kernel read.
use Rattle.std.proofs.Common.{◌≡◌, ◌≢◌, ◌+◌, ℕ, arith, nat_lt, Bool, true, false, List, Option, Some, None, IfSome, refl, sym, ◌∙◌, ap, subst, inl, inr, nat_eq}
use Rattle.std.proofs.Math.Path.{fun_ext}
use Rattle.std.proofs.lemmas.Bool.Decides.{eqb_tells}
use Rattle.std.specs.Prelude.{if◌then◌else◌, ◌||◌, ◌&&◌, option_map}
use Rattle.pl_model.specs.Map.{kept_if, set_at, change_at}
use Rattle.pl_model.specs.State.{Pipe, empty_pipe}
use Rattle.pl_model.specs.Nodes.{has_name}
use Rattle.pl_numbered.proofs.Rising.{IfSome_by}
use Rattle.pl_desc.specs.Rows.{at}
use Rattle.pl_model.specs.declared.calls.Mode.{Mode}
use Rattle.pl_model.specs.declared.node.Node.{Node}
use Rattle.pl_model.specs.declared.node.Node.TheVariants as node
use Rattle.pl_model.specs.Modes.{reads, writes}
use Rattle.pl_model.specs.Settle.{hangs, with_ends}
use Rattle.pl_desc.specs.declared.released.Released.TheVariants.{Still, Gone}
use Rattle.pl_desc.specs.Ends.{one_if}
use Rattle.pl_desc.specs.Descs.{Opened, Descs, is_end_on, ends_on, last_hold, gone, released}
use Rattle.pl_desc.proofs.Sound.{ends-change}
use Rattle.pl_model.proofs.Nodes.{same_node-refl}
use Rattle.std.proofs.lemmas.Bool.{eq-eqb, ne_eqb, lt-ltb}
use Rattle.pl_nodes.specs.Nodes.{Nodes as KeptNodes}
use Rattle.pl_state.specs.LastHold.{has_reader, has_writer, is_open_on, with_these_ends, Leaves}
use Rattle.pl_state.specs.Contents.{Nodes, nodes_of}
use Rattle.pl_state.proofs.holders.Ends.{any_end}

-- a change at a key, and the value put there
change_at-set : {V : Type 0} (k : ℕ) (f : V → V) (m : ℕ → Option V) → change_at k f m ≡ set_at nat_eq m k (option_map f (m k))
change_at-set k f m = fun_ext (λ q. elim (eqb_tells k q) as (λ _. change_at k f m q ≡ set_at nat_eq m k (option_map f (m k)) q) [
  | inl t ↦ ap (λ b. if b then option_map f (m q) else m q) t.0 ∙ ap (λ z. option_map f (m z)) (sym t.1) ∙ sym (ap (λ b. if b then option_map f (m k) else m q) t.0)
  | inr t ↦ ap (λ b. if b then option_map f (m q) else m q) t.0 ∙ sym (ap (λ b. if b then option_map f (m k) else m q) t.0)
])

-- a pipe is left with these ends, and was hung or not
module _ (p : ℕ) (old new : KeptNodes) (r w h w0 : Bool) (h_is : IfSome (at old.pipes p) (λ x. h ≡ x.hung)) where
  abbrev decided : Option Bool
  decided = if r || w then Some (hangs r w (h || w0)) else None

  abbrev kept : Bool
  kept = (r || w) || has_name old.names (node.Pipe p)

  abbrev Left : Type 0
  Left = at new.pipes ≡ set_at nat_eq (at old.pipes) p (option_map (with_these_ends r w w0) (kept_if ((r || w) || has_name old.names (node.Pipe p)) (at old.pipes p)))

  was : (x : Pipe) → at old.pipes p ≡ Some x → h ≡ x.hung
  was x e = subst (λ o. IfSome o (λ x. h ≡ x.hung)) e h_is

  pub left_hung : (hung : Bool) → decided ≡ Some hung → at new.pipes ≡ change_at p (λ x. record x { hung = hung }) (at old.pipes) → Left
  left_hung hung d is = is ∙ change_at-set p (λ x. record x { hung = hung }) (at old.pipes) ∙ ap (λ o. set_at nat_eq (at old.pipes) p o) (by (r || w) d (at old.pipes p) refl)
    where
      by : (b : Bool) → ◌≡◌ {A = Option Bool} (if b then Some (hangs r w (h || w0)) else None) (Some hung) → (o : Option Pipe) → at old.pipes p ≡ o
          → option_map (λ (x : Pipe). record x { hung = hung }) o ≡ option_map (λ x. with_ends b r w (x.hung || w0) x) (kept_if (b || has_name old.names (node.Pipe p)) o)
      by true e None t = refl
      by true e (Some x) t = (let s : hangs r w (h || w0) ≡ hung = cc in λ i. Some (record x { hung = (sym s ∙ ap (λ z. hangs r w (z || w0)) (was x t)) i }))
      by false e o t = absurd (cc)

  pub left_reset : decided ≡ None → has_name old.names (node.Pipe p) ≡ true → at new.pipes ≡ change_at p (λ x. empty_pipe) (at old.pipes) → Left
  left_reset d n is = is ∙ change_at-set p (λ x. empty_pipe) (at old.pipes) ∙ ap (λ o. set_at nat_eq (at old.pipes) p o) (by (r || w) d ∙ ap (λ b. option_map (with_these_ends r w w0) (kept_if ((r || w) || b) (at old.pipes p))) (sym n))
    where
      by : (b : Bool) → ◌≡◌ {A = Option Bool} (if b then Some (hangs r w (h || w0)) else None) None
          → option_map (λ (x : Pipe). empty_pipe) (at old.pipes p) ≡ option_map (λ x. with_ends b r w (x.hung || w0) x) (kept_if (b || true) (at old.pipes p))
      by true e = absurd (cc)
      by false e = refl

  pub left_none : decided ≡ None → has_name old.names (node.Pipe p) ≡ false → at new.pipes ≡ set_at nat_eq (at old.pipes) p None → Left
  left_none d n is = is ∙ ap (λ o. set_at nat_eq (at old.pipes) p o) (by (r || w) d ∙ ap (λ b. option_map (with_these_ends r w w0) (kept_if ((r || w) || b) (at old.pipes p))) (sym n))
    where
      by : (b : Bool) → ◌≡◌ {A = Option Bool} (if b then Some (hangs r w (h || w0)) else None) None
          → ◌≡◌ {A = Option Pipe} None (option_map (λ x. with_ends b r w (x.hung || w0) x) (kept_if (b || false) (at old.pipes p)))
      by true e = absurd (cc)
      by false e = refl

-- what is left of a pipe is what a description that is gone leaves of it
module _ (before after : List (Option Opened)) (p : ℕ) (old new : KeptNodes) (r w w0 : Bool)
    (r_is : r ≡ has_reader after p) (w_is : w ≡ has_writer after p) (w0_is : w0 ≡ has_writer before p) where
  open_is : (r || w) ≡ is_open_on after (node.Pipe p)
  open_is = (λ i. r_is i || w_is i) ∙ sym (any_end (node.Pipe p) after)

  pub leaves_pipe : at new.pipes ≡ set_at nat_eq (at old.pipes) p (option_map (with_these_ends r w w0) (kept_if ((r || w) || has_name old.names (node.Pipe p)) (at old.pipes p)))
      → at new.files ≡ at old.files → new.names ≡ old.names → new.limits ≡ old.limits → Leaves before after (nodes_of old) (nodes_of new) (node.Pipe p)
  leaves_pipe is files names limits = record {
    pipes = is ∙ (λ i. set_at nat_eq (at old.pipes) p (option_map (λ x. with_ends (open_is i) (r_is i) (w_is i) (x.hung || w0_is i) x) (kept_if (open_is i || has_name old.names (node.Pipe p)) (at old.pipes p))));
    files = files;
    names = names;
    limits = limits;
  }

-- and likewise of a file
pub leaves_file : (before after : List (Option Opened)) (f : ℕ) (old new : KeptNodes) (b : Bool) → b ≡ is_open_on after (node.File f)
    → at new.files ≡ set_at nat_eq (at old.files) f (kept_if (b || has_name old.names (node.File f)) (at old.files f)) → at new.pipes ≡ at old.pipes
    → new.names ≡ old.names → new.limits ≡ old.limits → Leaves before after (nodes_of old) (nodes_of new) (node.File f)
leaves_file before after f old new b b_is is pipes names limits = record {
  pipes = pipes;
  files = is ∙ ap (λ z. set_at nat_eq (at old.files) f (kept_if (z || has_name old.names (node.File f)) (at old.files f))) b_is;
  names = names;
  limits = limits;
}

-- of the description of a key, which was on the node
pub leaves_at : (before after : List (Option Opened)) (key : ℕ) (n : Node) (old new : Nodes) → option_map (λ (o : Opened). o.node) (at before key) ≡ Some n
    → Leaves before after old new n → IfSome (at before key) (λ o. Leaves before after old new o.node)
leaves_at before after key n old new is left = IfSome_by (at before key) (λ o. Leaves before after old new o.node)
    (λ o here. let is_on : Some o.node ≡ Some n = sym (ap (option_map (λ (o : Opened). o.node)) here) ∙ is in let same : o.node ≡ n = cc in subst (Leaves before after old new) (sym same) left)

-- What a release told of a description that is gone: its node, what is left there, and whether it or another wrote there before.
pub record Told (before after : List (Option Opened)) (key : ℕ) (n : Node) (m : Mode) (readers writers : ℕ) : Type 0 where
  pub on : option_map (λ (o : Opened). o.node) (at before key) ≡ Some n
  pub reads_left : nat_lt 0 readers ≡ nat_lt 0 (ends_on reads after n)
  pub writes_left : nat_lt 0 writers ≡ nat_lt 0 (ends_on writes after n)
  pub wrote : (nat_lt 0 writers || writes m) ≡ nat_lt 0 (ends_on writes before n)

pub told : (descs : Descs) (key : ℕ) (after : List (Option Opened)) (n : Node) (m : Mode) (readers writers : ℕ)
    → option_map (released (last_hold descs key) after) (at descs.opened key) ≡ Some (Gone n m readers writers)
    → at after ≡ (if last_hold descs key then set_at nat_eq (at descs.opened) key None else at descs.opened) → Told descs.opened after key n m readers writers
told descs key after n m readers writers said left = by (at descs.opened key) refl (last_hold descs key) said left
  where
    before : List (Option Opened)
    before = descs.opened

    by : (o : Option Opened) → at before key ≡ o → (last : Bool) → option_map (released last after) o ≡ Some (Gone n m readers writers)
        → at after ≡ (if last then set_at nat_eq (at before) key None else at before) → Told before after key n m readers writers
    by None here last t is = absurd (cc)
    by (Some o) here false t is = absurd (let s : Some Still ≡ Some (Gone n m readers writers) = t in cc)
    by (Some o) here true t is =
        let s : Some (gone after o) ≡ Some (Gone n m readers writers) = t in
        let same : o.node ≡ n = cc in
        let mode : o.mode ≡ m = cc in
        let r : ends_on reads after o.node ≡ readers = cc in
        let w : ends_on writes after o.node ≡ writers = cc in
        let others : (q : ℕ) → q ≢ key → at after q ≡ at before q = λ q other. ap (λ f. f q) is ∙ ap (λ b. if b then None else at before q) (ne_eqb key q (λ e. other (sym e))) in
        let now : at after key ≡ None = ap (λ f. f key) is ∙ ap (λ b. if b then None else at before key) (eq-eqb key key refl) in
        let was : one_if (is_end_on writes o.node (at before key)) ≡ one_if (writes o.mode) = ap (λ x. one_if (is_end_on writes o.node x)) here ∙ ap (λ b. one_if (b && writes o.mode)) (same_node-refl o.node) in
        let none : one_if (is_end_on writes o.node (at after key)) ≡ 0 = ap (λ x. one_if (is_end_on writes o.node x)) now in
        let counts : writers + one_if (writes o.mode) ≡ ends_on writes before o.node = omega (arith, ends-change key before after others writes o.node, was, none, w) in
        record {
          on = ap (option_map (λ (o : Opened). o.node)) here ∙ ap (λ n. Some n) same;
          reads_left = ap (nat_lt 0) (sym r ∙ ap (ends_on reads after) same);
          writes_left = ap (nat_lt 0) (sym w ∙ ap (ends_on writes after) same);
          wrote = ap (λ m. nat_lt 0 writers || writes m) (sym mode) ∙ or_one writers (writes o.mode) ∙ ap (nat_lt 0) (counts ∙ ap (ends_on writes before) same);
        }
      where
        or_true : (x : Bool) → (x || true) ≡ true
        or_true true = refl
        or_true false = refl

        or_false : (x : Bool) → (x || false) ≡ x
        or_false true = refl
        or_false false = refl

        or_one : (k : ℕ) (b : Bool) → (nat_lt 0 k || b) ≡ nat_lt 0 (k + one_if b)
        or_one k true = or_true (nat_lt 0 k) ∙ sym (lt-ltb 0 (k + 1) (omega arith))
        or_one k false = or_false (nat_lt 0 k) ∙ ap (nat_lt 0) (let e : k ≡ k + 0 = omega arith in e)

-- what is told of the node of a key's description
pub node_told : (P : Node → Type 0) (o : Option Opened) (n : Node) → IfSome o (λ o. P o.node) → option_map (λ (o : Opened). o.node) o ≡ Some n → P n
node_told P None n h is = absurd (cc)
node_told P (Some o) n h is = (let same : o.node ≡ n = cc in subst P same h)
