-- That what descriptions are on, and what names stand for, is there, through each change.
use Rattle.std.proofs.Common.{◌≡◌, ◌≢◌, ℕ, ◌<◌, Bool, true, false, cond, List, length, Option, Some, None, refl, sym, ◌∙◌, ap, subst, inl, inr, nat_eq, slice_index_or}
use Rattle.std.proofs.Math.Path.{fun_ext}
use Rattle.std.specs.Prelude.{◌⊎◌, ◌&&◌, option_map, if◌then◌else◌, IfSome, IsSome}
use Rattle.std.proofs.lemmas.Bool.{eq-eqb}
use Rattle.std.proofs.lemmas.Bool.Decides.{eqb_tells}
use Rattle.std.proofs.lemmas.List.Folds.{list_any_at}
use Rattle.pl_model.specs.declared.node.Node.{Node}
use Rattle.pl_model.specs.declared.node.Node.TheVariants as node
use Rattle.pl_model.specs.Map.{kept_if, set_at}
use Rattle.pl_model.specs.Modes.{any_mode}
use Rattle.pl_model.specs.State.{Core, Pipe}
use Rattle.pl_model.specs.Settle.{settle}
use Rattle.pl_model.specs.Numbered.{numbers}
use Rattle.pl_model.specs.Laws.{IsSettled}
use Rattle.pl_model.specs.Nodes.{same_node, has_name}
use Rattle.pl_model.proofs.settling.Members.{or_left, or_right}
use Rattle.pl_model.proofs.settling.Idempotent.{settled}
use Rattle.pl_model.proofs.settling.FromSettled.{at_other}
use Rattle.pl_model.proofs.Nodes.{same_node-refl}
use Rattle.pl_model.proofs.Counting.{some_counted}
use Rattle.pl_desc.specs.Rows.{at}
use Rattle.pl_desc.specs.Descs.{Opened, Descs, is_end_on, ends_on, last_hold}
use Rattle.pl_state.specs.Contents.{Nodes, IsThere}
use Rattle.pl_state.specs.LastHold.{is_kept, is_open_on, ended_pipe, pipes_left, files_left, Leaves, Releases}
use Rattle.pl_state.specs.Sound.{AreThere}
use Rattle.pl_nodes.proofs.Keyed.{within}

-- what settling left is settled
pub settled_after : {A : Type 0} (c before u : Core A numbers) → c ≡ settle before u → IsSettled c
settled_after c before u e = subst IsSettled (sym e) (settled before u)

module _ (opened : ℕ → Option Opened) (nodes : Nodes) (there : AreThere opened nodes) (d : ℕ) where
  -- a description comes, on a node that is there, or one goes
  pub there-added : (o : Opened) → IsThere nodes o.node → AreThere (set_at nat_eq opened d (Some o)) nodes
  there-added o h = record { described = λ q. by (nat_eq d q) q; named = there.named }
    where
      by : (b : Bool) (q : ℕ) → IfSome (cond b (Some o) (opened q)) (λ o. IsThere nodes o.node)
      by true q = h
      by false q = there.described q

  pub there-removed : AreThere (set_at nat_eq opened d None) nodes
  there-removed = record { described = λ q. by (nat_eq d q) q; named = there.named }
    where
      by : (b : Bool) (q : ℕ) → IfSome (cond b None (opened q)) (λ o. IsThere nodes o.node)
      by true q = tt
      by false q = there.described q

-- what was there is there still
pub there-still : (opened : ℕ → Option Opened) (old new : Nodes) → new.names ≡ old.names → ((n : Node) → IsThere old n → IsThere new n) → AreThere opened old → AreThere opened new
there-still opened old new names still there = record {
  described = λ d. by (opened d) (there.described d);
  named = subst (λ (ns : List (List ℕ × Node)). (k : ℕ) (e : List ℕ × Node) → k < length ns → IsThere new (slice_index_or ns k e).1) (sym names) (λ k e l. still (slice_index_or old.names k e).1 (there.named k e l));
}
  where
    by : (o : Option Opened) → IfSome o (λ o. IsThere old o.node) → IfSome o (λ o. IsThere new o.node)
    by None h = tt
    by (Some o) h = still o.node h

module _ {X : Type 0} where
  pub set_some : (m : ℕ → Option X) (k q : ℕ) (o : Option X) → (k ≡ q → IsSome o) → IsSome (m q) → IsSome (set_at nat_eq m k o q)
  set_some m k q o at_k h = elim (eqb_tells k q) as (λ _. IsSome (set_at nat_eq m k o q)) [
    | inl t ↦ subst (λ b. IsSome (cond b o (m q))) (sym t.0) (at_k t.1)
    | inr t ↦ subst (λ b. IsSome (cond b o (m q))) (sym t.0) h
  ]

  kept_some : (b : Bool) (o : Option X) → b ≡ true → IsSome o → IsSome (kept_if b o)
  kept_some b o k h = subst (λ c. IsSome (kept_if c o)) (sym k) h

  mapped_some : {Y : Type 0} (f : X → Y) (o : Option X) → IsSome o → IsSome (option_map f o)
  mapped_some f (Some x) h = refl
  mapped_some f None h = absurd (let e : false ≡ true = h in cc)

-- a pipe is put there
pub there-put : (opened : ℕ → Option Opened) (nodes new : Nodes) (p : ℕ) (x : Pipe) → at new.pipes ≡ set_at nat_eq (at nodes.pipes) p (Some x) → at new.files ≡ at nodes.files → new.names ≡ nodes.names → AreThere opened nodes → AreThere opened new
there-put opened nodes new p x is files names = there-still opened nodes new names still
  where
    still : (n : Node) → IsThere nodes n → IsThere new n
    still (node.Pipe q) h = subst (λ (m : ℕ → Option Pipe). IsSome (m q)) (sym is) (set_some (at nodes.pipes) p q (Some x) (λ e. refl) h)
    still (node.File f) h = subst (λ (m : ℕ → Option (List ℕ)). IsSome (m f)) (sym files) h

-- a description is on a node, and a name stands for one, that is kept
kept_open : (opened : List (Option Opened)) (nodes : Nodes) (d : ℕ) (o : Opened) → at opened d ≡ Some o → is_kept opened nodes o.node ≡ true
unfolding ends_on
kept_open opened nodes d o here = or_left (is_open_on opened o.node) (has_name nodes.names o.node) (some_counted test opened ∙ list_any_at test opened d None (within opened d o here) (ap test here ∙ (λ i. same_node-refl o.node i && true)))
  where
    test : Option Opened → Bool
    test = is_end_on any_mode o.node

kept_named : (opened : List (Option Opened)) (nodes : Nodes) (k : ℕ) (e : List ℕ × Node) → k < length nodes.names → is_kept opened nodes (slice_index_or nodes.names k e).1 ≡ true
kept_named opened nodes k e l = or_right (is_open_on opened n) (has_name nodes.names n) (list_any_at (λ (x : List ℕ × Node). same_node x.1 n) nodes.names k e l (same_node-refl n))
  where
    n : Node
    n = (slice_index_or nodes.names k e).1

-- A description on a node is gone: what something keeps of the nodes is left.
module _ (before after : List (Option Opened)) (old new : Nodes) (n : Node) (leaves : Leaves before after old new n) where
  stays : (m : Node) → is_kept after old m ≡ true → IsThere old m → IsThere new m
  stays (node.Pipe q) k h = subst (λ (m : ℕ → Option Pipe). IsSome (m q)) (sym leaves.pipes) (left n)
    where
      left : (n : Node) → IsSome (pipes_left before after old n q)
      left (node.Pipe p) = set_some (at old.pipes) p q _ (λ e. mapped_some (ended_pipe before after p) _ (kept_some _ _ (ap (λ z. is_kept after old (node.Pipe z)) e ∙ k) (subst (λ z. IsSome (at old.pipes z)) (sym e) h))) h
      left (node.File f) = h
  stays (node.File g) k h = subst (λ (m : ℕ → Option (List ℕ)). IsSome (m g)) (sym leaves.files) (left n)
    where
      left : (n : Node) → IsSome (files_left after old n g)
      left (node.Pipe p) = h
      left (node.File f) = set_some (at old.files) f g _ (λ e. kept_some _ _ (ap (λ z. is_kept after old (node.File z)) e ∙ k) (subst (λ z. IsSome (at old.files z)) (sym e) h)) h

  pub there-left : AreThere (at after) old → AreThere (at after) new
  there-left there = record {
    described = λ d. by d (at after d) refl (there.described d);
    named = subst (λ (ns : List (List ℕ × Node)). (k : ℕ) (e : List ℕ × Node) → k < length ns → IsThere new (slice_index_or ns k e).1) (sym leaves.names) (λ k e l. stays (slice_index_or old.names k e).1 (kept_named after old k e l) (there.named k e l));
  }
    where
      by : (d : ℕ) (o : Option Opened) → at after d ≡ o → IfSome o (λ o. IsThere old o.node) → IfSome o (λ o. IsThere new o.node)
      by d None e h = tt
      by d (Some o) e h = stays o.node (kept_open after old d o e) h

-- a hold is given up, with the description where that was its last holder
pub there-released : (old new : Descs) (before after : Nodes) (key : ℕ) (o : Opened) → at old.opened key ≡ Some o → Releases old new before after key → AreThere (at old.opened) before → AreThere (at new.opened) after
there-released old new before after key o here r there = by (last_hold old key) refl
  where
    opened_is : (b : Bool) → last_hold old key ≡ b → at new.opened ≡ (if b then set_at nat_eq (at old.opened) key None else at old.opened)
    opened_is b e = r.opened ∙ ap (λ b. if b then set_at nat_eq (at old.opened) key None else at old.opened) e

    by : (b : Bool) → last_hold old key ≡ b → AreThere (at new.opened) after
    by true e = there-left old.opened new.opened before after o.node (subst (λ z. IfSome z (λ o. Leaves old.opened new.opened before after o.node)) here (r.leaves e)) (subst (λ m. AreThere m before) (sym (opened_is true e)) (there-removed (at old.opened) before there key))
    by false e = subst (λ m. AreThere m after) (sym (opened_is false e)) (subst (λ ns. AreThere (at old.opened) ns) (sym (r.stays e)) there)

-- the function of a map with this at a key
pub map-set_at : {V W : Type 0} (f : V → W) (m : ℕ → Option V) (k : ℕ) (o : Option V) → (λ d. option_map f (set_at nat_eq m k o d)) ≡ set_at nat_eq (λ d. option_map f (m d)) k (option_map f o)
map-set_at f m k o = fun_ext (λ d. by (nat_eq k d) d) where
  by : (b : Bool) (d : ℕ) → option_map f (cond b o (m d)) ≡ cond b (option_map f o) (option_map f (m d))
  by true d = refl
  by false d = refl

-- a key that is vacant after another was taken is another, and was vacant before
pub vacant_other : {V : Type 0} (m n : ℕ → Option V) (d d' : ℕ) (v : V) → n ≡ set_at nat_eq m d (Some v) → n d' ≡ None → (m d' ≡ None) × (d ≢ d')
vacant_other {V} m n d d' v e h = by (eqb_tells d d') where
  there : set_at nat_eq m d (Some v) d' ≡ None
  there = sym (ap (λ f. f d') e) ∙ h

  taken : d ≡ d' → ⊥
  taken t = (let s : Some v ≡ None = sym (ap (λ b. cond b (Some v) (m d')) (eq-eqb d d' t)) ∙ there in cc)

  by : ((nat_eq d d' ≡ true) × (d ≡ d')) ⊎ ((nat_eq d d' ≡ false) × (d ≢ d')) → (m d' ≡ None) × (d ≢ d')
  by (inl t) = absurd (taken t.1)
  by (inr t) = (sym (at_other m d d' (Some v) t.1) ∙ there, t.1)
