-- The entries of the tree of names, by the bytes of their keys.
use Rattle.std.proofs.Common.{◌≡◌, ℕ, cond, true, false, not, List, [], ◌∷◌, Some, None, refl, sym, ◌∙◌, ap, nat_eq, map}
use Rattle.std.specs.Prelude.{Bool, Option, Result, is_some, IsSome, IsErrOf, ◌↔◌}
use Rattle.std.specs.declared.vec.Vec.{Vec}
use Rattle.std.specs.declared.cmp.Ordering.{Ordering}
use Rattle.std.specs.declared.cmp.Ordering.TheVariants.{Less, Equal, Greater}
use Rattle.std.specs.Ordering.{nat_cmp, match_ordering}
use Rattle.std.specs.Cmp.Lexicographic.{slice_cmp, pointwise}
use Rattle.std.specs.List.{filter}
use Rattle.std.specs.Map.{lookup, remove_entry}
use Rattle.std.specs.BTreeMap.{insert_entry, is_at, get_by}
use Rattle.std.proofs.lemmas.Cmp.{nat_list_eq_equiv}
use Rattle.std.proofs.lemmas.Map.Text.{is_eq-slice_cmp}
use Rattle.pl_model.specs.declared.node.Node.{Node}
use Rattle.pl_model.specs.Map.{get, without, put_in_order}
use Rattle.pl_nodes.specs.declared.nodes.Nodes.TheInside.{Inside}
use Rattle.pl_nodes.specs.Nodes.{Nodes}
use Rattle.pl_nodes.specs.NodesView.{names_of, view_of}

-- what is mapped is mapped in each case
map-match : {X Y : Type 0} (f : X → Y) (o : Ordering) (a b c : List X) → map f (match_ordering o a b c) ≡ match_ordering o (map f a) (map f b) (map f c)
map-match f Less a b c = refl
map-match f Equal a b c = refl
map-match f Greater a b c = refl

module _ {A : Type 0} where
  -- how these bytes compare to a key
  abbrev pub compares : List ℕ → Vec ℕ A → Ordering
  compares name k = slice_cmp nat_cmp name k.items

  -- the tree's look-up is that of the names
  pub lookup-names : (name : List ℕ) (es : List (Vec ℕ A × Node)) → lookup (is_at (compares name)) es ≡ get (pointwise nat_eq) (names_of es) name
  lookup-names name [] = refl
  lookup-names name (e ∷ es) =
      let same = is_eq-slice_cmp name e.0.items ∙ nat_list_eq_equiv.symm name e.0.items in
      (λ i. cond (same i) (Some e.1) (lookup-names name es i))

  -- its insertion puts a name at its place
  pub insert-names : (es : List (Vec ℕ A × Node)) (k : Vec ℕ A) (node : Node)
      → names_of (insert_entry (λ x y. slice_cmp nat_cmp x.items y.items) es k node) ≡ put_in_order (slice_cmp nat_cmp) (names_of es) k.items node
  insert-names [] k node = refl
  insert-names (e ∷ es) k node =
      map-match (λ (d : Vec ℕ A × Node). (d.0.items, d.1)) (slice_cmp nat_cmp k.items e.0.items) ((k, node) ∷ e ∷ es) ((e.0, node) ∷ es) (e ∷ insert_entry (λ x y. slice_cmp nat_cmp x.items y.items) es k node)
      ∙ ap (λ rest. match_ordering (slice_cmp nat_cmp k.items e.0.items) ((k.items, node) ∷ (e.0.items, e.1) ∷ names_of es) ((e.0.items, node) ∷ names_of es) ((e.0.items, e.1) ∷ rest)) (insert-names es k node)

-- what finds nothing from an entry on finds nothing behind it
pub past-head : {X : Type 0} (here : Bool) (x : X) (rest : Option X) → cond here (Some x) rest ≡ None → rest ≡ None
past-head true x rest none = absurd (cc)
past-head false x rest none = none

-- where nothing passes a test, all are kept
keeps-head : {X Y : Type 0} (here : Bool) (x : X) (rest : Option X) (e : Y) (es kept : List Y) → cond here (Some x) rest ≡ None → kept ≡ es → cond (not here) (e ∷ kept) kept ≡ e ∷ es
keeps-head true x rest e es kept none all = absurd (cc)
keeps-head false x rest e es kept none all = ap (λ ys. e ∷ ys) all

keeps-all : {K X : Type 0} (test : K → Bool) (es : List (K × X)) → lookup test es ≡ None → filter (λ e. not (test e.0)) es ≡ es
keeps-all test [] none = refl
keeps-all test (e ∷ es) none = keeps-head (test e.0) e.1 (lookup test es) e es (filter (λ d. not (test d.0)) es) none (keeps-all test es (past-head (test e.0) e.1 (lookup test es) none))

-- where one is taken by a test and none is left that passes it, all are taken
module _ {K X : Type 0} (test : K → Bool) where
  removes-head : (here : Bool) (e : K × X) (es : List (K × X)) → lookup test (cond here es (e ∷ remove_entry test es)) ≡ None
      → (lookup test (remove_entry test es) ≡ None → remove_entry test es ≡ filter (λ d. not (test d.0)) es)
      → cond here es (e ∷ remove_entry test es) ≡ cond (not here) (e ∷ filter (λ d. not (test d.0)) es) (filter (λ d. not (test d.0)) es)
  removes-head true e es none rest = sym (keeps-all test es none)
  removes-head false e es none rest = ap (λ ys. e ∷ ys) (rest (past-head (test e.0) e.1 (lookup test (remove_entry test es)) none))

  removes-all : (es : List (K × X)) → lookup test (remove_entry test es) ≡ None → remove_entry test es ≡ filter (λ e. not (test e.0)) es
  removes-all [] none = refl
  removes-all (e ∷ es) none = removes-head (test e.0) e es none (removes-all es)

map-cond : {X Y : Type 0} (f : X → Y) (b : Bool) (xs ys : List X) → map f (cond b xs ys) ≡ cond b (map f xs) (map f ys)
map-cond f true xs ys = refl
map-cond f false xs ys = refl

module _ {A : Type 0} (name : List ℕ) where
  kept-names : (es : List (Vec ℕ A × Node)) → names_of (filter (λ e. not (is_at (compares name) e.0)) es) ≡ without (pointwise nat_eq) (names_of es) name
  kept-names [] = refl
  kept-names (e ∷ es) =
      let kept = filter (λ (d : Vec ℕ A × Node). not (is_at (compares name) d.0)) es in
      map-cond (λ (d : Vec ℕ A × Node). (d.0.items, d.1)) (not (is_at (compares name) e.0)) (e ∷ kept) kept
      ∙ (λ i. cond (not (is_eq-slice_cmp name e.0.items i)) ((e.0.items, e.1) ∷ kept-names es i) (kept-names es i))

  -- the tree's removal takes a name away
  pub remove-names : (es : List (Vec ℕ A × Node)) → lookup (is_at (compares name)) (remove_entry (is_at (compares name)) es) ≡ None
      → names_of (remove_entry (is_at (compares name)) es) ≡ without (pointwise nat_eq) (names_of es) name
  remove-names es none = ap (λ ds. names_of ds) (removes-all (is_at (compares name)) es none) ∙ kept-names es

-- whether the tree has a name
module _ {A : Type 0} (k : Inside A) (flat : Nodes) (is : view_of k ≡ flat) (name : List ℕ) where
  pub looked-up : get_by (compares name) k.names ≡ get (pointwise nat_eq) flat.names name
  looked-up = lookup-names name k.names.entries ∙ ap (λ (v : Nodes). get (pointwise nat_eq) v.names name) is

  -- it has, and this is said
  pub there : (found : Bool) → found ≡ is_some (get_by (compares name) k.names) → found ≡ true → {T E : Type 0} (r : Result T E) (e : E) → IsErrOf r e → IsErrOf r e ↔ IsSome (get (pointwise nat_eq) flat.names name)
  there found said has r e same = (λ _. sym (ap is_some looked-up) ∙ sym said ∙ has, λ _. same)

  -- it hasn't, and something else is said
  pub not-there : (found : Bool) → found ≡ is_some (get_by (compares name) k.names) → found ≡ false → {T E : Type 0} (r : Result T E) (e : E) → (IsErrOf r e → ⊥) → IsErrOf r e ↔ IsSome (get (pointwise nat_eq) flat.names name)
  not-there found said lacks r e other = (λ h. absurd (other h), λ some. let same = ap is_some looked-up in absurd (cc))
