-- What stands at the places of a table.
use Rattle.std.proofs.Common.{◌≡◌, ℕ, zero, suc, ◌<◌, ◌≤◌, ◌++◌, take, List, [], ◌∷◌, map, length, replicate, Option, Some, None, refl, sym, ap, arith, get_or}
use Rattle.std.specs.Prelude.{if◌then◌else◌}
use Rattle.std.proofs.lemmas.Bool.{ne_eqb}
use Rattle.pl_desc.specs.Rows.{at, no_key}
use Rattle.pl_desc.specs.TableView.{named, named_all}

-- what is named at a place that a key stands at
pub named-key : (key : ℕ) → key < no_key → named key ≡ Some key
named-key key l = ap (λ b. if b then None else Some key) (ne_eqb key no_key (λ h. absurd (omega arith)))

pub named-other : (key : ℕ) → (key ≡ no_key → ⊥) → named key ≡ Some key
named-other key other = ap (λ b. if b then None else Some key) (ne_eqb key no_key other)

pub named-none : (key : ℕ) → key ≡ no_key → named key ≡ None
named-none key is = ap named is

-- what a descriptor names, by the key at its place
pub key-at : (keys : List ℕ) (fd key : ℕ) → fd < length keys → key ≡ get_or keys fd key → at (map named keys) fd ≡ named key
key-at [] fd key l e = absurd (omega arith)
key-at (x ∷ xs) zero key l e = ap named (sym e)
key-at (x ∷ xs) (suc fd) key l e = key-at xs fd key (omega arith) e

-- rows of free descriptors
pub at-free : {V : Type 0} (n k : ℕ) → ◌≡◌ {A = Option V} (at (replicate n None) k) None
at-free zero k = refl
at-free (suc n) zero = refl
at-free (suc n) (suc k) = at-free n k

-- a row is pushed, of a free descriptor
pub named-push : (keys : List ℕ) → named_all (keys ++ no_key ∷ []) ≡ named_all keys ++ None ∷ []
named-push [] = refl
named-push (x ∷ xs) = ap (λ ys. named x ∷ ys) (named-push xs)

pub at-push : (names : List (Option ℕ)) (k : ℕ) → at (names ++ None ∷ []) k ≡ at names k
at-push [] zero = refl
at-push [] (suc k) = refl
at-push (x ∷ xs) zero = refl
at-push (x ∷ xs) (suc k) = at-push xs k

-- the rows from one on are taken away, of free descriptors
pub at-cut : (keys : List ℕ) (row : ℕ) → ((k : ℕ) → row ≤ k → at (named_all keys) k ≡ None) → (k : ℕ) → at (named_all (take row keys)) k ≡ at (named_all keys) k
at-cut [] zero free k = refl
at-cut [] (suc row) free k = refl
at-cut (x ∷ xs) zero free k = sym (free k (omega arith))
at-cut (x ∷ xs) (suc row) free zero = refl
at-cut (x ∷ xs) (suc row) free (suc k) = at-cut xs row (λ j l. free (suc j) (omega (arith, l))) k
