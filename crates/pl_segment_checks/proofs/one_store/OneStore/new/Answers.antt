use Rattle.std.proofs.Common.{◌≡◌, ℕ, zero, suc, List, [], ◌∷◌, ap, sym, refl, subst}
use Rattle.pl_segments.specs.Segments.{at, segment_at}
use Rattle.pl_segments.specs.Slices.{AllLie}
use Rattle.pl_segments.specs.Sharing.{AreShared, slots_at}
use Rattle.pl_ring.specs.Ring.{Ring}
use Rattle.pl_segment_checks.proofs.one_store.OneStore.new.Goals as goal

-- a store without segments, and slots that name none
nothing : AreShared (at []) ([] ∷ [] ∷ [] ∷ [])
nothing = record { counted = λ key. refl; lie = lie }
  where
    lie : (p : ℕ) → AllLie (at []) (slots_at ([] ∷ [] ∷ [] ∷ []) p)
    lie zero = tt
    lie (suc zero) = tt
    lie (suc (suc zero)) = tt
    lie (suc (suc (suc p))) = tt

pub invariant_of-result : goal.invariant_of-result
invariant_of-result g c =
    let left : c.in_ok-left.left.slots ≡ [] = ap (λ (r : Ring). r.slots) c.in_ok-left.ensures in
    let right : c.in_ok-right.right.slots ≡ [] = ap (λ (r : Ring). r.slots) c.in_ok-right.ensures in
    let file : c.new-4.result ≡ [] = c.new-4.ensures in
    let m = segment_at c.new-3.result in
    let none : AreShared m ([] ∷ [] ∷ [] ∷ []) = subst (λ s. AreShared (segment_at s) ([] ∷ [] ∷ [] ∷ [])) (sym c.new-3.ensures) nothing in
    subst (λ xs. AreShared m (xs ∷ c.in_ok-right.right.slots ∷ c.new-4.result ∷ [])) (sym left)
    (subst (λ xs. AreShared m ([] ∷ xs ∷ c.new-4.result ∷ [])) (sym right)
    (subst (λ xs. AreShared m ([] ∷ [] ∷ xs ∷ [])) (sym file) none))
