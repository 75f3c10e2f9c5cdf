use Rattle.std.proofs.Common.{◌≡◌, [], ◌∷◌, ap, sym, subst, List}
use Rattle.pl_segments.specs.declared.slice.Slice.{Slice}
use Rattle.pl_segments.specs.Segments.{segment_at}
use Rattle.pl_segments.specs.Sharing.{AreShared}
use Rattle.pl_ring.specs.Ring.{Ring}
use Rattle.pl_segment_checks.proofs.Shares.{left-held, left-turned}
use Rattle.pl_segment_checks.proofs.one_store.OneStore.reset.Goals as goal

pub reset-requires : goal.reset-requires
reset-requires g c =
    let k = c.self.inside in
    left-held (segment_at k.store) k.left.slots k.right.slots k.file c.self.invariant

pub invariant_of-self : goal.invariant_of-self
invariant_of-self g c =
    let k = c.self.inside in
    let m = segment_at c.reset.new.store in
    let none : c.reset.new.self.slots ≡ [] = ap (λ (r : Ring). r.slots) c.reset.ensures.value in
    subst (λ (xs : List Slice). AreShared m (xs ∷ k.right.slots ∷ k.file ∷ [])) (sym none) (left-turned (segment_at k.store) k.left.slots k.right.slots k.file c.self.invariant m [] c.reset.ensures.turns)
