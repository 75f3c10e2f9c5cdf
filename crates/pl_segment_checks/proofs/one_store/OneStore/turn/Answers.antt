use Rattle.std.proofs.Common.{[], ◌∷◌, sym, subst}
use Rattle.pl_segments.specs.Segments.{segment_at}
use Rattle.pl_segments.specs.Sharing.{AreShared}
use Rattle.pl_ring.specs.Ring.{Ring}
use Rattle.pl_segment_checks.proofs.Shares.{swapped}
use Rattle.pl_segment_checks.proofs.one_store.OneStore.turn.Goals as goal

pub invariant_of-self : goal.invariant_of-self
invariant_of-self g c =
    let k = c.self.inside in
    let m = segment_at k.store in
    subst (λ (l : Ring). AreShared m (l.slots ∷ c.swap.new.y.slots ∷ k.file ∷ [])) (sym c.swap.ensures.x_after)
    (subst (λ (r : Ring). AreShared m (k.right.slots ∷ r.slots ∷ k.file ∷ [])) (sym c.swap.ensures.y_after) (swapped m k.left.slots k.right.slots k.file c.self.invariant))
