use Rattle.std.proofs.Common.{[], ◌∷◌, sym, subst, List}
use Rattle.pl_segments.specs.declared.slice.Slice.{Slice}
use Rattle.pl_segments.specs.Segments.{segment_at}
use Rattle.pl_segments.specs.Sharing.{AreShared}
use Rattle.pl_segment_checks.proofs.Shares.{file-held, file-turned}
use Rattle.pl_segment_checks.proofs.one_store.OneStore.truncate.Goals as goal

pub truncate-requires : goal.truncate-requires
truncate-requires g c =
    let k = c.self.inside in
    file-held (segment_at k.store) k.left.slots k.right.slots k.file c.self.invariant

pub invariant_of-self : goal.invariant_of-self
invariant_of-self g c =
    let k = c.self.inside in
    let m = segment_at c.truncate.new.store in
    subst (λ (xs : List Slice). AreShared m (k.left.slots ∷ k.right.slots ∷ xs ∷ [])) (sym c.truncate.ensures.value) (file-turned (segment_at k.store) k.left.slots k.right.slots k.file c.self.invariant m [] c.truncate.ensures.turns)
