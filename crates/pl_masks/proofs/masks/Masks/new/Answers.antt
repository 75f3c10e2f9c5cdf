use Rattle.pl_masks.proofs.Levels.{masked-none}
use Rattle.pl_masks.proofs.masks.Masks.new.Goals as goal

pub invariant_of-result : goal.invariant_of-result
invariant_of-result g c = record {
  kept = rw (c.new.ensures.items, c.new-2.ensures.items) masked-none;
}
