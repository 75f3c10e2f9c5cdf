use Rattle.std.proofs.Common.{◌∙◌}
use Rattle.pl_segments.specs.Segments.{segment_at}
use Rattle.pl_segments.proofs.SlotLemmas.{reads-cut_end}
use Rattle.pl_ring.proofs.front.copy_slot.Goals as goal

pub returns : goal.returns
returns g c =
    c.in_ok-from_slice.ensures.items ∙ c.bytes.ensures ∙ reads-cut_end (segment_at c.args.store.now) c.args.slot c.args.count c.requires.count
