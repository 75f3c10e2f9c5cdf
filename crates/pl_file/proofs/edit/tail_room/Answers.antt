use Rattle.std.proofs.Common.{◌∙◌, sym}
use Rattle.pl_segments.specs.Segments.{segment_at}
use Rattle.pl_segments.proofs.LastSlot.{last-lies, room-got}
use Rattle.pl_file.proofs.edit.tail_room.Goals as goal

pub room_after-requires : goal.room_after-requires
room_after-requires g c = last-lies (segment_at c.args.store.now) c.args.chunks.now.slots c.last.result c.last.ensures.got c.requires

pub returns : goal.returns
returns g c = c.room_after.ensures.value ∙ sym (room-got (segment_at c.args.store.now) c.args.chunks.now.slots c.last.result c.last.ensures.got)
