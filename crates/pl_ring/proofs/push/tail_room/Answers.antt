use Rattle.std.proofs.Common.{◌≡◌, ◌-◌, ◌∙◌, ap, sym, length, Some, None, slice_get}
use Rattle.pl_segments.specs.Segments.{segment_at}
use Rattle.pl_segments.specs.Slots.{tail_room}
use Rattle.pl_segments.proofs.LastSlot.{last-lies, room-got, none-last}
use Rattle.pl_ring.proofs.push.tail_room.Goals as goal

pub room_after-requires : goal.room_after-requires
room_after-requires g c =
    let xs = c.args.slots.now.items in
    let got : slice_get xs (length xs - 1) ≡ Some c.in-Some.slot.now = sym c.in-Some.ensures in
    last-lies (segment_at c.args.store.now) xs c.in-Some.slot.now got c.requires

pub returns-in-Some-clause-value : goal.returns-in-Some-clause-value
returns-in-Some-clause-value g c =
    let xs = c.args.slots.now.items in
    let got : slice_get xs (length xs - 1) ≡ Some c.in-Some.slot.now = sym c.in-Some.ensures in
    c.room_after.ensures.value ∙ sym (room-got (segment_at c.args.store.now) xs c.in-Some.slot.now got)

pub returns-in-None-clause-value : goal.returns-in-None-clause-value
returns-in-None-clause-value g c =
    let xs = c.args.slots.now.items in
    let none : slice_get xs (length xs - 1) ≡ None = sym c.in-None.ensures in
    sym (ap (tail_room (segment_at c.args.store.now)) (none-last xs none))
