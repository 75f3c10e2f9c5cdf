use Rattle.std.proofs.Common.{◌≡◌, ◌-◌, ap, sym, length, Some, None, slice_get}
use Rattle.pl_segments.specs.Slots.{last_len}
use Rattle.pl_segments.proofs.LastSlot.{last-got, none-last}
use Rattle.pl_ring.proofs.places.last_len.Goals as goal

pub returns-in-Some : goal.returns-in-Some
returns-in-Some g c =
    let xs = c.args.slots.now.items in
    let got : slice_get xs (length xs - 1) ≡ Some c.in-Some.slot.now = sym c.in-Some.ensures in
    sym (last-got xs c.in-Some.slot.now got)

pub returns-in-None : goal.returns-in-None
returns-in-None g c =
    let xs = c.args.slots.now.items in
    let none : slice_get xs (length xs - 1) ≡ None = sym c.in-None.ensures in
    sym (ap last_len (none-last xs none))
