use Rattle.std.proofs.Common.{◌≡◌, ◌-◌, ◌∙◌, Some, ap, sym, length, slice_get}
use Rattle.pl_segments.specs.Slots.{last_len}
use Rattle.pl_file.specs.Rows.{slots_of}
use Rattle.pl_file.proofs.Placed.{slots-are, last-entry}
use Rattle.pl_file.proofs.row.Row.last_len.Goals as goal

pub returns-in-Some : goal.returns-in-Some
returns-in-Some g c =
    let es = c.deref.result.now in
    let got : slice_get es (length es - 1) ≡ Some c.in-Some.entry.now = sym c.in-Some.ensures.value in
    last-entry es c.in-Some.entry.now got
    ∙ ap (λ gs. last_len (slots_of gs)) c.deref.ensures.value
    ∙ ap last_len (slots-are c.self.inside c.args.self.now c.self.view_is)
