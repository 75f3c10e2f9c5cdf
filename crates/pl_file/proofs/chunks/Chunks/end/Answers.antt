use Rattle.std.proofs.Common.{◌≡◌, ◌-◌, ◌∙◌, Some, List, ap, sym, subst, length, slice_get}
use Rattle.pl_segments.specs.Slots.{total}
use Rattle.pl_file.specs.Rows.{Row, Chunks}
use Rattle.pl_file.proofs.Chunking.{last-end}
use Rattle.pl_file.proofs.chunks.Chunks.end.Goals as goal

pub returns-in-Some : goal.returns-in-Some
returns-in-Some g c =
    let rows = c.self.inside.rows.items in
    let row = c.in-Some.row.now in
    let got : slice_get rows (length rows - 1) ≡ Some row = subst (λ (rs : List Row). slice_get rs (length rs - 1) ≡ Some row) c.deref.ensures.value (sym c.in-Some.ensures.value) in
    c.end.ensures ∙ last-end rows row c.self.invariant.chunks got ∙ ap (λ (v : Chunks). total v.slots) c.self.view_is
