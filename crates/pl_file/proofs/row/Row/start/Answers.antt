use Rattle.std.proofs.Common.{◌<◌, ◌+◌, ◌∙◌, ap, sym, take, arith}
use Rattle.std.proofs.lemmas.List.{take_all}
use Rattle.std.proofs.lemmas.Option.{slice_get_read}
use Rattle.pl_segments.specs.Slots.{total}
use Rattle.pl_file.specs.Rows.{Row}
use Rattle.pl_file.proofs.Placed.{count-is, start-is}
use Rattle.pl_file.proofs.row.Row.start.Goals as goal

pub returns-then-index-len : goal.returns-then-index-len
returns-then-index-len g c =
    let k = c.self.inside.entries in
    let len = c.len.ensures in
    let test = c.if-index-len.true in
    let here : c.args.index < k.len = omega (arith, len, test) in
    start-is c.self.inside.base k.items c.self.invariant.placed c.args.index c.index.result.now (slice_get_read k.items k.len c.args.index c.index.result.now k.ok.0 here c.index.ensures)
    ∙ ap (λ (r : Row). r.base + total (take c.args.index r.slots)) c.self.view_is

pub returns-else-index-len : goal.returns-else-index-len
returns-else-index-len g c =
    let n = count-is c.self.inside c.args.self.now c.self.view_is in
    let len = c.len.ensures in
    let test = c.if-index-len.false in
    c.self.invariant.end
    ∙ ap (λ (r : Row). r.base + total r.slots) c.self.view_is
    ∙ ap (λ xs. c.args.self.now.base + total xs) (sym (take_all c.args.index c.args.self.now.slots (omega (arith, n, len, test))))
