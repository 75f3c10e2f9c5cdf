use Rattle.std.proofs.Common.{◌<◌, ◌∙◌, ap, sym, arith, slice_get}
use Rattle.std.proofs.lemmas.Option.{slice_get_read}
use Rattle.pl_file.specs.Rows.{Row}
use Rattle.pl_file.proofs.Placed.{count-is, slots-get}
use Rattle.pl_file.proofs.row.Row.get.Goals as goal

pub index-requires : goal.index-requires
index-requires g c = let n = count-is c.self.inside c.args.self.now c.self.view_is in omega (arith, n, c.requires)

pub returns : goal.returns
returns g c =
    let k = c.self.inside.entries in
    let n = count-is c.self.inside c.args.self.now c.self.view_is in
    let here : c.args.index < k.len = omega (arith, n, c.requires) in
    ap (λ (r : Row). slice_get r.slots c.args.index) (sym c.self.view_is)
    ∙ slots-get k.items c.args.index c.index.result.now (slice_get_read k.items k.len c.args.index c.index.result.now k.ok.0 here c.index.ensures)
