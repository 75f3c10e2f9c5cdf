use Rattle.std.proofs.Common.{◌≡◌, ◌+◌, ◌-◌, ◌*◌, ◌/◌, nat_lt, ◌∙◌, ap, length, arith}
use Rattle.pl_segments.specs.Slots.{total}
use Rattle.pl_file.specs.Rows.{Row}
use Rattle.pl_file.proofs.Placed.{count-is}
use Rattle.pl_file.proofs.row.Row.is_scattered.Goals as goal

pub returns : goal.returns
returns g c =
    let e = c.self.invariant.end in
    let t = ap (λ (r : Row). total r.slots) c.self.view_is in
    let bytes : c.self.inside.end - c.self.inside.base ≡ total c.args.self.now.slots = omega (arith, e, t) in
    let many : c.len.result ≡ length c.args.self.now.slots = c.len.ensures ∙ count-is c.self.inside c.args.self.now c.self.view_is in
    (λ i. nat_lt (2 * (bytes i / 4096) + 16) (many i))
