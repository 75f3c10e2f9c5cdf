use Rattle.std.proofs.Common.{arith}
use Rattle.pl_segment_checks.proofs.Shares.{few}
use Rattle.pl_segment_checks.proofs.one_store.name_few.Goals as goal

pub returns : goal.returns
returns g c =
    let l = c.len-left.ensures.value in
    let r = c.len-right.ensures.value in
    let f = c.len-file.ensures.value in
    let x = c.len-left.type_inv in
    let y = c.len-right.type_inv in
    let z = c.len-file.type_inv in
    few c.args.left.now.slots c.args.right.now.slots c.args.file.now c.len-left.ensures.solid c.len-right.ensures.solid c.len-file.ensures.solid (omega (arith, l, x)) (omega (arith, r, y)) (omega (arith, f, z))
