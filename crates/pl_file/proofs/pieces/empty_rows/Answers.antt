use Rattle.std.proofs.Common.{ap, subst, sym, length, arith}
use Rattle.std.proofs.lemmas.List.{length_push}
use Rattle.pl_file.specs.Rows.{AreEmpty}
use Rattle.pl_file.proofs.Splitting.{empty-push}
use Rattle.pl_file.proofs.pieces.empty_rows.Goals as goal

pub loop-alloc-preserved : goal.loop-alloc-preserved
loop-alloc-preserved g c =
    let rows = c.loop-alloc.rows in
    let row = c.in_ok-with_capacity.field-0 in
    let e = c.push_reserved.ensures in
    let n = ap length e.items in
    let one = length_push rows.items row in
    let len = c.len.ensures in
    let ok = rows.ok.0 in
    let test = c.loop-alloc-test.true in
    record {
      most = omega (arith, n, one, len, ok, test);
      room = omega (arith, e.capacity, c.loop-alloc.invariant.room);
      empty = subst AreEmpty (sym e.items) (empty-push rows.items row c.loop-alloc.invariant.empty c.in_ok-with_capacity.ensures.slots c.in_ok-with_capacity.ensures.capacity);
    }
