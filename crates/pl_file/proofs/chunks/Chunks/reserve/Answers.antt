use Rattle.std.proofs.Common.{arith}
use Rattle.pl_file.proofs.Chunking.{length-lens}
use Rattle.pl_file.proofs.chunks.Chunks.reserve.Goals as goal

pub returns-clause-ready : goal.returns-clause-ready
returns-clause-ready g c =
    let rows = c.try_reserve.new.self in
    let pieces = c.in_ok-pieces.ensures in
    let e = c.pieces_for-count.ensures.enough in
    let ok = c.in_ok-try_reserve.ensures.ok in
    let n = length-lens rows.items in
    let len = rows.ok.0 in
    let p = pieces.len in
    record {
      empty = pieces.empty;
      none = pieces.none;
      whole = λ some. pieces.last (omega (arith, p, some));
      enough = omega (arith, e, p);
      list = omega (arith, ok, n, len, p);
    }
