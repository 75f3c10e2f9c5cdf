use Rattle.std.proofs.Common.{◌≡◌, ◌++◌, ◌∙◌, List, ap, sym, subst, take, drop, arith}
use Rattle.pl_file.specs.Rows.{Row, flat, AreChunks}
use Rattle.pl_file.proofs.Splitting.{placed-slots, placed-chunks, moved-added}
use Rattle.pl_file.proofs.pieces.put_rows.Given.{Over}
use Rattle.pl_file.proofs.pieces.put_rows.Goals.{After-move_last}
use Rattle.pl_file.proofs.pieces.put_rows.Goals as goal

-- the chunks that are added, in the place of others
module _ (g : Over) (c : After-move_last g) where
  moved : c.move_last.new.rows.items ≡ take c.args.first c.args.rows.now.items ++ (c.push_chunks.ensures.added ++ drop c.args.last c.args.rows.now.items)
  moved =
      let xs = c.args.rows.now.items in
      let len = c.len-len.result in
      let n = c.len-len.ensures in
      let ok = c.args.rows.now.ok.0 in
      c.move_last.ensures
      ∙ ap (λ (ys : List Row). take c.args.first ys ++ (drop len ys ++ drop c.args.last (take len ys))) c.push_chunks.ensures.is
      ∙ moved-added xs c.push_chunks.ensures.added c.args.first c.args.last len (omega (arith, n, ok)) (omega (arith, c.requires.order, c.requires.most))

pub returns-clause-slots : goal.returns-clause-slots
returns-clause-slots g c =
    let k = (goal.at.returns-clause-slots g c).After-move_last in
    let e = c.push_chunks.ensures in
    ap flat (moved g k) ∙ placed-slots c.args.rows.now.items e.added c.args.middle c.args.first c.args.last e.slots e.chunks c.requires.chunks c.requires.starts c.requires.ends

pub returns-clause-chunks : goal.returns-clause-chunks
returns-clause-chunks g c =
    let k = (goal.at.returns-clause-chunks g c).After-move_last in
    let e = c.push_chunks.ensures in
    subst (AreChunks 0) (sym (moved g k)) (placed-chunks c.args.rows.now.items e.added c.args.middle c.args.first c.args.last e.slots e.chunks c.requires.chunks c.requires.starts c.requires.ends)
