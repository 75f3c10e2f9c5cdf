use Rattle.std.proofs.Common.{sym}
use Rattle.pl_lines.proofs.LineLemmas.{line_before_feed}
use Rattle.pl_lines.proofs.lines.next_line.Goals as goal

pub returns-in-Some-clause-lines : goal.returns-in-Some-clause-lines
returns-in-Some-clause-lines c =
    rw (c.split_at.ensures.front, c.split_at-in-Some.ensures.back) (line_before_feed c.args.rest.now c.in-Some.end (sym c.in-Some.ensures.place))
