use Rattle.std.proofs.Common.{sym, ◌∙◌, arith}
use Rattle.pl_model.specs.Words.{words}
use Rattle.pl_lines.proofs.Explaining.{at_end, surplus, here, further}
use Rattle.pl_lines.proofs.explain.first_fault.Goals as goal

pub returns-in_default-next_expected : goal.returns-in_default-next_expected
returns-in_default-next_expected c =
    sym (surplus c.args.version c.args.first c.loop-word.number c.args.expected.now c.loop-word.ahead.now (words c.args.rest.now) (words c.loop-word.left.now) c.loop-word.invariant.same c.in-Some.word.now (words c.in-Some.behind.now) c.in-Some.ensures c.in_default-next_expected.ensures)

pub returns-in-Some-word_fault : goal.returns-in-Some-word_fault
returns-in-Some-word_fault c =
    sym (here c.args.version c.args.first c.loop-word.number c.args.expected.now c.loop-word.ahead.now (words c.args.rest.now) (words c.loop-word.left.now) c.loop-word.invariant.same c.in-Some.word.now (words c.in-Some.behind.now) c.in-Some.ensures c.in-Some-next_expected.kind c.in-Some-next_expected.others.now c.in-Some-next_expected.ensures c.in-Some-word_fault.fault (sym c.in-Some-word_fault.ensures))

pub loop-word-preserved : goal.loop-word-preserved
loop-word-preserved c = record {
  same = further c.args.version c.args.first c.loop-word.number c.args.expected.now c.loop-word.ahead.now (words c.args.rest.now) (words c.loop-word.left.now) c.loop-word.invariant.same c.in-Some.word.now (words c.in-Some.behind.now) c.in-Some.ensures c.in-Some-next_expected.kind c.in-Some-next_expected.others.now c.in-Some-next_expected.ensures (sym c.in_default-word_fault.ensures);
  count = let so_far = rw c.in-Some.ensures at c.loop-word.invariant.count in omega arith;
}

pub returns : goal.returns
returns c =
    c.end_fault.ensures ∙ sym (at_end c.args.version c.args.first c.loop-word.number c.args.expected.now c.loop-word.ahead.now (words c.args.rest.now) (words c.loop-word.left.now) c.loop-word.invariant.same c.in_default.ensures)
