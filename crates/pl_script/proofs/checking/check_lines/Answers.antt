use Rattle.pl_script.proofs.checking.check_lines.Goals as goal

pub check_each-requires-clause-stands : goal.check_each-requires-clause-stands
check_each-requires-clause-stands g c = (c.args.limits, c.new-kernel.ensures)

pub returns-clause-run : goal.returns-clause-run
returns-clause-run g c = c.check_each.ensures.run c.args.limits c.new-kernel.ensures
