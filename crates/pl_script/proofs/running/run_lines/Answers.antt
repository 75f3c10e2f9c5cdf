use Rattle.pl_script.proofs.running.run_lines.Goals as goal

pub run_each-requires-clause-stands : goal.run_each-requires-clause-stands
run_each-requires-clause-stands g c = (c.args.limits, c.new-kernel.ensures)

pub returns-clause-run : goal.returns-clause-run
returns-clause-run g c = c.run_each.ensures.run c.args.limits c.new-kernel.ensures
