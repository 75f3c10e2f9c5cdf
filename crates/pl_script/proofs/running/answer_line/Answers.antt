use Rattle.pl_script.proofs.running.answer_line.Goals as goal

pub returns-in-Do-clause-answered : goal.returns-in-Do-clause-answered
returns-in-Do-clause-answered g c = rw c.in-Do.is c.answer_step.ensures.answered

pub returns-in-File-clause-answered : goal.returns-in-File-clause-answered
returns-in-File-clause-answered g c = rw c.in-File.is c.answer_file.ensures.answered
