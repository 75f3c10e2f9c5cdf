use Rattle.pl_kernel.proofs.kernel.Kernel.outcome_of.Goals as goal

pub returns-in-Ok : goal.returns-in-Ok
returns-in-Ok g c = c.in-Ok.ensures.made
