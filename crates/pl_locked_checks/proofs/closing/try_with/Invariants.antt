use Rattle.pl_locked_checks.proofs.closing.try_with.Given as goal

-- the layer that is opened there
abbrev pub ghosts-open-N-Ledger : goal.ghosts-open-N-Ledger
ghosts-open-N-Ledger g a = record { name = a.ground.name; parts = a.ground.parts }

abbrev pub ghosts-open-N-Layer : goal.ghosts-open-N-Layer
ghosts-open-N-Layer g a = record { table = a.ground.table; limits = a.limits; callers = a.callers; max_steps = a.max_steps }
