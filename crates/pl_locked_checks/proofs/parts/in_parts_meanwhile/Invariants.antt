use Rattle.pl_locked_checks.proofs.parts.in_parts_meanwhile.Given as goal

-- the layer that is opened there
abbrev pub ghosts-both_on-N-Ledger : goal.ghosts-both_on-N-Ledger
ghosts-both_on-N-Ledger g a = record { name = a.ground.name; parts = a.ground.parts }

abbrev pub ghosts-both_on-N-Layer : goal.ghosts-both_on-N-Layer
ghosts-both_on-N-Layer g a = record { table = a.ground.table; limits = a.limits; callers = a.callers; max_steps = a.max_steps }
