use Rattle.pl_bench.proofs.nanoseconds.Given as goal

-- the layer that is opened there
abbrev pub ghosts-bench-N-Ledger : goal.ghosts-bench-N-Ledger
ghosts-bench-N-Ledger g a = record { name = a.ground.name; parts = a.ground.parts }

abbrev pub ghosts-bench-N-Layer : goal.ghosts-bench-N-Layer
ghosts-bench-N-Layer g a = record { table = a.ground.table; limits = a.limits; callers = a.count; max_steps = a.max_steps }
