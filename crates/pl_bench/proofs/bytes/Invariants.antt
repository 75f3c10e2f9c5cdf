use Rattle.pl_bench.proofs.bytes.Given as goal

-- the layer that is opened there
abbrev pub ghosts-entry_bytes-N-Ledger : goal.ghosts-entry_bytes-N-Ledger
ghosts-entry_bytes-N-Ledger g a = record { name = a.ground.name; parts = a.ground.parts }

abbrev pub ghosts-entry_bytes-N-Layer : goal.ghosts-entry_bytes-N-Layer
ghosts-entry_bytes-N-Layer g a = record { table = a.ground.table; limits = a.limits; callers = 1; max_steps = a.max_steps }
