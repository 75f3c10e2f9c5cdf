use Rattle.pl_talk.proofs.main.Given as goal

-- the layer that is opened there
abbrev pub ghosts-talk-N-Ledger : goal.ghosts-talk-N-Ledger
ghosts-talk-N-Ledger g a = record { name = a.ground.name; parts = a.ground.parts }

abbrev pub ghosts-talk-N-Layer : goal.ghosts-talk-N-Layer
ghosts-talk-N-Layer g a = record { table = a.ground.table; limits = a.limits; callers = a.count; max_steps = a.max_steps }
