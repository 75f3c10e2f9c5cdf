use Rattle.std.proofs.Common.{◌≡◌, ◌++◌, take, drop}
use Rattle.pl_polls.specs.Entries.{marked}
use Rattle.pl_polls.proofs.entries.mark.Given as goal

-- the entries so far are marked, and those to come will be
abbrev pub invariant-loop-place : goal.invariant-loop-place
invariant-loop-place l = take l.place l.entries ++ marked (drop l.place l.entries) (drop l.place l.masks) ≡ marked l.initial.entries l.masks
