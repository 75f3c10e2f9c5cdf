use Rattle.std.proofs.Common.{◌≡◌, ◌≤◌, ◌<◌, ℕ, None, Option, slice_index_or}
use Rattle.pl_numbered.proofs.numbered.Numbered.next_from.Given as goal

-- the entries that were passed are empty
abbrev pub invariant-loop-place : goal.invariant-loop-place
invariant-loop-place g l = (k : ℕ) (d : ℕ × Option g.row.T.Denot) → l.start ≤ k → k < l.place → (slice_index_or l.self.entries.items k d).1 ≡ None
