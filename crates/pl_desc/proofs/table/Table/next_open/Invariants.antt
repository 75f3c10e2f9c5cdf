use Rattle.std.proofs.Common.{◌≡◌, ℕ, ◌<◌, ◌≤◌, ◌-◌, None}
use Rattle.pl_desc.specs.Rows.{at}
use Rattle.pl_desc.proofs.table.Table.next_open.Given as goal

-- none was open so far
abbrev pub invariant-loop-fd : goal.invariant-loop-fd
invariant-loop-fd g l = record {
  low : l.least ≤ l.fd;
  none : (k : ℕ) → l.least ≤ k → k < l.fd → at l.self.names k ≡ None;
}

abbrev pub decreases-loop-fd : goal.decreases-loop-fd
decreases-loop-fd g l = l.self.rows - l.fd
