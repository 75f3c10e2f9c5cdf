use Rattle.std.proofs.Common.{◌≡◌, ℕ, ◌+◌, ◌-◌, ◌≤◌, drop, length}
use Rattle.pl_desc.specs.Rows.{at}
use Rattle.pl_desc.specs.Slots.{opened_in, holders_of, held_all}
use Rattle.pl_desc.proofs.description.hold_all.Given as goal

-- what is left to hold gives the whole, and no count has risen by more than the rows so far
abbrev pub invariant-loop-fd : goal.invariant-loop-fd
invariant-loop-fd g l = record {
  low : l.from ≤ length l.table.names;
  all : held_all (drop l.from l.table.names) l.descriptions.slots ≡ held_all l.table.names l.fn.descriptions.slots;
  rest : l.descriptions ≡ record l.fn.descriptions { slots = l.descriptions.slots };
  same : opened_in l.descriptions.slots ≡ opened_in l.fn.descriptions.slots;
  few : (key : ℕ) → holders_of (at l.descriptions.slots key) ≤ holders_of (at l.fn.descriptions.slots key) + l.from;
}

abbrev pub decreases-loop-fd : goal.decreases-loop-fd
decreases-loop-fd g l = length l.table.names - l.from
