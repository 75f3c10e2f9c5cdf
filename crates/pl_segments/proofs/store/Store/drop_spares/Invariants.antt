use Rattle.std.proofs.Common.{◌≡◌, ◌≤◌, ◌-◌}
use Rattle.pl_segments.proofs.store.Store.drop_spares.Given as goal

-- there are fewer spare segments, and else all is as it was
abbrev pub invariant-loop-self : goal.invariant-loop-self
invariant-loop-self g l = record {
  left : l.count ≤ l.self.room;
  kept : l.self ≡ record l.initial.self { room = l.self.room };
}

abbrev pub decreases-loop-self : goal.decreases-loop-self
decreases-loop-self g l = l.self.room - l.count
