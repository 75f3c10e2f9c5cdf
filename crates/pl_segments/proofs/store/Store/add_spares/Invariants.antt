use Rattle.std.proofs.Common.{◌≡◌, ◌≤◌, ◌-◌, max}
use Rattle.pl_segments.proofs.store.Store.add_spares.Given as goal

-- there are more spare segments, and else all is as it was
abbrev pub invariant-loop-self : goal.invariant-loop-self
invariant-loop-self g l = record {
  grows : l.initial.self.room ≤ l.self.room;
  most : l.self.room ≤ max l.count l.initial.self.room;
  kept : l.self ≡ record l.initial.self { room = l.self.room };
}

abbrev pub decreases-loop-self : goal.decreases-loop-self
decreases-loop-self g l = l.count - l.self.room
