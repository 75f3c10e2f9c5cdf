use Rattle.std.proofs.Common.{◌≡◌}
use Rattle.pl_parked.specs.Meeting.{all_marked}
use Rattle.pl_parked.proofs.Meeting.{unmet}
use Rattle.pl_parked.proofs.parked.Parked.mark_met.Given as goal

-- what all opens come to once they are met stays the same
abbrev pub invariant-loop-number : goal.invariant-loop-number
invariant-loop-number g l = record l.self { calls = all_marked l.pipe l.mode l.self.calls } ≡ record l.initial.self { calls = all_marked l.pipe l.mode l.initial.self.calls }

abbrev pub decreases-loop-number : goal.decreases-loop-number
decreases-loop-number g l = unmet l.self.calls
