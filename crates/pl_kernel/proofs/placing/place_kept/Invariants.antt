use Rattle.std.proofs.Common.{drop, Bool}
use Rattle.std.specs.List.{flat_map}
use Rattle.pl_state.specs.Contents.{core_of}
use Rattle.pl_waiters.specs.declared.waiters.Waiters.{Waiters}
use Rattle.pl_kernel.specs.Queues.{ends, place_in}
use Rattle.pl_kernel.specs.Index.{Adds}
use Rattle.pl_kernel.proofs.placing.place_kept.Given as goal

-- what adds the rest adds all
abbrev pub invariant-loop-key : goal.invariant-loop-key
invariant-loop-key g l =
    (u : Waiters g.row.A.Denot) (done : Bool) → Adds (core_of l.state) l.waiters u l.number (flat_map (place_in l.queue) (ends (core_of l.state) (drop l.key-index l.kept))) done
    → Adds (core_of l.state) l.initial.waiters u l.number (flat_map (place_in l.queue) (ends (core_of l.state) l.kept)) done
