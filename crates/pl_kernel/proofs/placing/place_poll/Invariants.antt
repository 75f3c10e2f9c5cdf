use Rattle.std.proofs.Common.{◌≡◌, Bool, true, drop}
use Rattle.pl_state.specs.Contents.{core_of}
use Rattle.pl_waiters.specs.declared.waiters.Waiters.{Waiters}
use Rattle.pl_kernel.specs.Queues.{ends, poll_places, are_kept}
use Rattle.pl_kernel.specs.Index.{Adds}
use Rattle.pl_kernel.proofs.placing.place_poll.Given as goal

-- what adds the rest adds all, and all is kept if the rest is
abbrev pub invariant-loop-fd : goal.invariant-loop-fd
invariant-loop-fd g l = record {
  adds : (u : Waiters g.row.A.Denot) (done : Bool) → Adds (core_of l.state) l.waiters u l.number (poll_places (drop l.fd-index l.entries) (ends (core_of l.state) (drop l.before l.kept))) done
      → Adds (core_of l.state) l.initial.waiters u l.number (poll_places l.entries (ends (core_of l.state) l.kept)) done;
  whole : are_kept (drop l.fd-index l.entries) (ends (core_of l.state) (drop l.before l.kept)) ≡ true → are_kept l.entries (ends (core_of l.state) l.kept) ≡ true;
}
