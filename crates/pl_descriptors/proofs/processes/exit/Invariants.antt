use Rattle.std.proofs.Common.{◌≡◌, ℕ, ◌<◌, None, true, length}
use Rattle.std.specs.Prelude.{is_some, count_by}
use Rattle.pl_model.proofs.settling.AtOnce.{IsExiting}
use Rattle.pl_desc.specs.Rows.{is_pid, rows_of, row_at}
use Rattle.pl_state.specs.KernelView.{view_of}
use Rattle.pl_state.specs.Contents.{core_of}
use Rattle.pl_state.specs.Sound.{IsSound, AreCounted}
use Rattle.pl_state.proofs.by_call.Exiting.{NoneBelow}
use Rattle.pl_descriptors.proofs.processes.exit.Given as goal

-- some descriptors are closed, and all that holds between calls holds
abbrev pub invariant-loop-fd : goal.invariant-loop-fd
invariant-loop-fd g l = record {
  kept : IsSound g.row.A.Denot (view_of l.kernel-inside) × AreCounted g.row.A.Denot l.kernel-inside.limits l.kernel-inside.descs l.kernel-inside.parked.calls;
  leaving : IsExiting (core_of l.fn.kernel) l.pid (core_of (view_of l.kernel-inside));
  process : is_pid l.kernel-inside.descs.tables l.pid ≡ true;
  gone : (fd : ℕ) → fd < l.least → row_at l.kernel-inside.descs.tables l.pid fd ≡ None;
}

abbrev pub decreases-loop-fd : goal.decreases-loop-fd
decreases-loop-fd g l = count_by is_some (rows_of l.kernel-inside.descs.tables l.pid)

-- all are closed, and the parked calls of the process below a number are dropped
abbrev pub invariant-loop-number : goal.invariant-loop-number
invariant-loop-number g l = record {
  leaving : IsExiting (core_of l.fn.kernel) l.pid (core_of l.kernel);
  process : is_pid l.kernel.tables l.pid ≡ true;
  closed : (fd : ℕ) → row_at l.kernel.tables l.pid fd ≡ None;
  dropped : NoneBelow l.kernel.calls.calls l.pid l.from;
}

abbrev pub decreases-loop-number : goal.decreases-loop-number
decreases-loop-number g l = length l.kernel.calls.calls
