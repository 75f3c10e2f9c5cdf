-- The stream law of whole runs.
use Rattle.std.proofs.Common.{Bool, true, false, List, ◌++◌, length, sym, ◌∙◌, ap, subst}
use Rattle.pl_model.specs.declared.calls.Call.{Call}
use Rattle.pl_model.specs.declared.calls.Step.{Step}
use Rattle.pl_model.specs.Modes.{writes}
use Rattle.pl_model.specs.Packets.{is_byte_queue}
use Rattle.pl_model.specs.Trial.{pipe_at}
use Rattle.pl_model.specs.Begin.{open_for}
use Rattle.pl_model.specs.Numbered.{State}
use Rattle.pl_model.specs.Run.{after}
use Rattle.pl_model.specs.StandsFor.{IsBelowCounters}
use Rattle.pl_model.specs.Stream.{held}
use Rattle.pl_model.specs.Fates.{bytes_answered}
use Rattle.pl_model.specs.InOrder.{HasTaken, AreInOrder}
use Rattle.pl_model.specs.StreamLaw.{StreamLaw, Adds, Reads, MovesNothing, may_wait}
use Rattle.pl_model.proofs.streams.StreamRuns.{stream-run}
use Rattle.pl_model.proofs.streams.Pieces.{joined_chunks, joined_outs}
use Rattle.pl_model.proofs.streams.Courses.{run_order}
use Rattle.pl_model.proofs.streams.WriteRuns.{write_run}
use Rattle.pl_model.proofs.streams.ReadRuns.{keeps_queue, read_run}
use Rattle.pl_model.proofs.streams.MoveRuns.{move_run, splice_moves, tee_moves}
use Rattle.pl_model.proofs.streams.MoveBegins.{FirstCarries, splice_begins, tee_begins, begun_move, step_adds}
use Rattle.pl_model.proofs.streams.MoveMoments.{waiting_adds, begun_adds}
use Rattle.pl_model.proofs.streams.PollRuns.{poll_run, begun_poll}
use Rattle.pl_model.proofs.streams.BegunRuns.{run_below, in_whole, begun_write, begun_read}

pub stream_law : {A : Type 0} (s : State A) (xs : List (Step A × Bool)) → IsBelowCounters s → AreInOrder s.core → StreamLaw s xs
stream_law s xs below order =
    record {
      stream = λ p. ap (λ b. held s.core p ++ b) (joined_chunks 0 s xs p) ∙ (stream-run s xs p below ∙ ap (λ b. b ++ held (after s xs).core p) (sym (joined_outs 0 s xs p)));
      waiting_write = λ p c w fd bytes here is on. write_run p p fd bytes 0 s xs c w below order here (is, subst (λ z. HasTaken z w.taken) is (order.taken c w here), on);
      waiting_read = λ p c w fd n here is on. read_run p p fd n (is_byte_queue (pipe_at s.core p)) 0 s xs c w below order here (is, keeps_queue p s.core w.kept on);
      begun_write = λ before rest p pid fd bytes e on.
          in_whole p p s xs before rest pid (Call.Write fd bytes) (λ ins outs end. Adds (may_wait (open_for writes (after s before).core pid fd)) bytes 0 ins end) e order
          (begun_write p p (length before) (after s before) rest pid (run_below s before below) (run_order s before order) fd bytes on);
      begun_read = λ before rest p pid fd n e on.
          in_whole p p s xs before rest pid (Call.Read fd n) (λ ins outs end. Reads n (is_byte_queue (pipe_at (after s before).core p)) outs (bytes_answered end.ending)) e order
          (begun_read p p (length before) (after s before) rest pid (run_below s before below) (run_order s before order) fd n on);
      waiting_splice = λ from to p q c w from_fd to_fd from_offset to_offset len flags here is on.
          move_run p q false from to (Call.Splice from_fd from_offset to_fd to_offset len flags) (splice_moves p q from to from_fd to_fd len flags from_offset to_offset) 0 s xs c w below order here (is, on);
      waiting_tee = λ from to p q c w from_fd to_fd len flags here is on.
          move_run p q true from to (Call.Tee from_fd to_fd len flags) (tee_moves p q from to from_fd to_fd len flags) 0 s xs c w below order here (is, on);
      begun_splice = λ before rest from to p q pid from_fd to_fd from_offset to_offset len flags e on.
          let call = Call.Splice from_fd from_offset to_fd to_offset len flags in
          let tries = splice_moves p q from to from_fd to_fd len flags from_offset to_offset in
          in_whole p q s xs before rest pid call (FirstCarries p q false from to call tries) e order
          (begun_move p q false from to call tries (length before) (after s before) rest pid (run_below s before below) (run_order s before order)
          (splice_begins (after s before) from to pid from_fd to_fd from_offset to_offset len flags (run_below s before below) on));
      begun_tee = λ before rest from to p q pid from_fd to_fd len flags e on.
          let call = Call.Tee from_fd to_fd len flags in
          let tries = tee_moves p q from to from_fd to_fd len flags in
          in_whole p q s xs before rest pid call (FirstCarries p q true from to call tries) e order
          (begun_move p q true from to call tries (length before) (after s before) rest pid (run_below s before below) (run_order s before order)
          (tee_begins (after s before) from to pid from_fd to_fd len flags (run_below s before below) on));
      tried_move = λ before rest x p q e tries. step_adds p q (after s before) (run_below s before below) x tries;
      waiting_move = λ p q c w here is on. waiting_adds p q s xs c w below order here is on;
      begun_move = λ before rest p q pid call e tries. begun_adds p q s xs before rest pid call below order e tries;
      waiting_poll = λ p c w entries wait here is. poll_run p p entries wait 0 s xs c w below order here is;
      begun_poll = λ before rest p pid entries wait e.
          in_whole p p s xs before rest pid (Call.Poll entries wait) (λ ins outs end. MovesNothing ins outs) e order
          (begun_poll p p entries wait (length before) (after s before) rest pid (run_below s before below) (run_order s before order));
    }
