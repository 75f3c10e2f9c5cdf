-- The small examples of splices and tees, each computed from the definitions.
use Rattle.std.proofs.Common.{refl}
use Rattle.pl_model.specs.Numbers.{first_from, numbers_from}
use Rattle.pl_model.specs.Live.{readers, writers, pids, in_rows, in_parked}
use Rattle.pl_model.specs.Settle.{settle}
use Rattle.pl_model.specs.Trial.{flowed}
use Rattle.pl_model.specs.Transfer.{read_pipe, write_pipe, read_file, write_file}
use Rattle.pl_model.specs.Splice.{try_move}
use Rattle.pl_model.specs.Tables.{lowest, lowest_pid}
use Rattle.pl_model.specs.Begin.{begin_pipe, begin_open_name, begin_read, begin_write, begin_splice, begin_tee, begin_close, begin_lseek}
use Rattle.pl_model.specs.Step.{try, begin, happen, core_step}
use Rattle.pl_model.specs.Numbered.{step}
use Rattle.pl_model.specs.Streams.{added, taken_out, forgot}
use Rattle.pl_model.specs.WorkedSplice.{SharedTail, BytesOfTheMoment, SpliceToAnOffset, SplicesAndTeesRefused, MovesThatWait, SplicesAtTheEndOfAFile, PiecesOfMoves}

module _ (A : Type 0) where
  pub shared_tail : SharedTail A
  unfolding first_from numbers_from pids in_rows in_parked readers writers settle flowed read_pipe write_pipe lowest lowest_pid begin_pipe begin_read begin_write begin_tee try_move try begin happen core_step step
  shared_tail limits = refl

  pub bytes_of_the_moment : BytesOfTheMoment A
  unfolding first_from numbers_from pids in_rows in_parked readers writers settle flowed read_pipe write_pipe read_file write_file lowest lowest_pid begin_pipe begin_open_name begin_read begin_write begin_lseek begin_splice try_move try begin happen core_step step
  bytes_of_the_moment = record { replies = λ first_call. refl; file = λ first_call. refl }

  pub splice_to_an_offset : SpliceToAnOffset A
  unfolding first_from numbers_from pids in_rows in_parked readers writers settle flowed read_pipe write_pipe read_file write_file lowest lowest_pid begin_pipe begin_open_name begin_read begin_write begin_close begin_lseek begin_splice try_move try begin happen core_step step
  splice_to_an_offset = record { replies = λ first_call. refl; file = λ first_call. refl }

  pub splices_and_tees_refused : SplicesAndTeesRefused A
  unfolding first_from numbers_from pids in_rows in_parked readers writers settle flowed read_pipe write_pipe read_file write_file lowest lowest_pid begin_pipe begin_open_name begin_splice begin_tee try_move try begin happen core_step step
  splices_and_tees_refused limits = refl

  pub moves_that_wait : MovesThatWait A
  unfolding first_from numbers_from pids in_rows in_parked readers writers settle flowed read_pipe write_pipe lowest lowest_pid begin_pipe begin_read begin_write begin_close begin_splice begin_tee try_move try begin happen core_step step
  moves_that_wait file_max = refl

  pub splices_at_the_end_of_a_file : SplicesAtTheEndOfAFile A
  unfolding first_from numbers_from pids in_rows in_parked readers writers settle flowed read_pipe write_pipe read_file write_file lowest lowest_pid begin_pipe begin_open_name begin_read begin_write begin_lseek begin_splice try_move try begin happen core_step step
  splices_at_the_end_of_a_file first_call = refl

  pub pieces_of_moves : PiecesOfMoves A
  unfolding first_from numbers_from pids in_rows in_parked readers writers settle flowed read_pipe write_pipe lowest lowest_pid begin_pipe begin_read begin_write begin_splice begin_tee try_move try begin happen core_step step added taken_out forgot
  pieces_of_moves file_max = record { chunks_of_source = refl; outs_of_source = refl; chunks_of_target = refl; outs_of_target = refl; fate = refl }
