-- The small examples of what steps touch, computed from the definitions.
use Rattle.std.proofs.Common.{refl}
use Rattle.pl_model.specs.Numbers.{first_from, numbers_from}
use Rattle.pl_model.specs.Live.{readers, writers, pids, in_rows, in_parked}
use Rattle.pl_model.specs.Settle.{settle}
use Rattle.pl_model.specs.Trial.{flowed}
use Rattle.pl_model.specs.Transfer.{read_pipe, write_pipe, read_file, write_file}
use Rattle.pl_model.specs.Splice.{try_move}
use Rattle.pl_model.specs.Poll.{try_poll}
use Rattle.pl_model.specs.Tables.{lowest, lowest_pid}
use Rattle.pl_model.specs.Begin.{begin_pipe, begin_mkfifo, begin_open_name, begin_read, begin_write, begin_tee, begin_poll, begin_dup, begin_dup2, begin_close, begin_lseek, begin_get_fl, begin_unlink, begin_fork}
use Rattle.pl_model.specs.Step.{try, begin, happen, core_step}
use Rattle.pl_model.specs.Numbered.{step}
use Rattle.pl_model.specs.Touching.{touches_by, touches}
use Rattle.pl_model.specs.WorkedTouching.{PipesAreTouched, FileIsTouched, FifoIsTouched}

module _ (A : Type 0) where
  pub pipes_are_touched : PipesAreTouched A
  unfolding first_from numbers_from pids in_rows in_parked readers writers settle flowed lowest lowest_pid try begin happen core_step step touches_by touches read_pipe write_pipe try_move try_poll begin_pipe begin_read begin_write begin_tee begin_poll begin_dup begin_dup2 begin_close begin_fork
  pipes_are_touched = refl

  pub file_is_touched : FileIsTouched A
  unfolding first_from numbers_from pids in_rows in_parked readers writers settle flowed lowest lowest_pid try begin happen core_step step touches_by touches read_file write_file begin_open_name begin_read begin_write begin_close begin_lseek begin_get_fl begin_unlink
  file_is_touched = refl

  pub fifo_is_touched : FifoIsTouched A
  unfolding first_from numbers_from pids in_rows in_parked readers writers settle flowed lowest lowest_pid try begin happen core_step step touches_by touches begin_mkfifo begin_open_name
  fifo_is_touched = refl
