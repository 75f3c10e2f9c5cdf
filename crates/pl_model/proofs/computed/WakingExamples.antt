-- The small examples of calls that can get on, each computed from the definitions.
use Rattle.std.proofs.Common.{refl}
use Rattle.pl_model.specs.Numbers.{first_from, numbers_from}
use Rattle.pl_model.specs.Live.{readers, writers, pids, in_rows, in_parked}
use Rattle.pl_model.specs.Settle.{settle}
use Rattle.pl_model.specs.Trial.{flowed}
use Rattle.pl_model.specs.Transfer.{read_pipe, write_pipe, read_file, write_file}
use Rattle.pl_model.specs.Splice.{try_move}
use Rattle.pl_model.specs.Poll.{try_poll}
use Rattle.pl_model.specs.Capacity.{rounded_capacity}
use Rattle.pl_model.specs.Tables.{lowest, lowest_pid}
use Rattle.pl_model.specs.Begin.{begin_pipe, begin_mkfifo, begin_open_name, begin_read, begin_write, begin_splice, begin_tee, begin_poll, begin_close, begin_lseek, begin_set_pipe_sz, begin_fork}
use Rattle.pl_model.specs.Step.{try, begin, happen, core_step}
use Rattle.pl_model.specs.Numbered.{step}
use Rattle.pl_model.specs.WorkedWaking.{ReadGetsOn, SmallWriteGetsOn, LargeWriteGetsOn, PollGetsOn, OpenGetsOn, SpliceGetsOn, TeeGetsOn}

module _ (A : Type 0) where
  pub read_gets_on : ReadGetsOn A
  unfolding first_from numbers_from pids in_rows in_parked readers writers settle flowed lowest lowest_pid try begin happen core_step step read_pipe write_pipe begin_pipe begin_read begin_write begin_close
  read_gets_on = refl

  pub small_write_gets_on : SmallWriteGetsOn A
  unfolding first_from numbers_from pids in_rows in_parked readers writers settle flowed lowest lowest_pid try begin happen core_step step read_pipe write_pipe rounded_capacity begin_pipe begin_read begin_write begin_close begin_set_pipe_sz
  small_write_gets_on = refl

  pub large_write_gets_on : LargeWriteGetsOn A
  unfolding first_from numbers_from pids in_rows in_parked readers writers settle flowed lowest lowest_pid try begin happen core_step step read_pipe write_pipe rounded_capacity begin_pipe begin_read begin_write begin_set_pipe_sz
  large_write_gets_on = refl

  pub poll_gets_on : PollGetsOn A
  unfolding first_from numbers_from pids in_rows in_parked readers writers settle flowed lowest lowest_pid try begin happen core_step step read_pipe write_pipe try_poll begin_pipe begin_read begin_write begin_close begin_poll
  poll_gets_on = refl

  pub open_gets_on : OpenGetsOn A
  unfolding first_from numbers_from pids in_rows in_parked readers writers settle flowed lowest lowest_pid try begin happen core_step step begin_mkfifo begin_open_name begin_close
  open_gets_on = refl

  pub splice_gets_on : SpliceGetsOn A
  unfolding first_from numbers_from pids in_rows in_parked readers writers settle flowed lowest lowest_pid try begin happen core_step step read_pipe write_pipe read_file write_file rounded_capacity try_move begin_pipe begin_open_name begin_read begin_write begin_lseek begin_splice begin_set_pipe_sz
  splice_gets_on = refl

  pub tee_gets_on : TeeGetsOn A
  unfolding first_from numbers_from pids in_rows in_parked readers writers settle flowed lowest lowest_pid try begin happen core_step step read_pipe write_pipe rounded_capacity try_move begin_pipe begin_read begin_write begin_close begin_tee begin_set_pipe_sz begin_fork
  tee_gets_on = refl
