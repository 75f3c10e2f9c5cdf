-- The pieces of small runs, computed from the definitions.
use Rattle.std.proofs.Common.{refl}
use Rattle.pl_model.specs.Numbers.{first_from, numbers_from}
use Rattle.pl_model.specs.Live.{readers, writers, pids, in_rows, in_parked}
use Rattle.pl_model.specs.Settle.{settle}
use Rattle.pl_model.specs.Trial.{flowed}
use Rattle.pl_model.specs.Transfer.{read_pipe, write_pipe}
use Rattle.pl_model.specs.Tables.{lowest, lowest_pid}
use Rattle.pl_model.specs.Begin.{begin_pipe, begin_read, begin_write, begin_close, begin_fork}
use Rattle.pl_model.specs.Step.{try, begin, happen, core_step}
use Rattle.pl_model.specs.Numbered.{step}
use Rattle.pl_model.specs.Streams.{added, taken_out, forgot}
use Rattle.pl_model.specs.WorkedStream.{RunsInPieces}

pub in_pieces : (A : Type 0) → RunsInPieces A
unfolding first_from numbers_from pids in_rows in_parked readers writers settle flowed read_pipe write_pipe lowest lowest_pid begin_pipe begin_read begin_write begin_close begin_fork try begin happen core_step step added taken_out forgot
in_pieces A = record { interleaved = λ file_max. record { chunks = refl; outs = refl; fate = refl }; forgotten = λ file_max. refl }
