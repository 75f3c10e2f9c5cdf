-- What a poll looks at of an end of a pipe.
use Rattle.std.specs.Prelude.{ℕ, nat_lt, length}
use Rattle.pl_model.specs.declared.calls.Mode.{Mode}
use Rattle.pl_model.specs.declared.cases.Polled.{Polled}
use Rattle.pl_model.specs.State.{Core}
use Rattle.pl_model.specs.Live.{readers}
use Rattle.pl_model.specs.Trial.{pipe_at}
use Rattle.pl_model.specs.Transfer.{room}
use Rattle.pl_model.specs.Numbered.{numbers}

-- POSIX.1-2017, poll: of the pipe, by a description of this mode
abbrev pub end_at : {A : Type 0} → Core A numbers → (p : ℕ) → Mode → Polled
end_at c p mode = (let pipe = pipe_at c p in Polled.Pipe mode (length pipe.bytes) (room pipe) (nat_lt 0 (readers c p)) pipe.hung)
