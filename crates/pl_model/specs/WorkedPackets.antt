-- What the definitions answer of packet pipes (pipe(2), O_DIRECT) in small examples.
use Rattle.std.specs.Prelude.{◌≡◌, ◌+◌, pos, [], ◌∷◌, ◌++◌, true, false, replicate, codes, Some, None}
use Rattle.pl_model.specs.declared.calls.Call.{Call}
use Rattle.pl_model.specs.declared.calls.Mode.{Mode}
use Rattle.pl_model.specs.declared.calls.Step.{Step}
use Rattle.pl_model.specs.declared.calls.Step.TheVariants.{Begin, Resume, Interrupt}
use Rattle.pl_model.specs.declared.replies.Reply.TheVariants.{Fd, Fds, Count, Bytes, Flags, Size, Unit, Fault, Parked}
use Rattle.pl_model.specs.declared.replies.Errno.TheVariants.{EAGAIN, EBADF, EBUSY, EINVAL, EPIPE, ESPIPE}
use Rattle.pl_model.specs.declared.script.Line.TheVariants.{Do}
use Rattle.pl_model.specs.declared.script.Version.TheVariants.{One}
use Rattle.pl_model.specs.Flags.{append, creat, direct, excl, nonblock, trunc, no_flags, poll_err, poll_hup, poll_in, poll_out}
use Rattle.pl_model.specs.Shown.{flags_text}
use Rattle.pl_model.specs.Words.{as_open_flags}
use Rattle.pl_model.specs.Lines.{line}
use Rattle.pl_model.specs.Worked.{pipe, read, write, close, dup, get_fl, set_fl, no_bytes, Answers, AnswersFrom}
use Rattle.pl_model.specs.WorkedCapacity.{set_pipe_sz}
use Rattle.pl_model.specs.WorkedFiles.{open_name}
use Rattle.pl_model.specs.WorkedFifo.{mkfifo}
use Rattle.pl_model.specs.WorkedPoll.{poll_now, poll_wait, masks}
use Rattle.pl_model.specs.WorkedSplice.{splice, tee}

module _ {A : Type 0} where
  -- what the process of pid 1 does
  abbrev pub packet_pipe : Step A
  packet_pipe = Begin 1 (Call.Pipe false true)

  abbrev pub packet_pipe_nonblock : Step A
  packet_pipe_nonblock = Begin 1 (Call.Pipe true true)

-- A read takes one packet, and what it doesn't give of it is discarded. A large write is cut into packets, and goes on where one leaves.
abbrev pub PacketsAreReadOneByOne : Type 0 → Type 0
PacketsAreReadOneByOne A =
    AnswersFrom A 1
    (packet_pipe ∷ write 1 (codes "abc") ∷ write 1 (codes "de") ∷ read 0 2 ∷ read 0 10 ∷ write 1 (replicate 5000 97) ∷ read 0 9000 ∷ read 0 9000
    ∷ set_pipe_sz 1 4096 ∷ write 1 (replicate 5000 98) ∷ read 0 1 ∷ Resume 1 ∷ read 0 9000 ∷ [])
    (Fds (pos 0) (pos 1) ∷ Count 3 false ∷ Count 2 false ∷ Bytes (codes "ab") ∷ Bytes (codes "de") ∷ Count 5000 false ∷ Bytes (replicate 4096 97) ∷ Bytes (replicate 904 97)
    ∷ Size 4096 ∷ Parked 1 ∷ Bytes (replicate 1 98) ∷ Count 5000 false ∷ Bytes (replicate 904 98) ∷ [])

-- Each packet takes a place, however short it is read. Of the flags only O_DIRECT stays, at the write end alone.
abbrev pub PacketPipeAtItsLimits : Type 0 → Type 0
PacketPipeAtItsLimits A =
    Answers A
    (packet_pipe_nonblock ∷ write 1 (replicate 70000 97) ∷ write 1 (codes "b") ∷ poll_now ((pos 1, poll_out) ∷ []) ∷ read 0 1 ∷ poll_now ((pos 1, poll_out) ∷ [])
    ∷ write 1 (replicate 8192 98) ∷ set_pipe_sz 1 4096 ∷ pipe ∷ tee 0 3 1 ∷ splice 0 None 3 None 1 ∷ set_fl 1 0 ∷ get_fl 1 ∷ get_fl 0
    ∷ (replicate 16 (read 0 4096)
    ++ (write 1 (replicate 8192 99) ∷ read 0 9000 ∷ read 0 9000 ∷ read 0 9000 ∷ close 1 ∷ read 0 9000 ∷ [])))
    (Fds (pos 0) (pos 1) ∷ Count 65536 false ∷ Fault EAGAIN ∷ masks 0 (0 ∷ []) ∷ Bytes (codes "a") ∷ masks 1 (poll_out ∷ [])
    ∷ Count 4096 false ∷ Fault EBUSY ∷ Fds (pos 2) (pos 3) ∷ Fault EINVAL ∷ Fault EINVAL ∷ Unit ∷ Flags Mode.Write (as_open_flags direct) ∷ Flags Mode.Read (as_open_flags nonblock)
    ∷ (replicate 15 (Bytes (replicate 4096 97))
    ++ (Bytes (replicate 4096 98) ∷ Count 8192 false ∷ Bytes (replicate 4096 99) ∷ Bytes (replicate 4096 99) ∷ Fault EAGAIN ∷ Unit ∷ no_bytes ∷ [])))

-- A write of no bytes makes no packet, and a read of none takes none. One of a multiple of 4,096 bytes makes no empty packet at its end.
abbrev pub NoPacketIsEmpty : Type 0 → Type 0
NoPacketIsEmpty A =
    Answers A
    (packet_pipe_nonblock ∷ write 1 [] ∷ read 0 1 ∷ write 1 (replicate 4096 97) ∷ write 1 (replicate 4097 98) ∷ read 0 0 ∷ read 0 4097 ∷ read 0 4097 ∷ read 0 4097 ∷ read 0 1
    ∷ write 1 (replicate 8192 99) ∷ read 0 4095 ∷ read 0 4097 ∷ read 0 1 ∷ [])
    (Fds (pos 0) (pos 1) ∷ Count 0 false ∷ Fault EAGAIN ∷ Count 4096 false ∷ Count 4097 false ∷ no_bytes ∷ Bytes (replicate 4096 97) ∷ Bytes (replicate 4096 98) ∷ Bytes (codes "b") ∷ Fault EAGAIN
    ∷ Count 8192 false ∷ Bytes (replicate 4095 99) ∷ Bytes (replicate 4096 99) ∷ Fault EAGAIN ∷ [])

-- packets that are held outlive their writers, and nobody can read what is written once the readers left
abbrev pub EndsOfAPacketPipe : Type 0 → Type 0
EndsOfAPacketPipe A =
    AnswersFrom A 1
    (packet_pipe ∷ poll_wait ((pos 0, poll_in) ∷ []) ∷ dup 1 ∷ write 2 (codes "ab") ∷ Resume 1 ∷ close 1 ∷ write 2 (codes "c") ∷ close 2 ∷ poll_now ((pos 0, poll_in) ∷ []) ∷ read 0 1
    ∷ read 0 9 ∷ read 0 9 ∷ poll_now ((pos 0, poll_in) ∷ [])
    ∷ packet_pipe ∷ write 2 (codes "a") ∷ close 1 ∷ write 2 (codes "a") ∷ write 2 [] ∷ poll_now ((pos 2, poll_out) ∷ []) ∷ [])
    (Fds (pos 0) (pos 1) ∷ Parked 1 ∷ Fd (pos 2) ∷ Count 2 false ∷ masks 1 (poll_in ∷ []) ∷ Unit ∷ Count 1 false ∷ Unit ∷ masks 1 ((poll_in + poll_hup) ∷ []) ∷ Bytes (codes "a")
    ∷ Bytes (codes "c") ∷ no_bytes ∷ masks 1 (poll_hup ∷ [])
    ∷ Fds (pos 1) (pos 2) ∷ Count 1 false ∷ Unit ∷ Fault EPIPE ∷ Count 0 false ∷ masks 1 ((poll_out + poll_err) ∷ []) ∷ [])

-- a write that is interrupted made the packets of whole pieces of 4,096 bytes
abbrev pub InterruptedWriteOfPackets : Type 0 → Type 0
InterruptedWriteOfPackets A =
    AnswersFrom A 1
    (packet_pipe ∷ set_pipe_sz 1 8192 ∷ write 1 (codes "a") ∷ write 1 (replicate 9000 98) ∷ read 0 9 ∷ Resume 1 ∷ Interrupt 1 ∷ read 0 9000 ∷ read 0 9000
    ∷ write 1 (replicate 4096 99) ∷ write 1 (codes "d") ∷ write 1 (codes "e") ∷ read 0 1 ∷ Resume 2 ∷ read 0 9 ∷ read 0 9 ∷ [])
    (Fds (pos 0) (pos 1) ∷ Size 8192 ∷ Count 1 false ∷ Parked 1 ∷ Bytes (codes "a") ∷ Parked 1 ∷ Count 8192 false ∷ Bytes (replicate 4096 98) ∷ Bytes (replicate 4096 98)
    ∷ Count 4096 false ∷ Count 1 false ∷ Parked 2 ∷ Bytes (codes "c") ∷ Count 1 false ∷ Bytes (codes "d") ∷ Bytes (codes "e") ∷ [])

-- an open drops the flag, so that no FIFO is a packet pipe, and to set the flags of a description doesn't make it one
abbrev pub OnlyPipeMakesPackets : Type 0 → Type 0
OnlyPipeMakesPackets A =
    Answers A
    (mkfifo (codes "q") ∷ open_name (codes "q") Mode.Both direct ∷ get_fl 0 ∷ set_fl 0 (append + direct) ∷ get_fl 0 ∷ write 0 (codes "a") ∷ write 0 (codes "b") ∷ read 0 9 ∷ [])
    (Unit ∷ Fd (pos 0) ∷ Flags Mode.Both no_flags ∷ Unit ∷ Flags Mode.Both (as_open_flags append) ∷ Count 1 false ∷ Count 1 false ∷ Bytes (codes "ab") ∷ [])

-- no splice and no tee is from a packet pipe or to one, whatever else is wrong, but for those of 0 bytes
abbrev pub PacketPipesAreNotSpliced : Type 0 → Type 0
PacketPipesAreNotSpliced A =
    Answers A
    (packet_pipe ∷ pipe ∷ open_name (codes "f") Mode.Both (creat + append) ∷ splice 0 None 1 None 5 ∷ splice 0 None 3 None 5 ∷ splice 2 None 1 None 5 ∷ splice 0 None 4 None 5
    ∷ splice 4 (Some 0) 1 None 5 ∷ splice 0 (Some 0) 3 None 5 ∷ splice 1 None 3 None 5 ∷ splice 0 None 3 None 0 ∷ tee 0 1 5 ∷ tee 0 3 5 ∷ tee 2 1 5 ∷ tee 1 3 5 ∷ tee 0 3 0 ∷ [])
    (Fds (pos 0) (pos 1) ∷ Fds (pos 2) (pos 3) ∷ Fd (pos 4) ∷ Fault EINVAL ∷ Fault EINVAL ∷ Fault EINVAL ∷ Fault EINVAL
    ∷ Fault EINVAL ∷ Fault ESPIPE ∷ Fault EBADF ∷ Count 0 false ∷ Fault EINVAL ∷ Fault EINVAL ∷ Fault EINVAL ∷ Fault EBADF ∷ Count 0 false ∷ [])

-- the status flags in words
pub record StatusFlagsInWords : Type 0 where
  pub none : flags_text no_flags ≡ codes "-"
  pub only_append : flags_text (as_open_flags append) ≡ codes "append"
  pub only_nonblock : flags_text (as_open_flags nonblock) ≡ codes "nonblock"
  pub without_direct : flags_text (as_open_flags (append + nonblock)) ≡ codes "append,nonblock"
  pub only_direct : flags_text (as_open_flags direct) ≡ codes "direct"
  pub without_nonblock : flags_text (as_open_flags (append + direct)) ≡ codes "append,direct"
  pub without_append : flags_text (as_open_flags (nonblock + direct)) ≡ codes "nonblock,direct"
  pub all : flags_text (as_open_flags (append + nonblock + direct)) ≡ codes "append,nonblock,direct"
  pub others : flags_text (as_open_flags (creat + excl + trunc)) ≡ codes "-"

-- no line of version 1 makes a packet pipe
pub record LinesWithoutPackets (A : Type 0) : Type 0 where
  pub plain : line {A = A} One (codes "1 pipe") ≡ Some (Some (Do (Begin 1 (Call.Pipe false false))))
  pub nonblocking : line {A = A} One (codes "1 pipe nonblock") ≡ Some (Some (Do (Begin 1 (Call.Pipe true false))))
  pub packets : line {A = A} One (codes "1 pipe direct") ≡ None
  pub both : line {A = A} One (codes "1 pipe nonblock,direct") ≡ None
  pub twice : line {A = A} One (codes "1 pipe nonblock nonblock") ≡ None
  pub opened : line {A = A} One (codes "1 open f r direct") ≡ None
  pub opened_with : line {A = A} One (codes "1 open f r creat,direct") ≡ None
  pub set : line {A = A} One (codes "1 setfl 0 direct") ≡ None
  pub set_with : line {A = A} One (codes "1 setfl 0 append,nonblock,direct") ≡ None
