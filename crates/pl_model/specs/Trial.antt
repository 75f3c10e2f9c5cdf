-- What the checks of a call give, and what one try of it gives.
use Rattle.std.specs.Prelude.{unwrap_or, ℕ, Bool, List, Option, if◌then◌else◌}
use Rattle.std.specs.declared.option.Option.TheVariants.{None, Some}
use Rattle.pl_model.specs.declared.replies.Reply.{Reply}
use Rattle.pl_model.specs.declared.replies.Errno.{Errno}
use Rattle.pl_model.specs.Keys.{Keys, Drawing, Plain}
use Rattle.pl_model.specs.State.{Core, Pipe, empty_pipe, set_pipe}
use Rattle.pl_model.specs.Packets.{lose, gain}

-- the bytes that a try moves: a pipe loses its first n, a pipe gains these at its end
pub record Flow (K : Keys) : Type 0 where
  pub out : Option (K.Pipe × ℕ)
  pub into : Option (K.Pipe × List ℕ)

module _ {K : Keys} where
  abbrev pub still : Flow K
  still = record { out = None; into = None }

  abbrev pub loses : K.Pipe → ℕ → Flow K
  loses p n = record { out = Some (p, n); into = None }

  abbrev pub gains : K.Pipe → List ℕ → Flow K
  gains p bytes = record { out = None; into = Some (p, bytes) }

-- A try answers, or the call waits with so many bytes taken. The state is the one to which the bytes have yet to flow.
pub data Trial (A : Type 0) (K : Keys) : Type 0 where
  Done : Core A K → Flow K → Reply A → Trial A K
  Wait : Core A K → Flow K → ℕ → Trial A K

-- A call that begins is refused, or answered at once, or tried with the descriptions that it keeps.
pub data Begun (A : Type 0) (K : Keys) : Type 0 where
  Refused : Errno → Begun A K
  Answered : Core A K → Reply A → Begun A K
  Tried : (s : Core A K) (kept : List K.Description) (met may_wait : Bool) → Begun A K

-- the same, where new keys may be wanted for it
abbrev pub Begins : Type 0 → Keys → Type 0
Begins A K = Drawing K (Begun A K)

module _ {A : Type 0} {K : Keys} where
  abbrev pub pipe_at : Core A K → K.Pipe → Pipe
  pipe_at s p = unwrap_or (s.pipes p) empty_pipe

  abbrev pub lost : Core A K → Option (K.Pipe × ℕ) → Core A K
  lost s None = s
  lost s (Some o) = set_pipe s o.0 (lose o.1 (pipe_at s o.0))

  abbrev pub gained : Core A K → Option (K.Pipe × List ℕ) → Core A K
  gained s None = s
  gained s (Some i) = set_pipe s i.0 (gain i.1 (pipe_at s i.0))

  -- the state after the bytes moved
  unfoldable pub flowed : Core A K → Flow K → Core A K
  flowed s flow = gained (lost s flow.out) flow.into

  abbrev pub refused : Errno → Begins A K
  refused errno = Plain (Refused errno)

  abbrev pub answered : Core A K → Reply A → Begins A K
  answered s reply = Plain (Answered s reply)

  abbrev pub tried : (s : Core A K) (kept : List K.Description) (met may_wait : Bool) → Begins A K
  tried s kept met may_wait = Plain (Tried s kept met may_wait)

  -- where the check holds, it answers
  abbrev pub refuse_if : Bool → Errno → Begins A K → Begins A K
  refuse_if holds errno next = if holds then refused errno else next

  -- where there is none, this answers
  abbrev pub found : {X : Type 0} → Option X → Errno → (X → Begins A K) → Begins A K
  found None errno next = refused errno
  found (Some x) errno next = next x
