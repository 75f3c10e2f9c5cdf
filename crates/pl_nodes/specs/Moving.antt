-- What a move or a copy of bytes between pipes and files asks of them, and what it makes of memory.
use Rattle.std.specs.Prelude.{ℕ, ◌≡◌, ◌+◌, ◌≤◌, length, Option, None, IsSome, IfSome}
use Rattle.pl_model.specs.State.{Pipe}
use Rattle.pl_model.specs.Transfer.{room}
use Rattle.pl_segments.specs.Sharing.{named, slots_at}
use Rattle.pl_ring.specs.Parts.{strange}
use Rattle.pl_nodes.specs.Nodes.{Memory}

-- A pipe is there, and is no packet pipe.
pub record IsBytePipe (pipe : Option Pipe) : Type 0 where
  pub here : IsSome pipe
  pub bytes : IfSome pipe (λ x. x.packets ≡ None)

-- It holds so many bytes.
pub record HoldsBytes (pipe : Option Pipe) (count : ℕ) : Type 0 where
  pub plain : IsBytePipe pipe
  pub held : IfSome pipe (λ x. count ≤ length x.bytes)

-- It has room for so many bytes more.
pub record HasRoom (pipe : Option Pipe) (count : ℕ) : Type 0 where
  pub plain : IsBytePipe pipe
  pub room : IfSome pipe (λ x. count ≤ room x)

-- At most three segments came, and but for three at most all slots of the one are slots that it had, or lie within slots of the
-- other.
pub record SharesSlots (old new : Memory) (from to : ℕ) : Type 0 where
  pub few : new.segments ≤ old.segments + 3
  pub parts : strange (slots_at old.slots to) (slots_at old.slots from) (slots_at new.slots to) ≤ 3

-- No segment came.
pub record AddsNone (old new : Memory) : Type 0 where
  pub fewer : new.segments ≤ old.segments
  pub named_before : (key : ℕ) → 1 ≤ named new.slots key → 1 ≤ named old.slots key
