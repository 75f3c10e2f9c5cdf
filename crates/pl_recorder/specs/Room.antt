-- The room that a recorder takes for the lines of a step.
use Rattle.std.specs.Prelude.{◌+◌, ◌*◌, ℕ, Bool, true, false, if◌then◌else◌}
use Rattle.pl_model.specs.declared.calls.Call.{Call}
use Rattle.pl_model.specs.declared.calls.Call.TheVariants.{Close, Exit}
use Rattle.pl_model.specs.declared.calls.Step.{Step}
use Rattle.pl_model.specs.declared.calls.Step.TheVariants.{Begin, Interrupt}
use Rattle.pl_recorder.specs.declared.recorder.Most.{Most}
use Rattle.pl_recorder.specs.declared.recorder.Most.TheVariants.{Plain, Bytes, Masks}
use Rattle.pl_recorder.specs.Kept.{kept}

-- the most bytes of a comment whose reply has at most this: two for each byte, and the names of five flags for each mask
abbrev pub room_of : Most → ℕ
room_of Plain = 64
room_of (Bytes count) = 64 + 2 * count
room_of (Masks count) = 64 + 20 * count

module _ {A : Type 0} where
  -- whether a call ends a descriptor or a process
  abbrev pub is_end_call : Call A → Bool
  is_end_call (Close fd) = true
  is_end_call Exit = true
  is_end_call other = false

  -- whether a step ends something: a descriptor, a process or a call that waits
  abbrev pub is_end : Step A → Bool
  is_end (Begin pid call) = is_end_call call
  is_end (Interrupt number) = true
  is_end other = false

  -- what a step leaves of the room to the lines of those that end something
  abbrev pub left_by : Step A → ℕ
  left_by x = if is_end x then 0 else kept
