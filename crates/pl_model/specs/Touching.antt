-- Which nodes a step touches: a call that waits at none of them is left as it was.
use Rattle.std.specs.Prelude.{ℕ, ℤ, Bool, true, false, ◌&&◌, ◌||◌, nat_eq, Option}
use Rattle.std.specs.declared.option.Option.TheVariants.{None, Some}
use Rattle.std.specs.List.{list_any}
use Rattle.pl_model.specs.declared.calls.Call.{Call}
use Rattle.pl_model.specs.declared.calls.Step.{Step}
use Rattle.pl_model.specs.declared.calls.Step.TheVariants.{Start, Begin, Resume, Interrupt}
use Rattle.pl_model.specs.Numbers.{numbers_from}
use Rattle.pl_model.specs.Map.{get}
use Rattle.pl_model.specs.Modes.{any_mode}
use Rattle.pl_model.specs.Keys.{Keys, Node, same_node}
use Rattle.pl_model.specs.State.{Core, Waiting, row, named}
use Rattle.pl_model.specs.Live.{is_end}
use Rattle.pl_model.specs.Tables.{descriptor_limit}

module _ {K : Keys} where
  -- the name stands for the node
  abbrev pub stands_at : Node K → Option (Node K) → Bool
  stands_at node None = false
  stands_at node (Some other) = same_node other node

module _ {A : Type 0} {K : Keys} where
  -- there is a description, and it is on the node
  abbrev pub is_at : Core A K → Node K → Option K.Description → Bool
  is_at s node None = false
  is_at s node (Some d) = is_end any_mode node (s.descriptions d)

  -- the descriptor names a description on the node
  abbrev pub names_at : Core A K → Node K → (pid : ℕ) → (fd : ℤ) → Bool
  names_at s node pid fd = is_at s node (row s pid fd)

  -- the call that waits keeps a description on the node
  abbrev pub keeps_at : Core A K → Node K → Waiting A K → Bool
  keeps_at s node w = list_any (λ d. is_end any_mode node (s.descriptions d)) w.kept

  -- the call that may be there does so
  abbrev pub waits_at : Core A K → Node K → Option (Waiting A K) → Bool
  waits_at s node None = false
  waits_at s node (Some w) = keeps_at s node w

  -- a descriptor of the process, or a call of it that waits, is at the node
  abbrev pub has_at : Core A K → Node K → (pid : ℕ) → Bool
  has_at s node pid = list_any (λ fd. is_at s node (s.rows pid fd)) (numbers_from (descriptor_limit s.limits) 0) || list_any (λ e. nat_eq e.1.pid pid && keeps_at s node e.1) s.parked

  -- A call of a process touches what its descriptors name, or its name stands for, where it may change what somebody sees of
  -- it. A dup, a poll and a fork add descriptors or holds to what is held already; mkfifo, unlink and pipe change no node on which a
  -- description is; F_GETFL and F_GETPIPE_SZ change nothing.
  unfoldable pub touches_by : Core A K → Node K → (pid : ℕ) → Call A → Bool
  touches_by s node pid (Call.OpenName name mode flags) = stands_at node (named s name)
  touches_by s node pid (Call.Read fd n) = names_at s node pid fd
  touches_by s node pid (Call.Write fd bytes) = names_at s node pid fd
  touches_by s node pid (Call.Splice from from_offset to to_offset len flags) = names_at s node pid from || names_at s node pid to
  touches_by s node pid (Call.Tee from to len flags) = names_at s node pid from || names_at s node pid to
  touches_by s node pid (Call.Dup2 fd target) = names_at s node pid target
  touches_by s node pid (Call.Close fd) = names_at s node pid fd
  touches_by s node pid (Call.Lseek fd offset whence) = names_at s node pid fd
  touches_by s node pid (Call.SetFl fd flags) = names_at s node pid fd
  touches_by s node pid (Call.SetPipeSz fd size) = names_at s node pid fd
  touches_by s node pid Call.Exit = has_at s node pid
  touches_by s node pid call = false

  -- A step touches what its call does, and what a call that is tried again or interrupted waits at.
  unfoldable pub touches : Core A K → Step A → Node K → Bool
  touches s Start node = false
  touches s (Begin pid call) node = touches_by s node pid call
  touches s (Resume c) node = waits_at s node (get nat_eq s.parked c)
  touches s (Interrupt c) node = waits_at s node (get nat_eq s.parked c)

-- the call ends its process
abbrev pub is_exit : {A : Type 0} → Call A → Bool
is_exit Call.Exit = true
is_exit call = false

-- The step is of the call itself: it tries the call again, interrupts it, or ends its process. A poll of negative descriptors keeps no
-- description, so such a step touches no node, and the call may be gone.
abbrev pub is_of_call : {A : Type 0} {K : Keys} → Step A → (number : ℕ) → Waiting A K → Bool
is_of_call Start number w = false
is_of_call (Begin pid call) number w = is_exit call && nat_eq w.pid pid
is_of_call (Resume c) number w = nat_eq c number
is_of_call (Interrupt c) number w = nat_eq c number
