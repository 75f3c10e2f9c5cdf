-- Which pipe a descriptor names, what it can hold, and in how many slots its bytes stand.
use Rattle.std.specs.Prelude.{ℕ, ℤ, ◌≤◌, ◌*◌, ◌/◌, length, Option, option_map, option_and_then}
use Rattle.std.specs.declared.option.Option.TheVariants.{None, Some}
use Rattle.pl_model.specs.declared.node.Node.TheVariants.{Pipe}
use Rattle.pl_model.specs.State.{Core}
use Rattle.pl_model.specs.Capacity.{pipe_of}
use Rattle.pl_model.specs.Trial.{pipe_at}
use Rattle.pl_model.specs.Begin.{open_fd}
use Rattle.pl_model.specs.Numbered.{numbers, State}
use Rattle.pl_segments.specs.Segments.{segment_size}
use Rattle.pl_segments.specs.Sharing.{slots_at}
use Rattle.pl_nodes.specs.Nodes.{Memory}
use Rattle.pl_state.specs.Contents.{Contents, core_of}
use Rattle.pl_state.specs.Makes.{Stands}
use Rattle.pl_state.specs.Opens.{OpenOn}

-- the pipe that a descriptor is open on, if it is one
abbrev pub pipe_named : {A : Type 0} → Core A numbers → ℕ → ℤ → Option ℕ
pipe_named s pid fd = option_and_then (λ o. pipe_of o.description.node) (open_fd s pid fd)

-- a description is open on the pipe
abbrev pub HasEnd : {A : Type 0} → Contents A → ℕ → Type 0
HasEnd k p = (d : ℕ) × OpenOn k d (Pipe p)

-- fcntl(2), F_GETPIPE_SZ: what the pipe can hold that a descriptor is open on, if it is on one
abbrev pub capacity_named : {A : Type 0} → Core A numbers → ℕ → ℤ → Option ℕ
capacity_named s pid fd = option_map (λ p. (pipe_at s p).capacity) (pipe_named s pid fd)

-- in how many slots its bytes stand
abbrev pub slots_in : Memory → Option ℕ → Option ℕ
slots_in memory = option_map (λ p. length (slots_at memory.slots p))

abbrev pub slots_named : {A : Type 0} → Contents A → ℕ → ℤ → Option ℕ
slots_named k pid fd = slots_in k.nodes.memory (pipe_named (core_of k) pid fd)

-- Our own: a pipe has at most two slots for each segment that its capacity could fill.
abbrev pub AreFew : (slots capacity : Option ℕ) → Type 0
AreFew None None = Unit {0}
AreFew (Some slots) (Some capacity) = slots ≤ 2 * capacity / segment_size
AreFew None (Some capacity) = ⊥
AreFew (Some slots) None = ⊥

-- the same, whatever state the kernel stands for
abbrev pub WithinCapacity : {A : Type 0} → Contents A → ℕ → ℤ → Option ℕ → Type 0
WithinCapacity {A} k pid fd slots = (s : State A) → Stands k s → AreFew slots (capacity_named s.core pid fd)
