-- What is told of pipes and files.
use Rattle.std.specs.Prelude.{◌≡◌, ◌↔◌, ℕ, ℤ, Bool, List, length, Option, option_map, is_some, IfSome, if◌then◌else◌}
use Rattle.std.specs.declared.option.Option.TheVariants.{None, Some}
use Rattle.pl_model.specs.Keys.{Keys, Node, PipeNode, FileNode}
use Rattle.pl_model.specs.State.{Core, Pipe, named}
use Rattle.pl_model.specs.Begin.{open_fd}
use Rattle.pl_model.specs.Trial.{pipe_at}
use Rattle.pl_model.specs.Transfer.{file_at}
use Rattle.pl_model.specs.Numbered.{State, numbers}
use Rattle.pl_state.specs.Contents.{Contents, core_of}
use Rattle.pl_state.specs.Makes.{Stands}
use Rattle.pl_kernel.specs.declared.told_nodes.NodeFacts.{NodeFacts}
use Rattle.pl_kernel.specs.declared.told_nodes.NodeKind.{NodeKind}
use Rattle.pl_kernel.specs.declared.told_nodes.NodeKind.TheVariants as kind

-- What can stand for a pipe or a file: a descriptor of a process, or a name.
pub data Place : Type 0 where
  OfFd : ℕ → ℤ → Place
  OfName : List ℕ → Place

-- what a pipe or a file is, and how many bytes it holds or has
pub record Shape : Type 0 where
  pub kind : NodeKind
  pub size : ℕ

-- pipe(2), O_DIRECT: a packet pipe has a list of packets.
abbrev pub pipe_kind : Pipe → NodeKind
pipe_kind pipe = if is_some pipe.packets then kind.PacketPipe else kind.Pipe

abbrev pub pipe_shape : Pipe → Shape
pipe_shape pipe = record { kind = pipe_kind pipe; size = length pipe.bytes }

abbrev pub file_shape : List ℕ → Shape
file_shape bytes = record { kind = kind.File; size = length bytes }

module _ {A : Type 0} {K : Keys} where
  -- POSIX.1-2017, fstat, st_size: how many bytes a file has. That a pipe's are those that it holds is our own.
  abbrev pub shape_of : Core A K → Node K → Shape
  shape_of s (PipeNode p) = pipe_shape (pipe_at s p)
  shape_of s (FileNode f) = file_shape (file_at s f)

  -- what a place stands for; a descriptor of no process stands for nothing
  abbrev pub node_at : Core A K → Place → Option (Node K)
  node_at s (OfFd pid fd) = if s.processes pid then option_map (λ o. o.description.node) (open_fd s pid fd) else None
  node_at s (OfName name) = named s name

  -- pipe(7), FIONREAD: how many bytes the pipe holds, if it is one
  abbrev pub held_by : Core A K → Option (Node K) → Option ℕ
  held_by s None = None
  held_by s (Some (PipeNode p)) = Some (length (pipe_at s p).bytes)
  held_by s (Some (FileNode f)) = None

-- the number under which the kernel keeps a pipe or a file
abbrev pub key_of : Node numbers → ℕ
key_of (PipeNode p) = p
key_of (FileNode f) = f

module _ {A : Type 0} where
  -- what the kernel tells of a pipe or a file
  abbrev pub facts_at : Core A numbers → Node numbers → NodeFacts
  facts_at c node = record { kind = (shape_of c node).kind; size = (shape_of c node).size; key = key_of node }

  -- and of what a place stands for
  abbrev pub facts_named : Contents A → Place → Option NodeFacts
  facts_named k place = option_map (facts_at (core_of k)) (node_at (core_of k) place)

-- what was told of kind and size, and of which pipe or file it is
abbrev pub shape_told : NodeFacts → Shape
shape_told facts = record { kind = facts.kind; size = facts.size }

abbrev pub which : NodeFacts → NodeKind × ℕ
which facts = (facts.kind, facts.key)

module _ {A : Type 0} (k : Contents A) where
  -- The bytes that a pipe holds were told so: for each state for which the kernel stands, they are as many as the flat machine's.
  abbrev pub TellsHeld : ℕ → ℤ → Option ℕ → Type 0
  TellsHeld pid fd told = (s : State A) → Stands k s → told ≡ held_by s.core (node_at s.core (OfFd pid fd))

  -- Kind and size were told so: they are the flat machine's.
  abbrev pub TellsShape : Place → Option NodeFacts → Type 0
  TellsShape place told = (s : State A) → Stands k s → option_map shape_told told ≡ option_map (shape_of s.core) (node_at s.core place)

  -- The key was told so: just those places have this kind and this key that stand for the same pipe or file of the flat machine.
  abbrev pub TellsWhich : Place → Option NodeFacts → Type 0
  TellsWhich place told =
      IfSome told (λ facts. (other : Place) (s : State A) → Stands k s → (option_map which (facts_named k other) ≡ Some (which facts)) ↔ (node_at s.core other ≡ node_at s.core place))

  -- Whether there is such a process was told so.
  abbrev pub TellsProcess : ℕ → Bool → Type 0
  TellsProcess pid told = (s : State A) → Stands k s → told ≡ s.core.processes pid
