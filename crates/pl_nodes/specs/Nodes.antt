-- What descriptions are on, as contracts see it.
use Rattle.std.specs.Prelude.{ℕ, Bool, List, [], Option, None, Some, ◌≡◌, ◌≤◌, nat_lt, take, drop, count_by, unwrap_or, if◌then◌else◌}
use Rattle.std.specs.List.{range_with_len}
use Rattle.pl_model.specs.declared.node.Node.{Node}
use Rattle.pl_model.specs.Map.{Map}
use Rattle.pl_model.specs.State.{Pipe}
use Rattle.pl_segments.specs.declared.slice.Slice.{Slice}
use Rattle.pl_segments.specs.Sharing.{named, slots_at}
use Rattle.pl_nodes.specs.declared.nodes.NodeLimits.{NodeLimits}

-- the pipes and the bytes of the files by key, the slots in which each keeps its bytes, what the names stand for, in the order of
-- their bytes, the key that the next pipe or file gets, how many segments hold all bytes, and the limits
pub record Nodes : Type 0 where
  pub pipes : List (Option Pipe)
  pub files : List (Option (List ℕ))
  pub slots : List (List Slice)
  pub names : Map (List ℕ) Node
  pub next : ℕ
  pub segments : ℕ
  pub limits : NodeLimits

-- How bytes are kept: the slots of each pipe and file by key, and how many segments hold them all.
pub record Memory : Type 0 where
  pub slots : List (List Slice)
  pub segments : ℕ

abbrev pub memory_of : Nodes → Memory
memory_of n = record { slots = n.slots; segments = n.segments }

-- Some pipes and files lost all their slots, and the others kept theirs. No segment came.
pub record Shrinks (old new : Memory) : Type 0 where
  pub slots : (key : ℕ) → (goes : Bool) × (slots_at new.slots key ≡ (if goes then [] else slots_at old.slots key))
  pub fewer_named : (key : ℕ) → named new.slots key ≤ named old.slots key
  pub fewer : new.segments ≤ old.segments

-- no slot names a segment whose key is n or more
abbrev pub NamesBelow : ℕ → List (List Slice) → Type 0
NamesBelow n slots = (key : ℕ) → n ≤ key → named slots key ≡ 0

-- how many segments with keys below n some slot names, however many slots name each
abbrev pub segments_named : List (List Slice) → ℕ → ℕ
segments_named slots n = count_by (λ key. nat_lt 0 (named slots key)) (range_with_len 0 n)

-- the files and the names are as they were
pub record SameFiles (old new : Nodes) : Type 0 where
  pub files : new.files ≡ old.files
  pub names : new.names ≡ old.names
  pub limits : new.limits ≡ old.limits

-- the pipes and the names are as they were
pub record SamePipes (old new : Nodes) : Type 0 where
  pub pipes : new.pipes ≡ old.pipes
  pub names : new.names ≡ old.names
  pub limits : new.limits ≡ old.limits

-- the bytes of a pipe, none of none
abbrev pub bytes_of : Option Pipe → List ℕ
bytes_of None = []
bytes_of (Some pipe) = pipe.bytes

-- splice(2), off_in: the bytes of a file from a place on, at most so many
abbrev pub part_of : ℕ → ℕ → Option (List ℕ) → List ℕ
part_of place count file = take count (drop place (unwrap_or file []))
