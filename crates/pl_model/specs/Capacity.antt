-- How many bytes a pipe can hold.
use Rattle.std.specs.Prelude.{ℕ, ◌≤◌, nat_le, List, [], ◌∷◌, Option, unwrap_or}
use Rattle.std.specs.declared.option.Option.TheVariants.{None, Some}
use Rattle.std.specs.Int.{IsPowerOfTwo}
use Rattle.std.specs.List.{find}
use Rattle.pl_model.specs.Numbers.{least_capacity, most_capacity}
use Rattle.pl_model.specs.Keys.{Keys, Node, PipeNode, FileNode}
use Rattle.pl_model.specs.State.{Core, set_pipe}
use Rattle.pl_model.specs.Trial.{pipe_at}

-- Our own: the capacities that a pipe may have are powers of two, from a page on, in order.
abbrev pub capacities : List ℕ
capacities = 4096 ∷ 8192 ∷ 16384 ∷ 32768 ∷ 65536 ∷ 131072 ∷ 262144 ∷ 524288 ∷ 1048576 ∷ []

-- fcntl(2), F_SETPIPE_SZ: the least of them that is at least the size. A size above the greatest one is refused before.
unfoldable pub rounded_capacity : ℕ → ℕ
rounded_capacity size = unwrap_or (find (nat_le size) capacities) most_capacity

-- what may be the capacity of a pipe
pub record IsPipeCapacity (capacity : ℕ) : Type 0 where
  pub power : IsPowerOfTwo capacity
  pub least : least_capacity ≤ capacity
  pub most : capacity ≤ most_capacity

module _ {K : Keys} where
  -- the pipe that the node is, if it is one
  abbrev pub pipe_of : Node K → Option K.Pipe
  pipe_of (PipeNode p) = Some p
  pipe_of (FileNode f) = None

module _ {A : Type 0} {K : Keys} where
  -- fcntl(2), F_SETPIPE_SZ: the pipe can hold so many bytes, and holds those that it held.
  abbrev pub set_capacity : Core A K → K.Pipe → ℕ → Core A K
  set_capacity s p capacity = set_pipe s p (record (pipe_at s p) { capacity = capacity })
