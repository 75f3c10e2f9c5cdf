-- Lists of nodes, and marks of those that are in them.
use Rattle.std.specs.Prelude.{◌≡◌, ◌≤◌, ℕ, Bool, false, List, length, slice_index_or, nat_eq}
use Rattle.std.specs.List.{list_any, IsDistinct}

-- the node has a mark
abbrev pub mark_at : List Bool → ℕ → Bool
mark_at marked node = slice_index_or marked node false

-- the node is in the list
abbrev pub is_listed : List ℕ → ℕ → Bool
is_listed nodes node = list_any (nat_eq node) nodes

-- A node has a mark exactly if it is in the list, and is there once. There is room in the list for each that can have one.
pub record AreMarked (marked : List Bool) (nodes : List ℕ) (room : ℕ) : Type 0 where
  pub listed : (node : ℕ) → mark_at marked node ≡ is_listed nodes node
  pub once : IsDistinct nat_eq nodes
  pub room_for_all : length marked ≤ room
