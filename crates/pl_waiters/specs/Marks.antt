-- Nodes that are marked.
use Rattle.std.specs.Prelude.{◌<◌, ℕ, Bool, length}
use Rattle.pl_waiters.specs.declared.marks.Marks.{Marks}
use Rattle.pl_waiters.specs.MarkLists.{mark_at}

module _ {A : Type 0} where
  -- the node has a mark
  abbrev pub is_marked : Marks A → ℕ → Bool
  is_marked m node = mark_at m.marked.items node

  -- there is room for the mark of the node
  abbrev pub has_room : Marks A → ℕ → Type 0
  has_room m node = node < length m.marked.items
