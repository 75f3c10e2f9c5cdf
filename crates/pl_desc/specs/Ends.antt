-- The counts of the ends of each node.
use Rattle.std.specs.Prelude.{◌<◌, ℕ, ◌+◌, ◌-◌, Bool, List, length, slice_index_or, if◌then◌else◌, Option}
use Rattle.pl_model.specs.declared.calls.Mode.{Mode}
use Rattle.pl_model.specs.declared.node.Node.{Node}
use Rattle.pl_model.specs.declared.node.Node.TheVariants.{Pipe, File}
use Rattle.pl_model.specs.Modes.{reads, writes}
use Rattle.pl_model.specs.Nodes.{same_node}
use Rattle.pl_desc.specs.declared.ends.Ends.{Ends}
use Rattle.pl_desc.specs.declared.ends.Counts.{Counts}
use Rattle.pl_desc.specs.Descs.{Opened, ends_on}

-- the counts of a node that nothing is open on
abbrev pub no_ends : Ends
no_ends = record { readers = 0; writers = 0 }

-- 1 where the test holds, else 0
abbrev pub one_if : Bool → ℕ
one_if b = if b then 1 else 0

-- the counts with a description of the mode more
abbrev pub raised : Mode → Ends → Ends
raised mode ends = record { readers = ends.readers + one_if (reads mode); writers = ends.writers + one_if (writes mode) }

-- the counts with a description of the mode less
abbrev pub lowered : Mode → Ends → Ends
lowered mode ends = record { readers = ends.readers - one_if (reads mode); writers = ends.writers - one_if (writes mode) }

-- the counts that a list has at a key; one past its end has none
abbrev pub ends_in : List Ends → ℕ → Ends
ends_in list key = slice_index_or list key no_ends

-- the counts of a node
abbrev pub ends_at : {A : Type 0} → Counts A → Node → Ends
ends_at counts (Pipe p) = ends_in counts.pipes.items p
ends_at counts (File f) = ends_in counts.files.items f

-- the node has a place for its counts
abbrev pub HasCounts : {A : Type 0} → Counts A → Node → Type 0
HasCounts counts (Pipe p) = p < length counts.pipes.items
HasCounts counts (File f) = f < length counts.files.items

-- the counts with those of one node changed
abbrev pub change_ends : Node → (Ends → Ends) → (Node → Ends) → Node → Ends
change_ends node f m = λ n. if same_node node n then f (m n) else m n

-- the counts of the descriptions that are open
abbrev pub counted : List (Option Opened) → Node → Ends
counted opened node = record { readers = ends_on reads opened node; writers = ends_on writes opened node }
