-- Nodes by the keys of the code, and the names that stand for them.
use Rattle.std.specs.Prelude.{ℕ, Bool, false, nat_eq, List}
use Rattle.std.specs.List.{list_any}
use Rattle.pl_model.specs.declared.node.Node.{Node}
use Rattle.pl_model.specs.declared.node.Node.TheVariants.{Pipe, File}
use Rattle.pl_model.specs.Map.{Map}

-- the key under which a node is held
abbrev pub key_of : Node → ℕ
key_of (Pipe p) = p
key_of (File f) = f

-- whether two nodes are one
abbrev pub same_node : Node → Node → Bool
same_node (Pipe p) (Pipe q) = nat_eq p q
same_node (Pipe p) (File f) = false
same_node (File f) (Pipe p) = false
same_node (File f) (File g) = nat_eq f g

-- POSIX.1-2017, unlink: a name stands for the node, and keeps it.
abbrev pub has_name : Map (List ℕ) Node → Node → Bool
has_name names node = list_any (λ e. same_node e.1 node) names
