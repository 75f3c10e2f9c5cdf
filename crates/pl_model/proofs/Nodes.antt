-- Nodes by the keys of the code.
use Rattle.std.proofs.Common.{◌≡◌, true, refl, ap}
use Rattle.std.proofs.lemmas.Bool.{eq-eqb, eqb-true}
use Rattle.pl_model.specs.declared.node.Node.{Node}
use Rattle.pl_model.specs.declared.node.Node.TheVariants.{Pipe, File}
use Rattle.pl_model.specs.Nodes.{same_node}

-- a node is one with itself
pub same_node-refl : (n : Node) → same_node n n ≡ true
same_node-refl (Pipe p) = eq-eqb p p refl
same_node-refl (File f) = eq-eqb f f refl

-- nodes that are one are the same
pub same_node-is : (n m : Node) → same_node n m ≡ true → n ≡ m
same_node-is (Pipe p) (Pipe q) h = ap (λ k. Pipe k) (eqb-true p q h)
same_node-is (File f) (File g) h = ap (λ k. File k) (eqb-true f g h)
same_node-is (Pipe p) (File g) h = absurd (cc)
same_node-is (File f) (Pipe q) h = absurd (cc)
