-- The sides of a splice, as the machine has them.
use Rattle.std.specs.Prelude.{◌||◌, Bool}
use Rattle.pl_model.specs.declared.node.Node.{Node}
use Rattle.pl_model.specs.Splice.{Side as MachineSide, is_packet_pipe}
use Rattle.pl_model.specs.Numbered.{numbers}
use Rattle.pl_desc.specs.Descs.{Opened}
use Rattle.pl_state.specs.Contents.{Contents, node_of, description_of, core_of}
use Rattle.pl_splices.specs.declared.sides.Side.{Side}

-- a side, whose description is this one
abbrev pub side_of : Side → Opened → MachineSide numbers
side_of s o = record { key = s.key; description = description_of o; given = s.given }

-- pipe(2), O_DIRECT: what a splice is from or to is a packet pipe
abbrev pub either_is_packets : {A : Type 0} → Contents A → (from to : Node) → Bool
either_is_packets k from to = is_packet_pipe (core_of k) (node_of from) || is_packet_pipe (core_of k) (node_of to)
