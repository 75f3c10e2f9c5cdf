use Rattle.std.proofs.Common.{ap, sym, ◌∙◌, ◌||◌}
use Rattle.pl_model.specs.Splice.{is_packet_pipe}
use Rattle.pl_state.specs.Contents.{core_of, node_of}
use Rattle.pl_splices.proofs.sides.either_is_packet.Goals as goal

pub returns-then-is_packet : goal.returns-then-is_packet
returns-then-is_packet g c = ap (λ b. b || is_packet_pipe (core_of c.args.kernel.now) (node_of c.args.to.node)) (sym c.if-is_packet.true ∙ c.is_packet.ensures)

pub returns-else-is_packet : goal.returns-else-is_packet
returns-else-is_packet g c = c.is_packet-else-is_packet.ensures ∙ ap (λ b. b || is_packet_pipe (core_of c.args.kernel.now) (node_of c.args.to.node)) (sym c.if-is_packet.false ∙ c.is_packet.ensures)
