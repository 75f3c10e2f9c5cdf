use Rattle.std.proofs.Common.{◌≡◌, ◌≤◌, length, [], ◌∷◌, Some, None, refl, sym, subst, arith}
use Rattle.std.specs.Prelude.{IsSome, IfSome}
use Rattle.pl_model.specs.State.{empty_packet_pipe}
use Rattle.pl_model.specs.Packets.{gain}
use Rattle.pl_model.specs.Transfer.{room}
use Rattle.pl_segments.specs.Segments.{at}
use Rattle.pl_layer_checks.proofs.Staying.{made-packets, wrote-packets}
use Rattle.pl_layer_checks.proofs.packets.packet_of_two.Given.{Over}
use Rattle.pl_layer_checks.proofs.packets.packet_of_two.Goals.{In_ok-pipe, In_ok-write_packets}
use Rattle.pl_layer_checks.proofs.packets.packet_of_two.Goals as goal

-- the pipe as it was made
made : (g : Over) (c : In_ok-pipe g) → at c.make_packet_pipe.new.self.pipes c.in_ok-pipe.pipe ≡ Some empty_packet_pipe
made g c = made-packets (at c.new-nodes.result.pipes) (at c.make_packet_pipe.new.self.pipes) c.in_ok-pipe.pipe c.in_ok-pipe.ensures.ok

-- and after the write
wrote : (g : Over) (c : In_ok-write_packets g) → at c.make_packet_pipe.new.self.pipes c.in_ok-pipe.pipe ≡ Some empty_packet_pipe → at c.write_packets.new.self.pipes c.in_ok-pipe.pipe ≡ Some (gain (97 ∷ 98 ∷ []) empty_packet_pipe)
wrote g c made = wrote-packets (at c.make_packet_pipe.new.self.pipes) (at c.write_packets.new.self.pipes) c.in_ok-pipe.pipe (97 ∷ 98 ∷ []) made c.in_ok-write_packets.ensures.ok

pub write_packets-requires-clause-here : goal.write_packets-requires-clause-here
write_packets-requires-clause-here g c = subst (λ o. IsSome o) (sym (made g (goal.at.write_packets-requires-clause-here g c).In_ok-pipe)) refl

pub write_packets-requires-clause-packets : goal.write_packets-requires-clause-packets
write_packets-requires-clause-packets g c = subst (λ o. IfSome o (λ x. IsSome x.packets)) (sym (made g (goal.at.write_packets-requires-clause-packets g c).In_ok-pipe)) refl

pub write_packets-requires-clause-room : goal.write_packets-requires-clause-room
write_packets-requires-clause-room g c = subst (λ o. IfSome o (λ x. 2 ≤ room x)) (sym (made g (goal.at.write_packets-requires-clause-room g c).In_ok-pipe)) (omega arith)

pub read_packet-requires-clause-here : goal.read_packet-requires-clause-here
read_packet-requires-clause-here g c = subst (λ o. IsSome o) (sym (wrote g (goal.at.read_packet-requires-clause-here g c).In_ok-write_packets (made g (goal.at.read_packet-requires-clause-here g c).In_ok-pipe))) refl

pub read_packet-requires-clause-packets : goal.read_packet-requires-clause-packets
read_packet-requires-clause-packets g c = subst (λ o. IfSome o (λ x. IsSome x.packets)) (sym (wrote g (goal.at.read_packet-requires-clause-packets g c).In_ok-write_packets (made g (goal.at.read_packet-requires-clause-packets g c).In_ok-pipe))) refl

pub read_packet-requires-clause-some : goal.read_packet-requires-clause-some
read_packet-requires-clause-some g c = subst (λ o. IfSome o (λ x. IfSome x.packets (λ lengths. 1 ≤ length lengths))) (sym (wrote g (goal.at.read_packet-requires-clause-some g c).In_ok-write_packets (made g (goal.at.read_packet-requires-clause-some g c).In_ok-pipe))) (omega arith)
