use Rattle.std.proofs.Common.{ap, sym}
use Rattle.pl_model.specs.Splice.{is_packet_pipe}
use Rattle.pl_state.specs.Contents.{core_of, node_of}
use Rattle.pl_state.specs.KernelView.{view_of}
use Rattle.pl_splices.proofs.by_call.Sizing.{packet_told}
use Rattle.pl_splices.proofs.sides.is_packet.Goals as goal

pub returns-in-Pipe : goal.returns-in-Pipe
returns-in-Pipe g c = packet_told (view_of c.kernel.inside) c.args.kernel.now c.kernel.invariant.0.whole c.kernel.view_is c.args.side c.requires c.in-Pipe.pipe c.in-Pipe.is c.is_packet.result c.is_packet.ensures

pub returns-in-File : goal.returns-in-File
returns-in-File g c = sym (ap (λ n. is_packet_pipe (core_of c.args.kernel.now) (node_of n)) c.in-File.is)
