use Rattle.pl_state.specs.KernelView.{view_of}
use Rattle.pl_splices.proofs.by_call.Sizing.{pipe_target, file_target}
use Rattle.pl_splices.proofs.sides.target_of.Goals as goal

pub returns-in-Pipe : goal.returns-in-Pipe
returns-in-Pipe g c = pipe_target (view_of c.kernel.inside) c.args.kernel.now c.kernel.invariant.0.whole c.kernel.view_is c.args.side c.requires c.in-Pipe.pipe c.in-Pipe.is c.room.result c.readers.result c.room.ensures.value c.readers.ensures

pub returns-in-File : goal.returns-in-File
returns-in-File g c = file_target (view_of c.kernel.inside) c.args.kernel.now c.kernel.invariant.0.whole c.kernel.view_is c.args.side c.requires c.in-File.field-0 c.in-File.is c.start_of-start.result c.start_of-start.ensures
    c.saturating_sub.result c.saturating_sub.ensures
