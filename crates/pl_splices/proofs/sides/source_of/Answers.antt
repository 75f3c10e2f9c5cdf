use Rattle.pl_state.specs.KernelView.{view_of}
use Rattle.pl_splices.proofs.by_call.Sizing.{pipe_source, file_source}
use Rattle.pl_splices.proofs.sides.source_of.Goals as goal

pub returns-in-Pipe : goal.returns-in-Pipe
returns-in-Pipe g c = pipe_source (view_of c.kernel.inside) c.args.kernel.now c.kernel.invariant.0.whole c.kernel.view_is c.args.side c.requires c.in-Pipe.pipe c.in-Pipe.is c.held.result c.writers.result c.held.ensures.value c.writers.ensures

pub returns-in-File : goal.returns-in-File
returns-in-File g c = file_source (view_of c.kernel.inside) c.args.kernel.now c.kernel.invariant.0.whole c.kernel.view_is c.args.side c.requires c.in-File.file c.in-File.is c.start_of-start.result c.start_of-start.ensures
    c.file_len.result c.saturating_sub.result c.file_len.ensures.value c.saturating_sub.ensures
