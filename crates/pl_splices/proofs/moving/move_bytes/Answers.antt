use Rattle.pl_model.specs.declared.node.Node.TheVariants.{Pipe, File}
use Rattle.pl_splices.proofs.by_call.Sharing.{between, from_a_file}
use Rattle.pl_splices.proofs.by_call.Sizing.{pipe_held, pipe_room, file_left, file_room, from_is_bytes, to_is_bytes}
use Rattle.pl_splices.proofs.moving.move_bytes.Goals as goal

pub pipe_to_pipe-requires-clause-held : goal.pipe_to_pipe-requires-clause-held
pipe_to_pipe-requires-clause-held g c = pipe_held c.args.kernel.now c.args.from c.args.to c.args.is_tee c.requires.goes c.args.count c.requires.fits c.in-Pipe-Pipe.source c.in-Pipe-Pipe.is-0

pub pipe_to_pipe-requires-clause-room : goal.pipe_to_pipe-requires-clause-room
pipe_to_pipe-requires-clause-room g c = pipe_room c.args.kernel.now c.args.from c.args.to c.args.is_tee c.requires.goes c.args.count c.requires.fits c.in-Pipe-Pipe.target c.in-Pipe-Pipe.is-1

pub pipe_to_file-requires-clause-held : goal.pipe_to_file-requires-clause-held
pipe_to_file-requires-clause-held g c = pipe_held c.args.kernel.now c.args.from c.args.to c.args.is_tee c.requires.goes c.args.count c.requires.fits c.in-Pipe-File.source c.in-Pipe-File.is-0

pub pipe_to_file-requires-clause-room : goal.pipe_to_file-requires-clause-room
pipe_to_file-requires-clause-room g c = file_room c.args.kernel.now c.args.from c.args.to c.args.is_tee c.requires.goes c.args.count c.requires.fits c.in-Pipe-File.target c.in-Pipe-File.is-1

pub file_to_pipe-requires-clause-left : goal.file_to_pipe-requires-clause-left
file_to_pipe-requires-clause-left g c = file_left c.args.kernel.now c.args.from c.args.to c.args.is_tee c.requires.goes c.args.count c.requires.fits c.in-File-Pipe.source c.in-File-Pipe.is-0

pub file_to_pipe-requires-clause-room : goal.file_to_pipe-requires-clause-room
file_to_pipe-requires-clause-room g c = pipe_room c.args.kernel.now c.args.from c.args.to c.args.is_tee c.requires.goes c.args.count c.requires.fits c.in-File-Pipe.target c.in-File-Pipe.is-1

pub returns-in-Pipe-Pipe-clause-shares : goal.returns-in-Pipe-Pipe-clause-shares
returns-in-Pipe-Pipe-clause-shares g c =
    between c.args.kernel.now c.pipe_to_pipe.new.kernel c.args.from c.args.to (Pipe c.in-Pipe-Pipe.source) (Pipe c.in-Pipe-Pipe.target) c.in-Pipe-Pipe.is-0 c.in-Pipe-Pipe.is-1 c.pipe_to_pipe.result c.pipe_to_pipe.ensures.shares c.pipe_to_pipe.ensures.undone

pub returns-in-Pipe-File-clause-shares : goal.returns-in-Pipe-File-clause-shares
returns-in-Pipe-File-clause-shares g c =
    between c.args.kernel.now c.pipe_to_file.new.kernel c.args.from c.args.to (Pipe c.in-Pipe-File.source) (File c.in-Pipe-File.target) c.in-Pipe-File.is-0 c.in-Pipe-File.is-1 c.pipe_to_file.result c.pipe_to_file.ensures.shares c.pipe_to_file.ensures.undone

pub returns-in-File-Pipe-clause-shares : goal.returns-in-File-Pipe-clause-shares
returns-in-File-Pipe-clause-shares g c = from_a_file c.args.kernel.now c.file_to_pipe.new.kernel c.args.from c.args.to c.in-File-Pipe.source c.in-File-Pipe.is-0

pub pipe_to_pipe-requires-clause-from_bytes : goal.pipe_to_pipe-requires-clause-from_bytes
pipe_to_pipe-requires-clause-from_bytes g c = from_is_bytes c.args.kernel.now c.args.from.node c.args.to.node c.requires.bytes c.in-Pipe-Pipe.source c.in-Pipe-Pipe.is-0

pub pipe_to_pipe-requires-clause-to_bytes : goal.pipe_to_pipe-requires-clause-to_bytes
pipe_to_pipe-requires-clause-to_bytes g c = to_is_bytes c.args.kernel.now c.args.from.node c.args.to.node c.requires.bytes c.in-Pipe-Pipe.target c.in-Pipe-Pipe.is-1

pub pipe_to_file-requires-clause-from_bytes : goal.pipe_to_file-requires-clause-from_bytes
pipe_to_file-requires-clause-from_bytes g c = from_is_bytes c.args.kernel.now c.args.from.node c.args.to.node c.requires.bytes c.in-Pipe-File.source c.in-Pipe-File.is-0

pub file_to_pipe-requires-clause-to_bytes : goal.file_to_pipe-requires-clause-to_bytes
file_to_pipe-requires-clause-to_bytes g c = to_is_bytes c.args.kernel.now c.args.from.node c.args.to.node c.requires.bytes c.in-File-Pipe.target c.in-File-Pipe.is-1
