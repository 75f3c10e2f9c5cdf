use Rattle.std.proofs.Common.{refl}
use Rattle.pl_desc.proofs.EndLemmas.{ends-same}
use Rattle.pl_desc.proofs.ends.Counts.reserve.Goals as goal

pub returns-in-Pipe-clause-kept : goal.returns-in-Pipe-clause-kept
returns-in-Pipe-clause-kept g c = ends-same c.args.self.now (record c.args.self.now { pipes = c.reserve_in.new.list }) c.reserve_in.ensures.kept refl

pub returns-in-File-clause-kept : goal.returns-in-File-clause-kept
returns-in-File-clause-kept g c = ends-same c.args.self.now (record c.args.self.now { files = c.reserve_in-in-File.new.list }) refl c.reserve_in-in-File.ensures.kept
