use Rattle.std.proofs.Common.{subst}
use Rattle.pl_file.specs.Rows.{Chunks, IsAt}
use Rattle.pl_file.proofs.Chunking.{spot-first}
use Rattle.pl_file.proofs.chunks.Chunks.first.Goals as goal

pub returns-clause-spot : goal.returns-clause-spot
returns-clause-spot g c = subst (λ (v : Chunks). IsAt v.lens 0 0) c.self.view_is (spot-first 0 c.self.inside.rows.items c.self.invariant.chunks)
