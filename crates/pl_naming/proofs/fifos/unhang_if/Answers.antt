use Rattle.std.proofs.Common.{cond, false, sym, ◌∙◌}
use Rattle.pl_model.specs.Map.{change_at}
use Rattle.pl_model.specs.State.{Pipe}
use Rattle.pl_desc.specs.Rows.{at}
use Rattle.pl_naming.proofs.fifos.unhang_if.Goals as goal

pub returns-clause-pipes : goal.returns-clause-pipes
returns-clause-pipes g c =
    c.set_hung.ensures.ok ∙ (λ i. change_at c.args.pipe (λ (x : Pipe). record x { hung = cond (sym c.if-not-gets_writer.false i) false x.hung }) (at c.args.nodes.now.pipes))
