use Rattle.std.proofs.Common.{ℕ, List, [], cond, sym, ◌∙◌}
use Rattle.pl_model.specs.Map.{change_at}
use Rattle.pl_desc.specs.Rows.{at}
use Rattle.pl_naming.proofs.naming.empty_if.Goals as goal

pub returns-clause-files : goal.returns-clause-files
returns-clause-files g c = c.empty_file.ensures.ok ∙ (λ i. change_at c.args.file (λ (bytes : List ℕ). cond (sym c.if-not-is_emptied.false i) [] bytes) (at c.args.nodes.now.files))
