use Rattle.std.proofs.Common.{[], ◌∷◌, ◌++◌, ◌≡◌, None, ap, ◌∙◌}
use Rattle.pl_desc.specs.Rows.{table_of, naming}
use Rattle.pl_desc.specs.TablesView.{tables_in}
use Rattle.pl_desc.proofs.RowLemmas.{table-push, naming-push}
use Rattle.pl_desc.proofs.Processes.{tables-push}
use Rattle.pl_desc.proofs.tables.ProcessTables.reserve.Given.{Over}
use Rattle.pl_desc.proofs.tables.ProcessTables.reserve.Goals.{After-push_reserved}
use Rattle.pl_desc.proofs.tables.ProcessTables.reserve.Goals as goal

pushed : (g : Over) (c : After-push_reserved g) → tables_in c.push_reserved.new.self.items ≡ c.args.self.now.tables ++ None ∷ []
pushed g c =
    ap tables_in c.push_reserved.ensures.items ∙ tables-push c.try_reserve.new.self.items ∙ ap (λ list. tables_in list ++ None ∷ []) c.try_reserve.ensures.items
    ∙ ap (λ t. t.tables ++ None ∷ []) c.self.view_is

pub returns-clause-tables : goal.returns-clause-tables
returns-clause-tables g c = ap table_of (pushed g (goal.at.returns-clause-tables g c).After-push_reserved) ∙ table-push c.args.self.now.tables

pub returns-clause-names : goal.returns-clause-names
returns-clause-names g c = ap naming (pushed g (goal.at.returns-clause-names g c).After-push_reserved) ∙ naming-push c.args.self.now.tables
