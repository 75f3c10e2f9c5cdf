use Rattle.std.proofs.Common.{◌≡◌, true, Some, ap, sym, subst, ◌∙◌}
use Rattle.std.specs.Prelude.{IsSome, slice_set}
use Rattle.pl_desc.specs.Rows.{at, is_pid, rows_of, with_table}
use Rattle.pl_desc.specs.TablesView.{Processes, tables_in}
use Rattle.pl_desc.proofs.Processes.{stands, rows-here, view-put}
use Rattle.pl_desc.proofs.tables.ProcessTables.replace.Goals as goal

pub returns-clause-tables : goal.returns-clause-tables
returns-clause-tables g c =
    let list = c.self.inside.list.items in
    let process : is_pid (tables_in list) c.args.pid ≡ true = ap (λ t. is_pid t.tables c.args.pid) c.self.view_is ∙ c.requires.process in
    let was = sym (stands list c.args.pid process c.index_mut-place.result.now c.index_mut-place.ensures.value) ∙ c.in-Some.is in
    let put : Processes → Processes = λ t. record t { tables = with_table t.tables c.args.pid (Some (slice_set (rows_of t.tables c.args.pid) c.args.fd (Some c.args.key))) } in
    view-put list c.args.pid process c.in-Some.table was c.replace.new.self c.args.fd (Some c.args.key) c.replace.ensures.names ∙ ap put c.self.view_is

pub returns-clause-named : goal.returns-clause-named
returns-clause-named g c =
    let list = c.self.inside.list.items in
    let process : is_pid (tables_in list) c.args.pid ≡ true = ap (λ t. is_pid t.tables c.args.pid) c.self.view_is ∙ c.requires.process in
    let was = sym (stands list c.args.pid process c.index_mut-place.result.now c.index_mut-place.ensures.value) ∙ c.in-Some.is in
    ap (λ rows. at rows c.args.fd) (ap (λ t. rows_of t.tables c.args.pid) (sym c.self.view_is) ∙ rows-here list c.args.pid process c.in-Some.table was) ∙ c.replace.ensures.named

pub replace-requires-clause-open : goal.replace-requires-clause-open
replace-requires-clause-open g c =
    let list = c.self.inside.list.items in
    let process : is_pid (tables_in list) c.args.pid ≡ true = ap (λ t. is_pid t.tables c.args.pid) c.self.view_is ∙ c.requires.process in
    let was = sym (stands list c.args.pid process c.index_mut-place.result.now c.index_mut-place.ensures.value) ∙ c.in-Some.is in
    subst (λ rows. IsSome (at rows c.args.fd)) (ap (λ t. rows_of t.tables c.args.pid) (sym c.self.view_is) ∙ rows-here list c.args.pid process c.in-Some.table was) c.requires.open
