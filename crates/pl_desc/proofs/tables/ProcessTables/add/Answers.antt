use Rattle.std.proofs.Common.{◌≡◌, ◌-◌, ◌≤◌, false, Some, ap, sym, ◌∙◌, subst, length, arith}
use Rattle.std.specs.Prelude.{slice_set}
use Rattle.pl_desc.specs.Rows.{is_pid, rows_at, with_table}
use Rattle.pl_desc.specs.TablesView.{tables_in, rows_in}
use Rattle.pl_desc.proofs.Processes.{length-tables, tables-set, rows-added}
use Rattle.pl_desc.proofs.Vacant.{vacant-put}
use Rattle.pl_desc.proofs.tables.ProcessTables.add.Goals as goal

pub remove-requires : goal.remove-requires
remove-requires g c =
    let list = c.self.inside.list.items in
    let high : c.args.pid ≤ length (tables_in list) = subst (λ t. c.args.pid ≤ length t.tables) (sym c.self.view_is) c.requires.place in
    c.self.invariant.places (c.args.pid - 1) (omega (arith, high, length-tables list, c.requires.low))

pub invariant_of-self : goal.invariant_of-self
invariant_of-self g c =
    let list = c.self.inside.list.items in
    let high : c.args.pid ≤ length (tables_in list) = subst (λ t. c.args.pid ≤ length t.tables) (sym c.self.view_is) c.requires.place in
    vacant-put list c.self.inside.vacant c.self.invariant (c.args.pid - 1) (Some c.args.table) c.remove.new.self (omega (arith, high, length-tables list, c.requires.low)) c.remove.ensures.value c.remove.ensures.places

pub returns-clause-tables : goal.returns-clause-tables
returns-clause-tables g c = tables-set c.self.inside.list.items c.args.pid (Some c.args.table) ∙ ap (λ t. with_table t.tables c.args.pid (Some c.args.table.names)) c.self.view_is

pub returns-clause-rows : goal.returns-clause-rows
returns-clause-rows g c = λ q.
    let list = c.self.inside.list.items in
    let high : c.args.pid ≤ length (tables_in list) = subst (λ t. c.args.pid ≤ length t.tables) (sym c.self.view_is) c.requires.place in
    let free : is_pid (tables_in list) c.args.pid ≡ false = ap (λ t. is_pid t.tables c.args.pid) c.self.view_is ∙ c.requires.free in
    subst (λ t. rows_at t.rows q ≤ rows_at (rows_in (slice_set list (c.args.pid - 1) (Some c.args.table))) q) c.self.view_is (rows-added list c.args.pid c.args.table c.requires.low (omega (arith, high, length-tables list)) free q)
