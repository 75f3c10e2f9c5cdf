use Rattle.std.proofs.Common.{◌≡◌, ◌∙◌, Some, None, refl, sym, ap, length, arith, Option}
use Rattle.std.specs.Prelude.{is_some, option_map}
use Rattle.pl_desc.specs.Rows.{at, Tabled, free_pid}
use Rattle.pl_desc.specs.TablesView.{tables_in}
use Rattle.pl_desc.proofs.RowLemmas.{pid-first, pid-none}
use Rattle.pl_desc.proofs.Processes.{at-tables}
use Rattle.pl_desc.proofs.Vacant.{vacant-place}
use Rattle.pl_desc.proofs.tables.ProcessTables.free_pid.Goals as goal

some_names : (o : Option Tabled) → is_some (option_map (λ (table : Tabled). table.names) o) ≡ is_some o
some_names None = refl
some_names (Some table) = refl

pub returns-then-place-most-clause-value : goal.returns-then-place-most-clause-value
returns-then-place-most-clause-value g c =
    let list = c.self.inside.list.items in
    let long : c.len.result ≡ length list = omega (arith, c.len.ensures) in
    let first = vacant-place list c.self.inside.vacant c.self.invariant c.next.result c.next.ensures.some c.next.ensures.none c.len.result c.unwrap_or-place.result c.unwrap_or-place.ensures long in
    sym (pid-first (tables_in list) c.args.most c.unwrap_or-place.result c.if-place-most.true (at-tables list c.unwrap_or-place.result ∙ ap (option_map (λ (table : Tabled). table.names)) first.free)
    (λ q l. ap is_some (at-tables list q) ∙ some_names (at list q) ∙ first.taken q l)) ∙ ap (λ t. free_pid t.tables c.args.most) c.self.view_is

pub returns-else-place-most-clause-value : goal.returns-else-place-most-clause-value
returns-else-place-most-clause-value g c =
    let list = c.self.inside.list.items in
    let long : c.len.result ≡ length list = omega (arith, c.len.ensures) in
    let first = vacant-place list c.self.inside.vacant c.self.invariant c.next.result c.next.ensures.some c.next.ensures.none c.len.result c.unwrap_or-place.result c.unwrap_or-place.ensures long in
    sym (pid-none (tables_in list) c.args.most (λ q l. ap is_some (at-tables list q) ∙ some_names (at list q) ∙ first.taken q (omega (arith, l, c.if-place-most.false)))) ∙ ap (λ t. free_pid t.tables c.args.most) c.self.view_is
