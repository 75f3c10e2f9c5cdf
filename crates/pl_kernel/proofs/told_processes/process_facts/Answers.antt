use Rattle.std.proofs.Common.{◌≡◌, ℕ, List, Option, Some, None, sym, ap, ◌∙◌, subst, Bor, length}
use Rattle.std.specs.Prelude.{option_map, is_some}
use Rattle.std.specs.Option.{option_copied}
use Rattle.pl_model.specs.Tables.{descriptor_limit}
use Rattle.pl_desc.specs.Rows.{Tabled, open_in, table_of, rows_in}
use Rattle.pl_desc.proofs.RowLemmas.{rows-length}
use Rattle.pl_state.specs.Contents.{Contents, waiting_count}
use Rattle.pl_state.specs.KernelView.{view_of}
use Rattle.pl_kernel.specs.ToldProcesses.{TellsHoldings}
use Rattle.pl_kernel.specs.declared.told_processes.ProcessFacts.{ProcessFacts}
use Rattle.pl_kernel.proofs.ToldProcesses.{tells-none, tells-some}
use Rattle.pl_kernel.proofs.told_processes.process_facts.Goals as goal

-- what the descriptors of a table name that was looked up
abbrev names_of : Option (Bor Tabled) → Option (List (Option ℕ))
names_of table = option_map (λ (t : Tabled). t.names) (option_copied table)

pub returns-in_err-table : goal.returns-in_err-table
returns-in_err-table g c =
    let none : table_of c.kernel.inside.descs.tables c.args.pid ≡ None = sym c.table.ensures ∙ ap names_of c.in_err-table.was in
    rw (c.from_residual.ensures, ← c.kernel.view_is) (tells-none (view_of c.kernel.inside) c.args.pid none)

pub returns : goal.returns
returns g c =
    let k = view_of c.kernel.inside in
    let table = c.in_ok-table.table.now.names in
    let some : table_of k.tables c.args.pid ≡ Some table = sym c.table.ensures ∙ ap names_of c.in_ok-table.was in
    let counted = c.kernel.invariant.1 in
    let long = rows-length k.tables c.args.pid (ap is_some some) counted.tidy.wide in
    let wide : length table ≡ descriptor_limit k.limits = sym (ap (λ o. length (rows_in o)) some) ∙ long ∙ ap (λ l. l.descriptors) counted.bounds in
    rw (← c.kernel.view_is) (subst (λ n. TellsHoldings k c.args.pid (Some (record { descriptors = n; waiting_calls = c.count_of.result }))) (sym c.open_count.ensures)
    (subst (λ n. TellsHoldings k c.args.pid (Some (record { descriptors = open_in table; waiting_calls = n }))) (sym c.count_of.ensures)
    (tells-some k c.args.pid table some wide)))
