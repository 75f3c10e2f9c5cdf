use Rattle.std.proofs.Common.{◌≡◌, true, ap, sym, ◌∙◌}
use Rattle.pl_desc.specs.Rows.{is_pid}
use Rattle.pl_desc.specs.TablesView.{tables_in}
use Rattle.pl_desc.proofs.Processes.{stands, isnt-none, names-kept}
use Rattle.pl_desc.proofs.tables.ProcessTables.trim_rows.Goals.{in-Some, in_default}
use Rattle.pl_desc.proofs.tables.ProcessTables.trim_rows.Goals as goal

pub returns : goal.returns
returns g c =
    let list = c.self.inside.list.items in
    let process : is_pid (tables_in list) c.args.pid ≡ true = ap (λ t. is_pid t.tables c.args.pid) c.self.view_is ∙ c.requires in
    let here = sym (stands list c.args.pid process c.index_mut-place.result.now c.index_mut-place.ensures.value) in
    elim c.match-place.branch [
      | in-Some w ↦ ap (λ t. tables_in t.list.items) w.self-inside-is ∙ names-kept list c.args.pid process w.in-Some.table (here ∙ w.in-Some.is) w.trim.new.self w.trim.ensures ∙ ap (λ t. t.tables) c.self.view_is
      | in_default w ↦ absurd (isnt-none list c.args.pid process (here ∙ w.in_default.is))
    ]
