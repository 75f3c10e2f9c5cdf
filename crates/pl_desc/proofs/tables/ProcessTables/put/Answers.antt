use Rattle.std.proofs.Common.{◌≡◌, true, Some, None, ap, sym, subst, ◌∙◌}
use Rattle.pl_desc.specs.Rows.{at, is_pid, rows_of, with_table}
use Rattle.pl_desc.specs.TablesView.{Processes, tables_in}
use Rattle.std.specs.Prelude.{slice_set}
use Rattle.pl_desc.proofs.Processes.{stands, isnt-none, rows-here, view-of, view-put}
use Rattle.pl_desc.proofs.tables.ProcessTables.put.Given.{Over}
use Rattle.pl_desc.proofs.tables.ProcessTables.put.Goals.{Joined-place, in-Some, in_default}
use Rattle.pl_desc.proofs.tables.ProcessTables.put.Goals as goal

module _ (g : Over) (c : Joined-place g) where
  process : is_pid (tables_in c.self.inside.list.items) c.args.pid ≡ true
  process = ap (λ t. is_pid t.tables c.args.pid) c.self.view_is ∙ c.requires.process

pub returns : goal.returns
returns g c =
    let list = c.self.inside.list.items in
    let put : Processes → Processes = λ t. record t { tables = with_table t.tables c.args.pid (Some (slice_set (rows_of t.tables c.args.pid) c.args.fd (Some c.args.key))) } in
    elim c.match-place.branch [
      | in-Some w ↦
          let was = sym (stands list c.args.pid (process g c) c.index_mut-place.result.now c.index_mut-place.ensures.value) ∙ w.in-Some.is in
          ap (λ t. view-of t.list.items) w.self-inside-is ∙ view-put list c.args.pid (process g c) w.in-Some.table was w.put.new.self c.args.fd (Some c.args.key) w.put.ensures ∙ ap put c.self.view_is
      | in_default w ↦ absurd (isnt-none list c.args.pid (process g c) (sym (stands list c.args.pid (process g c) c.index_mut-place.result.now c.index_mut-place.ensures.value) ∙ w.in_default.is))
    ]

pub put-requires-clause-free : goal.put-requires-clause-free
put-requires-clause-free g c =
    let list = c.self.inside.list.items in
    let process : is_pid (tables_in list) c.args.pid ≡ true = ap (λ t. is_pid t.tables c.args.pid) c.self.view_is ∙ c.requires.process in
    let was = sym (stands list c.args.pid process c.index_mut-place.result.now c.index_mut-place.ensures.value) ∙ c.in-Some.is in
    subst (λ rows. at rows c.args.fd ≡ None) (ap (λ t. rows_of t.tables c.args.pid) (sym c.self.view_is) ∙ rows-here list c.args.pid process c.in-Some.table was) c.requires.free
