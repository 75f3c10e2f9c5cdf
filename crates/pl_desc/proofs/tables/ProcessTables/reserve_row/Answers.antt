use Rattle.std.proofs.Common.{◌≡◌, ◌<◌, ◌≤◌, true, ap, sym, subst, ◌∙◌, arith}
use Rattle.std.specs.Prelude.{Result, Ok, Err, OnOk}
use Rattle.pl_desc.specs.Rows.{is_pid, rows_at}
use Rattle.pl_desc.specs.TablesView.{tables_in, rows_in}
use Rattle.pl_desc.proofs.Processes.{stands, isnt-none, names-kept, rows-more, rows-here-now}
use Rattle.pl_desc.proofs.tables.ProcessTables.reserve_row.Goals.{in-Some, in-None}
use Rattle.pl_desc.proofs.tables.ProcessTables.reserve_row.Goals as goal

on_ok : {T E P Q : Type 0} (r : Result T E) → (P → Q) → OnOk r P → OnOk r Q
on_ok (Ok x) f p = f p
on_ok (Err e) f p = tt

pub returns-clause-row : goal.returns-clause-row
returns-clause-row g c =
    let list = c.self.inside.list.items in
    let process : is_pid (tables_in list) c.args.pid ≡ true = ap (λ t. is_pid t.tables c.args.pid) c.self.view_is ∙ c.requires.process in
    let here = sym (stands list c.args.pid process c.index_mut-place.result.now c.index_mut-place.ensures.value) in
    elim c.match-place.branch [
      | in-Some w ↦
          let rows : rows_at (rows_in c.match-place.self-inside.list.items) c.args.pid ≡ w.reserve.new.self.rows =
          ap (λ t. rows_at (rows_in t.list.items) c.args.pid) w.self-inside-is ∙ rows-here-now list c.args.pid process w.in-Some.table (here ∙ w.in-Some.is) w.reserve.new.self in
          subst (λ r. OnOk r (c.args.fd < rows_at (rows_in c.match-place.self-inside.list.items) c.args.pid)) (sym w.result-is)
          (on_ok w.reserve.result (λ l. omega (arith, l, rows)) w.reserve.ensures.row)
      | in-None w ↦ absurd (isnt-none list c.args.pid process (here ∙ w.in-None.is))
    ]

pub returns-clause-more : goal.returns-clause-more
returns-clause-more g c = λ q.
    let list = c.self.inside.list.items in
    let process : is_pid (tables_in list) c.args.pid ≡ true = ap (λ t. is_pid t.tables c.args.pid) c.self.view_is ∙ c.requires.process in
    let here = sym (stands list c.args.pid process c.index_mut-place.result.now c.index_mut-place.ensures.value) in
    elim c.match-place.branch [
      | in-Some w ↦
          subst (λ rows. rows_at rows q ≤ rows_at (rows_in c.match-place.self-inside.list.items) q) (ap (λ t. t.rows) c.self.view_is)
          (subst (λ t. rows_at (rows_in list) q ≤ rows_at (rows_in t.list.items) q) (sym w.self-inside-is)
          (rows-more list c.args.pid process w.in-Some.table (here ∙ w.in-Some.is) w.reserve.new.self w.reserve.ensures.more q))
      | in-None w ↦ absurd (isnt-none list c.args.pid process (here ∙ w.in-None.is))
    ]

pub returns-clause-tables : goal.returns-clause-tables
returns-clause-tables g c =
    let list = c.self.inside.list.items in
    let process : is_pid (tables_in list) c.args.pid ≡ true = ap (λ t. is_pid t.tables c.args.pid) c.self.view_is ∙ c.requires.process in
    let here = sym (stands list c.args.pid process c.index_mut-place.result.now c.index_mut-place.ensures.value) in
    elim c.match-place.branch [
      | in-Some w ↦ ap (λ t. tables_in t.list.items) w.self-inside-is ∙ names-kept list c.args.pid process w.in-Some.table (here ∙ w.in-Some.is) w.reserve.new.self w.reserve.ensures.same ∙ ap (λ t. t.tables) c.self.view_is
      | in-None w ↦ absurd (isnt-none list c.args.pid process (here ∙ w.in-None.is))
    ]
