use Rattle.std.proofs.Common.{◌≡◌, ◌≤◌, ◌<◌, ◌^◌, ◌-◌, length, ap, ◌∙◌, sym, subst, Some, true, nat_eq, arith, ⊎_elim}
use Rattle.std.specs.Prelude.{is_some, count_by}
use Rattle.std.proofs.lemmas.Bool.{cases_lt}
use Rattle.pl_model.specs.Map.{set_at}
use Rattle.pl_desc.specs.Rows.{Tables, rows_at, at, is_pid, row_at, rows_of, free_pid, with_table, with_rows_of, count_at}
use Rattle.pl_desc.specs.Descs.{Descs, Room, live_count}
use Rattle.pl_desc.specs.Ends.{ends_at}
use Rattle.pl_desc.specs.Slots.{opened_in, loose_from, held_all, IsSound}
use Rattle.pl_desc.proofs.RowLemmas.{pid-found, rows-length}
use Rattle.pl_desc.proofs.SlotLemmas.{slot_of, all-opened}
use Rattle.pl_desc.proofs.Sound.{is_named, tidy}
use Rattle.pl_desc.proofs.Steps.{ok_part, err_part, holders-few, sound-copied, rows-copied, loose-copied, pids-started}
use Rattle.pl_desc.proofs.ViewLemmas.{len-same}
use Rattle.pl_desc.proofs.Known.{Known, Starts, known}
use Rattle.pl_desc.proofs.descs.Descs.copy_table.Given.{Over}
use Rattle.pl_desc.proofs.descs.Descs.copy_table.Goals.{After-table-2-1, After-add}
use Rattle.pl_desc.proofs.descs.Descs.copy_table.Goals as goal

-- the table is copied
copied : (g : Over) (c : After-table-2-1 g) → c.in-Ok.table.names ≡ rows_of c.self.inside.tables.tables c.args.pid
copied g c = c.in-Ok.ensures ∙ ap (λ d. rows_of d.tables c.args.pid) (sym c.self.view_is)

-- a process starts under the least free pid, with the copied table
module _ (g : Over) (c : After-add g) where
  abbrev m : Known
  m = known c.self.inside c.self.invariant

  table_is : c.in-Ok.table.names ≡ rows_of m.tables c.args.pid
  table_is = c.in-Ok.ensures ∙ ap (λ d. rows_of d.tables c.args.pid) (sym c.self.view_is)

  abbrev places : Tables
  places = c.reserve.new.self.tables

  free : free_pid m.tables m.limits.processes ≡ Some c.in-Some.other
  free = sym c.in-Some.ensures.value

  high : c.in-Some.other ≤ length places
  high = ok_part c.reserve.result (sym c.is_err.ensures.value ∙ c.if-is_err.false) c.reserve.ensures.place

  few : length places ≤ m.limits.processes
  few =
      let said = c.reserve.ensures in
      ⊎_elim (λ l. omega (arith, l, said.pids, (pid-found m.tables m.limits.processes c.in-Some.other free).2)) (λ l. omega (arith, l, said.high l, m.sound.few)) (cases_lt (length m.tables) c.in-Some.other)

  wide : length c.in-Ok.table.names ≡ m.limits.descriptors
  wide = ap length table_is ∙ rows-length m.tables c.args.pid (ap (λ d. is_pid d.tables c.args.pid) c.self.view_is ∙ c.requires.process) m.sound.wide

  abbrev starts : Starts m
  starts = record { pid = c.in-Some.other; free = free; places = places; same = c.reserve.ensures.tables; names_same = c.reserve.ensures.names; few = few; high = high; table = c.in-Ok.table.names; wide = wide }

pub hold_all-requires-clause-here : goal.hold_all-requires-clause-here
hold_all-requires-clause-here g c = λ fd key h.
    let k = c.self.inside in
    slot_of k.descriptions.slots key (is_named k.tables.tables k.descriptions.slots (ends_at k.counts) c.self.invariant c.args.pid fd key (ap (λ t. at t fd) (sym (copied g c)) ∙ h))

pub hold_all-requires-clause-few : goal.hold_all-requires-clause-few
hold_all-requires-clause-few g c = λ key.
    let k = c.self.inside in
    holders-few k.tables.tables k.descriptions.slots (ends_at k.counts) c.self.invariant key (subst (λ d. count_at d.loose key < 2 ^ 100) (sym c.self.view_is) (c.requires.few key))

pub invariant_of-self-2 : goal.invariant_of-self-2
invariant_of-self-2 g c =
    subst (λ ts. IsSound c.self.inside.limits ts c.hold_all.new.descriptions.slots (ends_at c.self.inside.counts)) (sym c.add.ensures.tables)
    (subst (λ ss. IsSound c.self.inside.limits (with_table (places g c) c.in-Some.other (Some c.in-Ok.table.names)) ss (ends_at c.self.inside.counts)) (sym (ap (λ s. s.slots) c.hold_all.ensures))
    (sound-copied (m g c) (starts g c) c.args.pid (table_is g c)))

pub returns-clause-pids : goal.returns-clause-pids
returns-clause-pids g c = ap is_pid c.add.ensures.tables ∙ pids-started (m g c) (starts g c) ∙ ap (λ d. set_at nat_eq (is_pid d.tables) c.in-Some.other true) c.self.view_is

pub returns-clause-rows : goal.returns-clause-rows
returns-clause-rows g c = ap row_at c.add.ensures.tables ∙ rows-copied (m g c) (starts g c) c.args.pid (table_is g c) ∙ ap (λ d. with_rows_of (row_at d.tables) c.args.pid c.in-Some.other) c.self.view_is

pub returns-clause-rest : goal.returns-clause-rest
returns-clause-rest g c =
    let k = c.self.inside in
    let new = c.add.new.self.tables in
    let held = c.hold_all.new.descriptions in
    let room : Room = record { descriptions = held.capacity - count_by is_some held.slots; pipes = length k.counts.pipes.items; files = length k.counts.files.items; rows = c.add.new.self.rows } in
    let same = all-opened c.in-Ok.table.names k.descriptions.slots in
    let others : Descs → Descs = λ d. record d { tables = new; room = room } in
    let loose = ap (λ ts. loose_from 0 ts (held_all c.in-Ok.table.names k.descriptions.slots)) c.add.ensures.tables ∙ loose-copied (m g c) (starts g c) c.args.pid (table_is g c) in
    (λ i. record { tables = new; opened = opened_in (c.hold_all.ensures i).slots; loose = loose_from 0 new (c.hold_all.ensures i).slots; room = room; limits = k.limits })
    ∙ (λ i. record { tables = new; opened = same i; loose = loose i; room = room; limits = k.limits })
    ∙ ap others c.self.view_is

pub returns-clause-tidy : goal.returns-clause-tidy
returns-clause-tidy g c = tidy _ _ _ (invariant_of-self-2 g c) _

pub invariant_of-self : goal.invariant_of-self
invariant_of-self g c = subst (λ ts. IsSound c.self.inside.limits ts c.self.inside.descriptions.slots (ends_at c.self.inside.counts)) (sym (ap (λ t. t.tables) (err_part c.reserve.result (sym c.is_err.ensures.value ∙ c.if-is_err.true) c.reserve.ensures.unchanged))) c.self.invariant

pub reserve-requires-clause-few : goal.reserve-requires-clause-few
reserve-requires-clause-few g c =
    let found = pid-found c.self.inside.tables.tables c.self.inside.limits.processes c.in-Some.other (sym c.in-Some.ensures.value) in
    omega (arith, found.2, c.self.invariant.limited.processes)

pub add-requires-clause-free : goal.add-requires-clause-free
add-requires-clause-free g c =
    let found = pid-found c.self.inside.tables.tables c.self.inside.limits.processes c.in-Some.other (sym c.in-Some.ensures.value) in
    ap (λ f. is_some (f c.in-Some.other)) c.reserve.ensures.tables ∙ ap is_some found.0

pub returns-clause-room : goal.returns-clause-room
returns-clause-room g c =
    let descriptions = ap (λ d. d.room.descriptions) c.self.view_is in
    let pipes = ap (λ d. d.room.pipes) c.self.view_is in
    let files = ap (λ d. d.room.files) c.self.view_is in
    let slots = c.self.inside.descriptions.slots in
    let kept = ap (λ s. s.capacity - count_by is_some s.slots) c.hold_all.ensures in
    let len = len-same slots (held_all c.in-Ok.table.names slots) (ap live_count (all-opened c.in-Ok.table.names slots)) in
    record {
      descriptions = omega (arith, descriptions, kept, len);
      pipes = omega (arith, pipes);
      files = omega (arith, files);
      rows = λ q. omega (arith, ap (λ d. rows_at d.room.rows q) c.self.view_is, c.reserve.ensures.rows q, c.add.ensures.rows q);
    }

pub returns-then-is_err-clause-room : goal.returns-then-is_err-clause-room
returns-then-is_err-clause-room g c =
    let descriptions = ap (λ d. d.room.descriptions) c.self.view_is in
    let pipes = ap (λ d. d.room.pipes) c.self.view_is in
    let files = ap (λ d. d.room.files) c.self.view_is in
    record {
      descriptions = omega (arith, descriptions);
      pipes = omega (arith, pipes);
      files = omega (arith, files);
      rows = λ q. omega (arith, ap (λ d. rows_at d.room.rows q) c.self.view_is, c.reserve.ensures.rows q);
    }
