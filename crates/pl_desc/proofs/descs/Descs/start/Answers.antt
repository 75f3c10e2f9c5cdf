use Rattle.std.proofs.Common.{◌≡◌, ◌≤◌, ℕ, Option, length, ap, ◌∙◌, sym, subst, Some, None, true, nat_eq, arith, ⊎_elim}
use Rattle.std.specs.Prelude.{is_some}
use Rattle.std.proofs.lemmas.List.{length-replicate}
use Rattle.std.proofs.lemmas.Bool.{cases_lt}
use Rattle.pl_model.specs.Map.{set_at}
use Rattle.pl_desc.specs.Rows.{Tables, rows_at, is_pid, row_at, free_pid}
use Rattle.pl_desc.specs.Descs.{Descs, Room}
use Rattle.pl_desc.specs.Slots.{opened_in, loose_from, IsSound}
use Rattle.pl_desc.specs.Ends.{ends_at}
use Rattle.pl_desc.specs.DescsView.{view_of}
use Rattle.pl_desc.proofs.RowLemmas.{pid-found}
use Rattle.pl_desc.proofs.Sound.{tidy}
use Rattle.pl_desc.proofs.Steps.{ok_part, err_part, sound-empty, rows-empty, loose-empty, pids-started}
use Rattle.pl_desc.proofs.Known.{Known, Starts, known}
use Rattle.pl_desc.proofs.descs.Descs.start.Given.{Over}
use Rattle.pl_desc.proofs.descs.Descs.start.Goals.{After-add}
use Rattle.pl_desc.proofs.descs.Descs.start.Goals as goal

-- a process starts under the least free pid, with a table of which no place is taken
module _ (g : Over) (c : After-add g) where
  abbrev m : Known
  m = known c.self.inside c.self.invariant

  abbrev places : Tables
  places = c.reserve.new.self.tables

  free : free_pid m.tables m.limits.processes ≡ Some c.in-Some.pid
  free = sym c.in-Some.ensures.value

  high : c.in-Some.pid ≤ length places
  high = ok_part c.reserve.result (sym c.is_err.ensures.value ∙ c.if-is_err.false) c.reserve.ensures.place

  few : length places ≤ m.limits.processes
  few =
      let said = c.reserve.ensures in
      ⊎_elim (λ l. omega (arith, l, said.pids, (pid-found m.tables m.limits.processes c.in-Some.pid free).2)) (λ l. omega (arith, l, said.high l, m.sound.few)) (cases_lt (length m.tables) c.in-Some.pid)

  wide : length c.new-table.result.names ≡ m.limits.descriptors
  wide = ap length (ap (λ t. t.names) c.new-table.ensures) ∙ length-replicate {A = Option ℕ} m.limits.descriptors None

  abbrev starts : Starts m
  starts = record { pid = c.in-Some.pid; free = free; places = places; same = c.reserve.ensures.tables; names_same = c.reserve.ensures.names; few = few; high = high; table = c.new-table.result.names; wide = wide }

pub invariant_of-self-2 : goal.invariant_of-self-2
invariant_of-self-2 g c = subst (λ ts. IsSound c.self.inside.limits ts c.self.inside.descriptions.slots (ends_at c.self.inside.counts)) (sym c.add.ensures.tables) (sound-empty (m g c) (starts g c) (ap (λ t. t.names) c.new-table.ensures))

pub returns-clause-pids : goal.returns-clause-pids
returns-clause-pids g c = ap is_pid c.add.ensures.tables ∙ pids-started (m g c) (starts g c) ∙ ap (λ d. set_at nat_eq (is_pid d.tables) c.in-Some.pid true) c.self.view_is

pub returns-clause-rows : goal.returns-clause-rows
returns-clause-rows g c = ap row_at c.add.ensures.tables ∙ rows-empty (m g c) (starts g c) (ap (λ t. t.names) c.new-table.ensures) ∙ ap (λ d. row_at d.tables) c.self.view_is

pub returns-clause-rest : goal.returns-clause-rest
returns-clause-rest g c =
    let k = c.self.inside in
    let new = c.add.new.self.tables in
    let room : Room = record (view_of k).room { rows = c.add.new.self.rows } in
    let others : Descs → Descs = λ d. record d { tables = new; room = room } in
    let loose = ap (λ ts. loose_from 0 ts k.descriptions.slots) c.add.ensures.tables ∙ loose-empty (m g c) (starts g c) (ap (λ t. t.names) c.new-table.ensures) in
    (λ i. record { tables = new; opened = opened_in k.descriptions.slots; loose = loose i; room = room; limits = k.limits })
    ∙ ap others c.self.view_is

pub returns-clause-tidy : goal.returns-clause-tidy
returns-clause-tidy g c = tidy _ _ _ (invariant_of-self-2 g c) _

pub invariant_of-self : goal.invariant_of-self
invariant_of-self g c = subst (λ ts. IsSound c.self.inside.limits ts c.self.inside.descriptions.slots (ends_at c.self.inside.counts)) (sym (ap (λ t. t.tables) (err_part c.reserve.result (sym c.is_err.ensures.value ∙ c.if-is_err.true) c.reserve.ensures.unchanged))) c.self.invariant

pub reserve-requires-clause-few : goal.reserve-requires-clause-few
reserve-requires-clause-few g c =
    let found = pid-found c.self.inside.tables.tables c.self.inside.limits.processes c.in-Some.pid (sym c.in-Some.ensures.value) in
    omega (arith, found.2, c.self.invariant.limited.processes)

pub add-requires-clause-free : goal.add-requires-clause-free
add-requires-clause-free g c =
    let found = pid-found c.self.inside.tables.tables c.self.inside.limits.processes c.in-Some.pid (sym c.in-Some.ensures.value) in
    ap (λ f. is_some (f c.in-Some.pid)) c.reserve.ensures.tables ∙ ap is_some found.0

pub returns-clause-room : goal.returns-clause-room
returns-clause-room g c =
    let descriptions = ap (λ d. d.room.descriptions) c.self.view_is in
    let pipes = ap (λ d. d.room.pipes) c.self.view_is in
    let files = ap (λ d. d.room.files) c.self.view_is in
    record {
      descriptions = omega (arith, descriptions);
      pipes = omega (arith, pipes);
      files = omega (arith, files);
      rows = λ q. omega (arith, ap (λ d. rows_at d.room.rows q) c.self.view_is, c.reserve.ensures.rows q, c.add.ensures.rows q);
    }
