use Rattle.std.proofs.Common.{◌≡◌, ℕ, List, Option, ap, ◌∙◌, true, false, None, nat_eq, sym, subst}
use Rattle.pl_model.specs.Map.{set_at}
use Rattle.std.specs.Prelude.{is_some}
use Rattle.pl_desc.specs.Rows.{at, Tables, is_pid, row_at, rows_in, table_of, with_table}
use Rattle.pl_desc.specs.Descs.{Descs, Room}
use Rattle.pl_desc.specs.Slots.{opened_in, loose_from, IsSound}
use Rattle.pl_desc.specs.DescsView.{view_of}
use Rattle.pl_desc.proofs.Sound.{tidy}
use Rattle.pl_desc.proofs.Steps.{sound-left, loose-left, sound-ended, loose-ended, pids-ended, rows-ended}
use Rattle.pl_desc.proofs.Known.{Known, known}
use Rattle.pl_desc.proofs.descs.Descs.end.Given.{Over}
use Rattle.pl_desc.proofs.descs.Descs.end.Goals.{After-trim}
use Rattle.pl_desc.proofs.descs.Descs.end.Goals as goal

-- the process ends, and names nothing
module _ (g : Over) (c : After-trim g) where
  abbrev m : Known
  m = known c.self.inside c.self.invariant

  process : is_pid m.tables c.args.pid ≡ true
  process = ap (λ d. is_pid d.tables c.args.pid) c.self.view_is ∙ c.requires.process

  closed : (fd : ℕ) → row_at m.tables c.args.pid fd ≡ None
  closed fd = ap (λ d. row_at d.tables c.args.pid fd) c.self.view_is ∙ c.requires.closed fd

  -- with its place
  abbrev ended : Known
  ended = record m { tables = c.remove.new.self.tables; sound = subst (λ ts. IsSound m.limits ts m.slots m.ends) (sym c.remove.ensures) (sound-ended m c.args.pid process closed) }

  abbrev left : Tables
  left = c.trim.new.self.tables

  tables : table_of left ≡ table_of (with_table m.tables c.args.pid None)
  tables = c.trim.ensures.tables ∙ ap table_of c.remove.ensures

pub invariant_of-self : goal.invariant_of-self
invariant_of-self g c = sound-left (ended g c) (left g c) c.trim.ensures.fewer c.trim.ensures.tables c.trim.ensures.names

pub returns-clause-pids : goal.returns-clause-pids
returns-clause-pids g c = ap (λ (f : ℕ → Option (List (Option ℕ))). λ q. is_some (f q)) (tables g c) ∙ pids-ended (m g c) c.args.pid (process g c) (closed g c) ∙ ap (λ d. set_at nat_eq (is_pid d.tables) c.args.pid false) c.self.view_is

pub returns-clause-rows : goal.returns-clause-rows
returns-clause-rows g c = ap (λ (f : ℕ → Option (List (Option ℕ))). λ q k. at (rows_in (f q)) k) (tables g c) ∙ rows-ended (m g c) c.args.pid (process g c) (closed g c) ∙ ap (λ d. row_at d.tables) c.self.view_is

pub returns-clause-rest : goal.returns-clause-rest
returns-clause-rest g c =
    let k = c.self.inside in
    let new = left g c in
    let room : Room = record (view_of k).room { rows = c.trim.new.self.rows } in
    let others : Descs → Descs = λ d. record d { tables = new; room = room } in
    let loose = loose-left (ended g c) new c.trim.ensures.fewer c.trim.ensures.tables c.trim.ensures.names ∙ ap (λ ts. loose_from 0 ts k.descriptions.slots) c.remove.ensures ∙ loose-ended (m g c) c.args.pid (process g c) (closed g c) in
    (λ i. record { tables = new; opened = opened_in k.descriptions.slots; loose = loose i; room = room; limits = k.limits })
    ∙ ap others c.self.view_is

pub returns-clause-tidy : goal.returns-clause-tidy
returns-clause-tidy g c = tidy _ _ _ (invariant_of-self g c) _
