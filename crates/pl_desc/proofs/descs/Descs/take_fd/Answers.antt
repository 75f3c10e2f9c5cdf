use Rattle.std.proofs.Common.{◌≡◌, ◌<◌, ◌≤◌, ℕ, true, ap, ◌∙◌, sym, subst, Some, None}
use Rattle.std.proofs.Math.Path.{fun_ext}
use Rattle.std.specs.Prelude.{IfNone, is_some}
use Rattle.pl_desc.specs.Descs.{IsTidy, holders}
use Rattle.pl_desc.specs.Rows.{is_pid, rows_of, row_at, with_row, next_open, count_at, change_count, one_more}
use Rattle.pl_desc.specs.Slots.{loose_from, IsSound}
use Rattle.pl_desc.proofs.RowLemmas.{open-found, open-none, rows-length}
use Rattle.pl_desc.proofs.Sound.{holders-are, tidy}
use Rattle.pl_desc.proofs.Steps.{sound-closed, loose-closed, pids-put, rows-put}
use Rattle.pl_desc.proofs.Known.{Known, known}
use Rattle.pl_desc.proofs.descs.Descs.take_fd.Given.{Over}
use Rattle.pl_desc.proofs.descs.Descs.take_fd.Goals.{After-clear}
use Rattle.pl_desc.proofs.descs.Descs.take_fd.Goals as goal

-- the least open descriptor is closed
module _ (g : Over) (c : After-clear g) where
  abbrev m : Known
  m = known c.self.inside c.self.invariant

  process : is_pid m.tables c.args.pid ≡ true
  process = ap (λ d. is_pid d.tables c.args.pid) c.self.view_is ∙ c.requires

  found : (row_at m.tables c.args.pid c.in_ok-fd.fd ≡ Some c.in_ok-fd.key) × (c.in_ok-fd.fd < m.limits.descriptors)
  found =
      let f = open-found (rows_of m.tables c.args.pid) c.args.least c.in_ok-fd.fd c.in_ok-fd.key (ap (λ d. next_open (rows_of d.tables c.args.pid) c.args.least) c.self.view_is ∙ sym c.in_ok-fd.ensures) in
      (f.0, subst (λ n. c.in_ok-fd.fd < n) (rows-length m.tables c.args.pid process m.sound.wide) f.2)

  closed : IsSound m.limits c.clear.new.self.tables m.slots m.ends
  closed = subst (λ ts. IsSound m.limits ts m.slots m.ends) (sym (ap (λ t. t.tables) c.clear.ensures)) (sound-closed m c.args.pid c.in_ok-fd.fd process found.1 c.in_ok-fd.key found.0)

pub invariant_of-self : goal.invariant_of-self
invariant_of-self g c = closed g c

pub returns-clause-rows : goal.returns-clause-rows
returns-clause-rows g c =
    ap (λ t. row_at t.tables) c.clear.ensures ∙ rows-put (m g c) c.args.pid c.in_ok-fd.fd (process g c) (found g c).1 None
    ∙ ap (λ d. with_row (row_at d.tables) c.args.pid c.in_ok-fd.fd None) c.self.view_is

pub returns-clause-pids : goal.returns-clause-pids
returns-clause-pids g c = ap (λ t. is_pid t.tables) c.clear.ensures ∙ pids-put (m g c) c.args.pid c.in_ok-fd.fd (process g c) (found g c).1 None ∙ ap (λ d. is_pid d.tables) c.self.view_is

pub returns-clause-loose : goal.returns-clause-loose
returns-clause-loose g c =
    ap (λ t. count_at (loose_from 0 t.tables c.self.inside.descriptions.slots)) c.clear.ensures
    ∙ loose-closed (m g c) c.args.pid c.in_ok-fd.fd (process g c) (found g c).1 c.in_ok-fd.key (found g c).0
    ∙ ap (λ d. change_count c.in_ok-fd.key one_more (count_at d.loose)) c.self.view_is

pub returns-clause-holders : goal.returns-clause-holders
returns-clause-holders g c =
    let m = m g c in
    fun_ext (λ q. holders-are _ m.slots m.ends (closed g c) q ∙ sym (holders-are m.tables m.slots m.ends m.sound q)) ∙ ap (λ d. holders d) c.self.view_is

pub returns-clause-tidy : goal.returns-clause-tidy
returns-clause-tidy g c = tidy _ _ _ (invariant_of-self g c) _

pub returns-in_err-fd-clause-tidy : goal.returns-in_err-fd-clause-tidy
returns-in_err-fd-clause-tidy g c = subst IsTidy c.self.view_is (tidy _ _ _ c.self.invariant _)

pub returns-in_err-fd-clause-closed : goal.returns-in_err-fd-clause-closed
returns-in_err-fd-clause-closed g c =
    subst (λ o. IfNone o ((fd : ℕ) → c.args.least ≤ fd → row_at c.args.self.now.tables c.args.pid fd ≡ None)) (sym c.from_residual.ensures)
    (open-none (rows_of c.args.self.now.tables c.args.pid) c.args.least (sym c.in_err-fd.ensures))

pub clear-requires-clause-open : goal.clear-requires-clause-open
clear-requires-clause-open g c =
    let found = open-found (rows_of c.self.inside.tables.tables c.args.pid) c.args.least c.in_ok-fd.fd c.in_ok-fd.key (ap (λ d. next_open (rows_of d.tables c.args.pid) c.args.least) c.self.view_is ∙ sym c.in_ok-fd.ensures) in
    ap is_some found.0
