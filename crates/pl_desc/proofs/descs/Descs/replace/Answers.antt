use Rattle.std.proofs.Common.{◌≡◌, ◌<◌, true, ap, ◌∙◌, sym, subst, Some, arith}
use Rattle.std.proofs.Math.Path.{fun_ext}
use Rattle.pl_desc.specs.Descs.{holders}
use Rattle.pl_desc.proofs.Sound.{holders-are, tidy}
use Rattle.pl_desc.specs.Rows.{is_pid, row_at, with_row, count_at, change_count, one_more, one_less}
use Rattle.pl_desc.specs.Slots.{loose_from, IsSound}
use Rattle.pl_desc.proofs.Steps.{loose-within, sound-replaced, loose-replaced, pids-put, rows-put}
use Rattle.pl_desc.proofs.Known.{Known, known}
use Rattle.pl_desc.proofs.descs.Descs.replace.Given.{Over}
use Rattle.pl_desc.proofs.descs.Descs.replace.Goals.{After-replace}
use Rattle.pl_desc.proofs.descs.Descs.replace.Goals as goal

-- an open descriptor comes to name another description, which has a loose hold
module _ (g : Over) (c : After-replace g) where
  abbrev m : Known
  m = known c.self.inside c.self.invariant

  process : is_pid m.tables c.args.pid ≡ true
  process = ap (λ d. is_pid d.tables c.args.pid) c.self.view_is ∙ c.requires.process

  was : row_at m.tables c.args.pid c.args.fd ≡ Some c.replace.result
  was = c.replace.ensures.named

  place : c.args.fd < m.limits.descriptors
  place = subst (λ d. c.args.fd < d.limits.descriptors) (sym c.self.view_is) c.requires.place

  installed : IsSound m.limits c.replace.new.self.tables m.slots m.ends
  installed =
      let held = subst (λ d. 0 < count_at d.loose c.args.key) (sym c.self.view_is) c.requires.held in
      subst (λ ts. IsSound m.limits ts m.slots m.ends) (sym (ap (λ t. t.tables) c.replace.ensures.tables)) (sound-replaced m c.args.pid c.args.fd process place c.args.key c.replace.result was held)

pub prove-unreachable-requires : goal.prove-unreachable-requires
prove-unreachable-requires g c =
    let within = loose-within (known c.self.inside c.self.invariant) c.args.key (subst (λ d. 0 < count_at d.loose c.args.key) (sym c.self.view_is) c.requires.held) in
    omega (arith, within, c.capacity-capacity.ensures.slots, c.if-prove.true)

pub invariant_of-self : goal.invariant_of-self
invariant_of-self g c = installed g c

pub returns-clause-rows : goal.returns-clause-rows
returns-clause-rows g c =
    ap (λ t. row_at t.tables) c.replace.ensures.tables ∙ rows-put (m g c) c.args.pid c.args.fd (process g c) (place g c) (Some c.args.key)
    ∙ ap (λ d. with_row (row_at d.tables) c.args.pid c.args.fd (Some c.args.key)) c.self.view_is

pub returns-clause-pids : goal.returns-clause-pids
returns-clause-pids g c = ap (λ t. is_pid t.tables) c.replace.ensures.tables ∙ pids-put (m g c) c.args.pid c.args.fd (process g c) (place g c) (Some c.args.key) ∙ ap (λ d. is_pid d.tables) c.self.view_is

pub returns-clause-loose : goal.returns-clause-loose
returns-clause-loose g c =
    let held = subst (λ d. 0 < count_at d.loose c.args.key) (sym c.self.view_is) c.requires.held in
    ap (λ t. count_at (loose_from 0 t.tables c.self.inside.descriptions.slots)) c.replace.ensures.tables
    ∙ loose-replaced (m g c) c.args.pid c.args.fd (process g c) (place g c) c.args.key c.replace.result (was g c) held
    ∙ ap (λ d. change_count c.replace.result one_more (change_count c.args.key one_less (count_at d.loose))) c.self.view_is

pub returns-clause-holders : goal.returns-clause-holders
returns-clause-holders g c =
    let m = m g c in
    fun_ext (λ q. holders-are _ m.slots m.ends (installed g c) q ∙ sym (holders-are m.tables m.slots m.ends m.sound q)) ∙ ap (λ d. holders d) c.self.view_is

pub returns-clause-tidy : goal.returns-clause-tidy
returns-clause-tidy g c = tidy _ _ _ (invariant_of-self g c) _

pub returns-clause-key : goal.returns-clause-key
returns-clause-key g c = ap (λ d. row_at d.tables c.args.pid c.args.fd) (sym c.self.view_is) ∙ c.replace.ensures.named
