use Rattle.std.proofs.Common.{◌≡◌, ◌+◌, ◌<◌, ◌≤◌, ◌^◌, [], ◌∷◌, ◌++◌, List, length, ap, sym, ◌∙◌, subst, arith, length-append}
use Rattle.pl_state.specs.Makes.{Stands}
use Rattle.pl_model.specs.declared.history.Entry.{Entry}
use Rattle.pl_model.specs.History.{entry, of, IsLegal, state_of_history}
use Rattle.pl_model.proofs.Journals.{legal-push, state-push}
use Rattle.pl_history.specs.Sights.{Sight}
use Rattle.pl_locked.specs.Views.{IsRest, Kept}
use Rattle.pl_locked.proofs.Machine.{keeps_number}
use Rattle.pl_locked.proofs.Rests.{rest_push}
use Rattle.pl_locked.proofs.recorded.Recorded.step.Given.{Over}
use Rattle.pl_locked.proofs.recorded.Recorded.step.Goals.{After-push_reserved}
use Rattle.pl_locked.proofs.recorded.Recorded.step.Goals as goal

-- the entry that is kept
module _ (g : Over) (c : After-push_reserved g) where
  abbrev before : List (Entry g.row.A.Denot)
  before = c.self.inside.recorder.seen

  abbrev now : Entry g.row.A.Denot
  now = entry c.args.caller c.args.number c.args.step c.in_ok-entry.reply

  same : c.in_ok-entry.entry ≡ now
  same = c.in_ok-entry.ensures.entry

  abbrev rest : List (Entry g.row.A.Denot)
  rest = c.self.inside.rest.items

  pushed : c.push_reserved.new.self.items ≡ rest ++ now ∷ []
  pushed = c.push_reserved.ensures.items ∙ (λ i. c.in_ok-reserve.ensures.items i ++ same i ∷ [])

  added : c.add.new.recorder.seen ≡ before ++ now ∷ []
  added = c.add.ensures.seen ∙ (λ i. before ++ same i ∷ [])

  -- the recorder sees what was added
  seen : c.follow.new.recorder.seen ≡ before ++ now ∷ []
  seen = ap (λ (s : Sight g.row.A.Denot). s.seen) c.follow.ensures.same ∙ added

  -- so one entry more is the rest
  behind : IsRest c.self.inside.first c.follow.new.recorder.seen c.push_reserved.new.self.items
  behind =
      subst (λ (j : List (Entry g.row.A.Denot)). IsRest c.self.inside.first j c.push_reserved.new.self.items) (sym seen)
      (subst (λ (r : List (Entry g.row.A.Denot)). IsRest c.self.inside.first (before ++ now ∷ []) r) (sym pushed) (rest_push c.self.inside.first before rest now c.self.invariant.3))

pub invariant_of-self-2 : goal.invariant_of-self-2
invariant_of-self-2 g c =
    let k = (goal.at.invariant_of-self-2 g c).After-push_reserved in
    let limits = g.N.Layer.limits in
    let h = before g k in
    let made = c.in_ok-entry.ensures.made (state_of_history limits h) c.self.invariant.1 in
    let number : c.args.number ≡ length (of c.args.caller h) = subst (λ (z : Kept g.row.A.Denot). c.args.number ≡ length (of c.args.caller z.journal)) (sym c.self.view_is) c.requires.number in
    let longer : length (h ++ now g k ∷ []) ≡ length h + 1 = length-append h (now g k ∷ []) in
    let few : length h < 2 ^ 62 = subst (λ (z : Kept g.row.A.Denot). length z.journal < 2 ^ 62) (sym c.self.view_is) c.requires.few in (
      subst (IsLegal limits) (sym (seen g k)) (legal-push limits h (now g k) c.self.invariant.0 made.0 number),
      subst (λ (j : List (Entry g.row.A.Denot)). Stands c.make.new.kernel (state_of_history limits j)) (sym (seen g k)) (subst (Stands c.make.new.kernel) (sym (state-push limits h (now g k))) made.1),
      ap (λ (s : Sight g.row.A.Denot). s.recorder) c.follow.ensures.same ∙ c.add.ensures.recorder,
      behind g k,
      subst (λ (j : List (Entry g.row.A.Denot)). length j ≤ 2 ^ 62) (sym (seen g k)) (omega (arith, longer, few)),
    )

pub returns-clause-seen : goal.returns-clause-seen
returns-clause-seen g c =
    let k = (goal.at.returns-clause-seen g c).After-push_reserved in
    c.follow.ensures.seen ∙ added g k ∙ sym (seen g k)

pub returns-clause-number : goal.returns-clause-number
returns-clause-number g c =
    keeps_number (state_of_history g.N.Layer.limits c.self.inside.recorder.seen) c.args.step c.in_ok-entry.reply (c.in_ok-entry.ensures.made _ c.self.invariant.1).0

pub returns-clause-legal : goal.returns-clause-legal
returns-clause-legal g c = (invariant_of-self-2 g c).0
