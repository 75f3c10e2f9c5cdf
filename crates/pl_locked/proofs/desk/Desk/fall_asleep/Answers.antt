use Rattle.std.proofs.Common.{◌≡◌, List, None, true, false, length, ap, sym, refl, ◌∙◌, subst, inl, inr, ⊎_elim}
use Rattle.std.specs.Prelude.{slice_set}
use Rattle.std.proofs.lemmas.List.{length-set}
use Rattle.pl_model.specs.History.{state_of_history}
use Rattle.pl_model.specs.Numbered.{State}
use Rattle.pl_locked.specs.declared.waiting.Waiting.{Waiting}
use Rattle.pl_locked.specs.declared.waiting.Waiting.TheVariants.{Asleep, Together}
use Rattle.pl_locked.specs.Views.{Held}
use Rattle.pl_locked.specs.Waking.{Noted, Notes, SleepAlike, can_end}
use Rattle.pl_locked.proofs.Sleeping.{sets_other, sets_together}
use Rattle.pl_locked.proofs.Serving.{is_asleep, noted_already, noted_now, settled}
use Rattle.pl_locked.proofs.desk.Desk.fall_asleep.Given.{Over}
use Rattle.pl_locked.proofs.desk.Desk.fall_asleep.Goals.{After-note, then-joins, else-joins}
use Rattle.pl_locked.proofs.desk.Desk.fall_asleep.Goals as goal

pub returns-then-sleeps_for-clause-looks : goal.returns-then-sleeps_for-clause-looks
returns-then-sleeps_for-clause-looks g c =
    let callers = g.N.Layer.callers in
    let can = λ (z : Held g.row.A.Denot). can_end g.N.Layer.limits g.N.Layer.max_steps z.journal in
    let stays = λ (note : Waiting) (is : c.note_of.result ≡ note).
    subst (λ (z : Held g.row.A.Denot). (can z c.args.call ≡ false) × Noted callers (can z) c.args.caller note z.waiting z.waiting None) c.self.view_is
    (sym c.can_end.ensures ∙ c.if-can_end.false, noted_already _ callers c.args.caller note c.self.inside.queue.waiting (sym c.note_of.ensures ∙ is) c.self.invariant.2)
    in
    ⊎_elim (λ is. inl (stays (Asleep c.args.call) is)) (λ is. inr (stays (Together c.args.call) is))
    (is_asleep c.args.call c.note_of.result (sym c.sleeps_for.ensures ∙ c.if-sleeps_for.true))

module _ (g : Over) (c : After-note g) where
  abbrev s : State g.row.A.Denot
  s = state_of_history g.N.Layer.limits c.self.inside.books.journal

  abbrev ws : List Waiting
  ws = c.self.inside.queue.waiting

  -- what was noted of the caller
  noted : (note : Waiting) → c.if-joins.asleep ≡ note → c.note.new.self.waiting ≡ slice_set ws c.args.caller note
  noted note is = ap (λ (z : Notes). z.waiting) c.note.ensures ∙ (λ i. slice_set (c.joins.ensures.same i) c.args.caller (is i))

  many : length c.note.new.self.waiting ≡ g.N.Layer.callers
  many = ap length (noted c.if-joins.asleep refl) ∙ (length-set ws c.args.caller c.if-joins.asleep ∙ c.self.invariant.0)

  alike : c.note.new.self.alike ≡ true → SleepAlike s c.note.new.self.waiting
  alike is = elim c.if-joins.branch [
    | then-joins w ↦ subst (SleepAlike s) (sym (noted (Together c.args.call) w.asleep-is)) (sets_together s ws c.args.caller c.args.call (c.joins.ensures.joins w.if-joins.true))
    | else-joins w ↦ subst (SleepAlike s) (sym (noted (Asleep c.args.call) w.asleep-is)) (sets_other s ws c.args.caller (Asleep c.args.call) refl (c.joins.ensures.alike (sym (ap (λ (z : Notes). z.alike) c.note.ensures) ∙ is)))
  ]

pub wake-requires : goal.wake-requires
wake-requires g c = record { alike = alike g (goal.at.wake-requires g c).After-note }

pub invariant_of-self : goal.invariant_of-self
invariant_of-self g c =
    let w = (goal.at.invariant_of-self g c).After-note in
    let limits = g.N.Layer.limits in
    settled (s g w) (can_end limits g.N.Layer.max_steps c.self.inside.books.journal) g.N.Layer.callers c.note.new.self.waiting c.note.new.self.alike c.wake.result c.wake.new.self
    c.wake.ensures.whom c.wake.ensures.woken (many g w) (alike g w)

pub returns-clause-looks : goal.returns-clause-looks
returns-clause-looks g c =
    let w = (goal.at.returns-clause-looks g c).After-note in
    let callers = g.N.Layer.callers in
    let can = λ (z : Held g.row.A.Denot). can_end g.N.Layer.limits g.N.Layer.max_steps z.journal in
    let sleeps = λ (note : Waiting) (is : c.if-joins.asleep ≡ note).
    subst (λ (z : Held g.row.A.Denot). (can z c.args.call ≡ false) × Noted callers (can z) c.args.caller note z.waiting c.wake.new.self.waiting c.wake.result) c.self.view_is
    (sym c.can_end.ensures ∙ c.if-can_end.false, noted_now _ callers c.args.caller note (ws g w) c.note.new.self.waiting c.note.new.self.alike c.wake.result c.wake.new.self (noted g w note is) (many g w) c.wake.ensures.whom c.wake.ensures.woken c.wake.ensures.within)
    in
    elim c.if-joins.branch [ then-joins j ↦ inr (sleeps (Together c.args.call) j.asleep-is) | else-joins j ↦ inl (sleeps (Asleep c.args.call) j.asleep-is) ]
