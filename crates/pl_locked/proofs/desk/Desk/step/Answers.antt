use Rattle.std.proofs.Common.{◌≡◌, true, false, List, length, ap, sym, refl, ◌∙◌, subst}
use Rattle.std.proofs.lemmas.List.{length-set}
use Rattle.pl_model.specs.History.{of, state_of_history}
use Rattle.pl_model.specs.Numbered.{State}
use Rattle.pl_locked.specs.declared.waiting.Waiting.{Waiting}
use Rattle.pl_locked.specs.declared.waiting.Waiting.TheVariants.{Nothing}
use Rattle.pl_locked.specs.Views.{Kept}
use Rattle.pl_locked.specs.Waking.{Notes, SleepAlike, can_end}
use Rattle.pl_locked.proofs.Sleeping.{sets_other, sleep_through}
use Rattle.pl_locked.proofs.Serving.{settled}
use Rattle.pl_locked.proofs.desk.Desk.step.Given.{Over}
use Rattle.pl_locked.proofs.desk.Desk.step.Goals.{After-leave, then-ends, else-ends}
use Rattle.pl_locked.proofs.desk.Desk.step.Goals as goal

module _ (g : Over) (c : After-leave g) where
  abbrev A : Type 0
  A = g.row.A.Denot

  -- the journal, and who waits, after the step
  abbrev books : Kept A
  books = c.if-ends.self-inside.books

  abbrev queue : Notes
  queue = c.if-ends.self-inside.queue

  -- no note was changed yet
  waiting : queue.waiting ≡ c.self.inside.queue.waiting
  waiting = elim c.if-ends.branch [
    | then-ends w ↦ ap (λ d. d.queue.waiting) w.self-inside-is ∙ ap (λ (z : Notes). z.waiting) w.part.ensures
    | else-ends w ↦ ap (λ d. d.queue.waiting) w.self-inside-is
  ]

  many : length c.leave.new.self.waiting ≡ g.N.Layer.callers
  many = ap (λ (z : Notes). length z.waiting) c.leave.ensures ∙ (length-set queue.waiting c.number.result Nothing ∙ (ap length waiting ∙ c.self.invariant.0))

  -- those that sleep together sleep on
  alike : c.leave.new.self.alike ≡ true → SleepAlike (state_of_history g.N.Layer.limits books.journal) c.leave.new.self.waiting
  alike is = elim c.if-ends.branch [
    | then-ends w ↦
        let kept : c.leave.new.self.alike ≡ queue.alike = ap (λ (z : Notes). z.alike) c.leave.ensures in
        let none : queue.alike ≡ false = ap (λ d. d.queue.alike) w.self-inside-is ∙ ap (λ (z : Notes). z.alike) w.part.ensures in
        absurd (cc)
    | else-ends w ↦
        let s : State A = state_of_history g.N.Layer.limits books.journal in
        let step : books ≡ c.step-made.new.self = ap (λ d. d.books) w.self-inside-is in
        let was : c.self.inside.queue.alike ≡ true = sym (ap (λ (z : Notes). z.alike) c.leave.ensures ∙ ap (λ d. d.queue.alike) w.self-inside-is) ∙ is in
        let none = c.is_of_together-ends.ensures w.if-ends.false in
        let on : SleepAlike (state_of_history g.N.Layer.limits c.step-made.new.self.journal) c.self.inside.queue.waiting =
        sleep_through g.N.Layer.limits c.args.me.now.number (length (of c.args.me.now.number c.self.inside.books.journal)) c.args.step c.self.inside.queue.waiting
        c.self.inside.books c.step-made.new.self c.step-made.result _ c.step-made.ensures.journal c.step-made.ensures.unmade none (c.self.invariant.1 was) in
        let here : SleepAlike s queue.waiting =
        subst (λ (ws : List Waiting). SleepAlike s ws) (sym waiting) (subst (λ (z : Kept A). SleepAlike (state_of_history g.N.Layer.limits z.journal) c.self.inside.queue.waiting) (sym step) on) in
        subst (λ (z : Notes). SleepAlike s z.waiting) (sym c.leave.ensures) (sets_other s queue.waiting c.number.result Nothing refl here)
  ]

pub wake-whom-requires : goal.wake-whom-requires
wake-whom-requires g c = record { alike = alike g (goal.at.wake-whom-requires g c).After-leave }

pub invariant_of-self : goal.invariant_of-self
invariant_of-self g c =
    let w = (goal.at.invariant_of-self g c).After-leave in
    let limits = g.N.Layer.limits in
    let journal = c.if-ends.self-inside.books.journal in
    settled (state_of_history limits journal) (can_end limits g.N.Layer.max_steps journal) g.N.Layer.callers c.leave.new.self.waiting c.leave.new.self.alike c.wake-whom.result
    c.wake-whom.new.self c.wake-whom.ensures.whom c.wake-whom.ensures.woken (many g w) (alike g w)
