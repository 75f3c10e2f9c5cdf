use Rattle.std.proofs.Common.{◌≡◌, None, false, length, ap, sym, refl, ◌∙◌, subst}
use Rattle.std.proofs.lemmas.List.{length-set}
use Rattle.pl_model.specs.History.{state_of_history}
use Rattle.pl_model.specs.Numbered.{State}
use Rattle.pl_locked.specs.declared.waiting.Waiting.TheVariants.{Awake}
use Rattle.pl_locked.specs.Views.{Held}
use Rattle.pl_locked.specs.Waking.{Noted, Notes, SleepAlike, can_end}
use Rattle.pl_locked.proofs.Sleeping.{sets_other}
use Rattle.pl_locked.proofs.Serving.{is_awake, noted_already, settled}
use Rattle.pl_locked.proofs.desk.Desk.look.Goals as goal

pub returns-then-is_awake_for-clause-looks : goal.returns-then-is_awake_for-clause-looks
returns-then-is_awake_for-clause-looks g c =
    let callers = g.N.Layer.callers in
    let can = λ (z : Held g.row.A.Denot). can_end g.N.Layer.limits g.N.Layer.max_steps z.journal in
    let queue = c.self.inside.queue in
    let note = sym c.note_of.ensures ∙ is_awake c.args.call c.note_of.result (sym c.is_awake_for.ensures ∙ c.if-is_awake_for.true) in
    subst (λ (z : Held g.row.A.Denot). (can z c.args.call ≡ false) × Noted callers (can z) c.args.caller (Awake c.args.call) z.waiting z.waiting None) c.self.view_is
    (sym c.can_end.ensures ∙ c.if-can_end.false, noted_already _ callers c.args.caller (Awake c.args.call) queue.waiting note c.self.invariant.2)

pub invariant_of-self : goal.invariant_of-self
invariant_of-self g c =
    let limits = g.N.Layer.limits in
    let journal = c.self.inside.books.journal in
    let queue = c.self.inside.queue in
    let s : State g.row.A.Denot = state_of_history limits journal in
    let many = ap (λ (z : Notes). length z.waiting) c.note.ensures ∙ (length-set queue.waiting c.args.caller (Awake c.args.call) ∙ c.self.invariant.0) in
    settled s (can_end limits g.N.Layer.max_steps journal) g.N.Layer.callers c.note.new.self.waiting c.note.new.self.alike c.wake.result c.wake.new.self c.wake.ensures.whom c.wake.ensures.woken many
    (λ is. subst (λ (z : Notes). SleepAlike s z.waiting) (sym c.note.ensures) (sets_other s queue.waiting c.args.caller (Awake c.args.call) refl (c.self.invariant.1 (sym (ap (λ (z : Notes). z.alike) c.note.ensures) ∙ is))))
