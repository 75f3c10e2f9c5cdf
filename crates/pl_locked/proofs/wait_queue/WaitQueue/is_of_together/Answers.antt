use Rattle.std.proofs.Common.{sym, ◌∙◌, ap, refl}
use Rattle.std.specs.List.{list_any}
use Rattle.pl_model.specs.History.{state_of_history}
use Rattle.pl_model.specs.declared.calls.Step.TheVariants.{Start, Resume, Interrupt}
use Rattle.pl_locked.specs.Waking.{is_of_together}
use Rattle.pl_locked.proofs.Sleeping.{of_number, of_none, of_no_exit}
use Rattle.pl_locked.proofs.wait_queue.WaitQueue.is_of_together.Goals as goal

pub returns-in-Resume : goal.returns-in-Resume
returns-in-Resume g c = λ none.
    let s = state_of_history g.N.Layer.limits c.args.books.now.journal in
    let ws = c.args.self.now.waiting in
    ap (λ x. list_any (is_of_together s x) ws) c.in-Resume.is ∙ of_number s (Resume c.in-Resume.call) c.in-Resume.call (λ number w. refl) ws (sym c.sleep_together_for.ensures ∙ none)

pub returns-in-Interrupt : goal.returns-in-Interrupt
returns-in-Interrupt g c = λ none.
    let s = state_of_history g.N.Layer.limits c.args.books.now.journal in
    let ws = c.args.self.now.waiting in
    ap (λ x. list_any (is_of_together s x) ws) c.in-Interrupt.is ∙ of_number s (Interrupt c.in-Interrupt.call) c.in-Interrupt.call (λ number w. refl) ws (sym c.sleep_together_for-in-Interrupt.ensures ∙ none)

pub returns-in-Start : goal.returns-in-Start
returns-in-Start g c = λ _.
    let s = state_of_history g.N.Layer.limits c.args.books.now.journal in
    let ws = c.args.self.now.waiting in
    ap (λ x. list_any (is_of_together s x) ws) c.in-Start.is ∙ of_none s Start (λ number w. refl) ws

pub returns-else-is_exit : goal.returns-else-is_exit
returns-else-is_exit g c = λ no.
    let s = state_of_history g.N.Layer.limits c.args.books.now.journal in
    let ws = c.args.self.now.waiting in
    ap (λ x. list_any (is_of_together s x) ws) c.in-Begin.is ∙ of_no_exit s c.in-Begin.pid c.in-Begin.call (sym c.is_exit.ensures ∙ no) ws
