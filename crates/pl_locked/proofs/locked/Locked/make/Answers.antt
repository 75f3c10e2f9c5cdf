use Rattle.std.proofs.Common.{◌≡◌, Err, length, ap, sym, ◌∙◌}
use Rattle.pl_locked.specs.declared.fault.StepFault.TheVariants.{JournalFull, NoMemory}
use Rattle.pl_locked.specs.Views.{Held}
use Rattle.pl_locked.proofs.locked.Locked.make.Goals as goal

pub returns-in-Err-clause-full : goal.returns-in-Err-clause-full
returns-in-Err-clause-full g c is = let full : c.in-Err.fault ≡ JournalFull = cc is in c.step-made.ensures.seen (c.in-Err.is ∙ ap Err full)

pub returns-in-Err-clause-wanted : goal.returns-in-Err-clause-wanted
returns-in-Err-clause-wanted g c is = let want : c.in-Err.fault ≡ NoMemory = cc is in c.step-made.ensures.wanted (c.in-Err.is ∙ ap Err want)

pub returns-in-Ok-clause-behind : goal.returns-in-Ok-clause-behind
returns-in-Ok-clause-behind g c =
    let shown = rw c.in-Ok.is at c.step-made.ensures.shown in
    let journal = rw c.in-Ok.is at c.step-made.ensures.journal in
    (_, rw c.deref_mut.ensures.value at (shown ∙ journal))

pub returns-in-Ok-clause-steps : goal.returns-in-Ok-clause-steps
returns-in-Ok-clause-steps g c =
    let shown = rw c.in-Ok.is at c.step-made.ensures.shown in
    c.len-steps.ensures ∙ ap (λ (z : Held g.row.A.Denot). length z.journal) c.deref.ensures ∙ ap length (sym shown)

pub returns-in-Ok-clause-number : goal.returns-in-Ok-clause-number
returns-in-Ok-clause-number g c = rw c.in-Ok.is at c.step-made.ensures.number
