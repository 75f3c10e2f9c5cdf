use Rattle.std.proofs.Common.{refl, subst, sym, length, arith}
use Rattle.std.specs.Prelude.{Ok, Result, ⊤}
use Rattle.bindingclay.specs.Heap.{InBudget}
use Rattle.pl_model.specs.declared.calls.Step.TheVariants.{Resume}
use Rattle.pl_kernel.specs.declared.kernel.buffers.Resumed.{Resumed as KernelResumed}
use Rattle.bindingclay.specs.Made.{TriesAgain, Resumes, Wants, Gathers, IsFrugal, Moves}
use Rattle.bindingclay.proofs.ReadAgain.{no_entries, took_none}
use Rattle.bindingclay.proofs.Resuming.{resumes_of, wants_of, gathers_of, frugal_of}
use Rattle.bindingclay.proofs.Moving.{IsTold, moves_again, resumes_told, gathers_told, frugal_told}
use Rattle.bindingclay.proofs.layer.Layer.resume.Goals as goal

-- it is no read, and nothing changed

pub returns-in_default-clause-tries : goal.returns-in_default-clause-tries
returns-in_default-clause-tries c =
    let e = c.in_default.ensures in
    subst (λ k. TriesAgain k c.args.number c.args.into.now c.resume_any-in_default.result c.resume_any-in_default.new.into c.resume_any-in_default.new.self.kernel) e.unchanged.0
    (subst (λ before. TriesAgain c.resume_read.new.self c.args.number before c.resume_any-in_default.result c.resume_any-in_default.new.into c.resume_any-in_default.new.self.kernel) e.unchanged.1 c.resume_any-in_default.ensures.tries)

pub returns-in_default-clause-moved : goal.returns-in_default-clause-moved
returns-in_default-clause-moved c = subst (λ k. Moves k (Resume c.args.number) c.resume_any-in_default.result) c.in_default.ensures.unchanged.0 c.resume_any-in_default.ensures.moved

pub returns-in_default-clause-wants : goal.returns-in_default-clause-wants
returns-in_default-clause-wants c = λ plain. subst (λ k. Wants k (Resume c.args.number) c.resume_any-in_default.result) c.in_default.ensures.unchanged.0 (c.resume_any-in_default.ensures.wants plain)

pub returns-in_default-clause-frugal : goal.returns-in_default-clause-frugal
returns-in_default-clause-frugal c = λ plain. subst (λ k. IsFrugal k c.args.number c.resume_any-in_default.result) c.in_default.ensures.unchanged.0 (c.resume_any-in_default.ensures.frugal plain)

-- it is a read that isn't recorded

pub returns-clause-tries : goal.returns-clause-tries
returns-clause-tries c =
    let old = c.args.self.now.kernel in
    let n = c.args.number in
    let before = c.args.into.now in
    let after = c.resume_read.new.into in
    let new = c.resume_read.new.self in
    let e = c.in-Some.ensures in
    let z : Result (KernelResumed InBudget) ⊤ = Ok c.in-Some.resumed in
    let t = c.tell_moved.ensures in
    let b = c.answer_of_read_again.result in
    let none = no_entries old n e.reads.0 in
    record {
      polls = λ ready. absurd (omega (arith, none, ready));
      others = λ is. (
        subst (λ a. Resumes old n (length before) a new) (sym t.rest)
            (resumes_told old new n b c.tell_moved.result.moved (length before)
            (subst (λ a. Resumes old n (length before) a new) (sym c.answer_of_read_again.ensures)
            (resumes_of old new n before after z e.made e.within tt))),
        subst (λ a. Gathers old n before a after) (sym t.rest)
            (gathers_told old new n b c.tell_moved.result.moved t.others before after
            (subst (λ a. Gathers old n before a after) (sym c.answer_of_read_again.ensures)
            (gathers_of old new n before after z e.made (λ key m waits. (refl, e.reads.1)) (λ none. absurd (let r = e.reads.0 in none r.0 r.1 r.2)) e.within e.rest tt))),
      );
    }

pub returns-clause-moved : goal.returns-clause-moved
returns-clause-moved c =
    let old = c.args.self.now.kernel in
    let n = c.args.number in
    let new = c.resume_read.new.self in
    let e = c.in-Some.ensures in
    let z : Result (KernelResumed InBudget) ⊤ = Ok c.in-Some.resumed in
    let t = c.tell_moved.ensures in
    moves_again old new n 0 c.args.into.now c.resume_read.new.into c.tell_moved.result z e.made e.within (took_none old n e.untaken)
    (subst (λ b. IsTold 0 new b c.tell_moved.result) c.answer_of_read_again.ensures (record { rest = t.rest; value = t.value; others = t.others }))

pub returns-clause-wants : goal.returns-clause-wants
returns-clause-wants c =
    let z : Result (KernelResumed InBudget) ⊤ = Ok c.in-Some.resumed in
    λ plain. subst (λ a. Wants c.args.self.now.kernel (Resume c.args.number) a) (sym c.tell_moved.ensures.rest)
    (subst (λ a. Wants c.args.self.now.kernel (Resume c.args.number) a) (sym c.answer_of_read_again.ensures)
    (wants_of c.args.self.now.kernel c.resume_read.new.self c.args.number c.args.into.now c.resume_read.new.into z tt))

pub returns-clause-frugal : goal.returns-clause-frugal
returns-clause-frugal c =
    let old = c.args.self.now.kernel in
    let e = c.in-Some.ensures in
    let z : Result (KernelResumed InBudget) ⊤ = Ok c.in-Some.resumed in
    λ plain. subst (λ a. IsFrugal old c.args.number a) (sym c.tell_moved.ensures.rest)
    (frugal_told old c.resume_read.new.self c.args.number c.answer_of_read_again.result c.tell_moved.result.moved
    (subst (λ a. IsFrugal old c.args.number a) (sym c.answer_of_read_again.ensures)
    (frugal_of old c.resume_read.new.self c.args.number c.args.into.now c.resume_read.new.into z (λ key m waits. (refl, e.reads.1)))))
