use Rattle.std.proofs.Common.{subst, sym, length}
use Rattle.pl_model.specs.declared.calls.Step.TheVariants.{Resume}
use Rattle.bindingclay.specs.Made.{Resumes, Wants, Gathers, IsFrugal}
use Rattle.bindingclay.proofs.Resuming.{resumes_of, wants_of, gathers_of, frugal_of}
use Rattle.bindingclay.proofs.Moving.{IsTold, moves_again, resumes_told, gathers_told, frugal_told}
use Rattle.bindingclay.proofs.layer.Layer.gather.Goals as goal

pub returns-clause-made : goal.returns-clause-made
returns-clause-made c =
    let z = c.resume_into-resumed in
    let old = c.args.self.now.kernel in
    let t = c.tell_moved.ensures in
    let room = length c.args.into.now in
    subst (λ a. Resumes old c.args.number room a z.new.self) (sym t.rest)
    (resumes_told old z.new.self c.args.number c.answer_of_resumed.result c.tell_moved.result.moved room
    (subst (λ a. Resumes old c.args.number room a z.new.self) (sym c.answer_of_resumed.ensures)
    (resumes_of old z.new.self c.args.number c.args.into.now z.new.into z.result z.ensures.made z.ensures.within z.ensures.unchanged)))

pub returns-clause-moved : goal.returns-clause-moved
returns-clause-moved c =
    let z = c.resume_into-resumed in
    let t = c.tell_moved.ensures in
    moves_again c.args.self.now.kernel z.new.self c.args.number c.taken_so_far-before.result c.args.into.now z.new.into c.tell_moved.result z.result z.ensures.made z.ensures.within c.taken_so_far-before.ensures
    (subst (λ b. IsTold c.taken_so_far-before.result z.new.self b c.tell_moved.result) c.answer_of_resumed.ensures (record { rest = t.rest; value = t.value; others = t.others }))

pub returns-clause-wants : goal.returns-clause-wants
returns-clause-wants c =
    let z = c.resume_into-resumed in
    λ plain. subst (λ a. Wants c.args.self.now.kernel (Resume c.args.number) a) (sym c.tell_moved.ensures.rest)
    (subst (λ a. Wants c.args.self.now.kernel (Resume c.args.number) a) (sym c.answer_of_resumed.ensures)
    (wants_of c.args.self.now.kernel z.new.self c.args.number c.args.into.now z.new.into z.result z.ensures.wanted))

pub returns-clause-bytes : goal.returns-clause-bytes
returns-clause-bytes c =
    let z = c.resume_into-resumed in
    let old = c.args.self.now.kernel in
    let before = c.args.into.now in
    subst (λ a. Gathers old c.args.number before a z.new.into) (sym c.tell_moved.ensures.rest)
    (gathers_told old z.new.self c.args.number c.answer_of_resumed.result c.tell_moved.result.moved c.tell_moved.ensures.others before z.new.into
    (subst (λ a. Gathers old c.args.number before a z.new.into) (sym c.answer_of_resumed.ensures)
    (gathers_of old z.new.self c.args.number before z.new.into z.result z.ensures.made z.ensures.reads z.ensures.others z.ensures.within z.ensures.rest z.ensures.unchanged)))

pub returns-clause-frugal : goal.returns-clause-frugal
returns-clause-frugal c =
    let z = c.resume_into-resumed in
    let old = c.args.self.now.kernel in
    λ plain. subst (λ a. IsFrugal old c.args.number a) (sym c.tell_moved.ensures.rest)
    (frugal_told old z.new.self c.args.number c.answer_of_resumed.result c.tell_moved.result.moved
    (subst (λ a. IsFrugal old c.args.number a) (sym c.answer_of_resumed.ensures)
    (frugal_of old z.new.self c.args.number c.args.into.now z.new.into z.result z.ensures.reads)))
