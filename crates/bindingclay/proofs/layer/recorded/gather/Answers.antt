use Rattle.std.proofs.Common.{subst, sym, length, ◌≡◌, Some, ◌∙◌, ap, rules}
use Rattle.pl_model.specs.declared.calls.Step.TheVariants.{Resume}
use Rattle.bindingclay.specs.Made.{Resumes, Gathers}
use Rattle.bindingclay.proofs.Resuming.{resumes_of, gathers_of}
use Rattle.bindingclay.proofs.Moving.{IsTold, moves_again, resumes_told, gathers_told}
use Rattle.pl_model.specs.Said.{said_step}
use Rattle.pl_recording.specs.Record.{ended}
use Rattle.pl_recorder.specs.Unread.{unread, line_of}
use Rattle.pl_numbers.specs.declared.answer.Answer.{Answer}
use Rattle.bindingclay.specs.Heap.{InBudget}
use Rattle.bindingclay.proofs.OnRecord.{try_recorded}
use Rattle.bindingclay.proofs.layer.recorded.gather.Goals as goal

pub returns-clause-made : goal.returns-clause-made
returns-clause-made c =
    let z = c.resume_into-resumed in
    let old = c.args.kernel.now in
    let t = c.tell_moved-answer.ensures in
    let room = length c.args.into.now in
    subst (λ a. Resumes old c.args.number room a z.new.self) (sym t.rest)
    (resumes_told old z.new.self c.args.number c.answer_of_resumed.result c.tell_moved-answer.result.moved room
    (subst (λ a. Resumes old c.args.number room a z.new.self) (sym c.answer_of_resumed.ensures)
    (resumes_of old z.new.self c.args.number c.args.into.now z.new.into z.result z.ensures.made z.ensures.within z.ensures.unchanged)))

pub returns-clause-moved : goal.returns-clause-moved
returns-clause-moved c =
    let z = c.resume_into-resumed in
    let t = c.tell_moved-answer.ensures in
    moves_again c.args.kernel.now z.new.self c.args.number c.taken_so_far-before.result c.args.into.now z.new.into c.tell_moved-answer.result z.result z.ensures.made z.ensures.within c.taken_so_far-before.ensures
    (subst (λ b. IsTold c.taken_so_far-before.result z.new.self b c.tell_moved-answer.result) c.answer_of_resumed.ensures (record { rest = t.rest; value = t.value; others = t.others }))

pub returns-clause-bytes : goal.returns-clause-bytes
returns-clause-bytes c =
    let z = c.resume_into-resumed in
    let old = c.args.kernel.now in
    let before = c.args.into.now in
    subst (λ a. Gathers old c.args.number before a z.new.into) (sym c.tell_moved-answer.ensures.rest)
    (gathers_told old z.new.self c.args.number c.answer_of_resumed.result c.tell_moved-answer.result.moved c.tell_moved-answer.ensures.others before z.new.into
    (subst (λ a. Gathers old c.args.number before a z.new.into) (sym c.answer_of_resumed.ensures)
    (gathers_of old z.new.self c.args.number before z.new.into z.result z.ensures.made z.ensures.reads z.ensures.others z.ensures.within z.ensures.rest z.ensures.unchanged)))

pub returns-clause-records : goal.returns-clause-records
returns-clause-records c =
    let z = c.resume_into-resumed in
    let line : line_of c.begin.new.self ≡ Some (ended (said_step {A = InBudget} (Resume c.args.number))) = search rules in
    let kind = ap (λ (a : Answer). a.kind) c.tell_moved-answer.ensures.rest ∙ ap (λ (a : Answer). a.kind) c.answer_of_resumed.ensures in
    try_recorded c.args.kernel.now z.new.self c.args.number c.args.into.now z.new.into _ _ z.result z.ensures.made z.ensures.within c.tell_moved-answer.result kind
    (unread c.begin.new.self) (line_of c.begin.new.self) c.begin.ensures.unread line c.end_try.ensures
