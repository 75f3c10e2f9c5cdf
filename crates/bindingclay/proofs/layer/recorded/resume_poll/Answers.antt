use Rattle.std.proofs.Common.{refl, subst, sym, [], ◌≡◌, Some, ◌∙◌, ap, rules}
use Rattle.pl_model.specs.declared.calls.Step.TheVariants.{Resume}
use Rattle.bindingclay.specs.Made.{Resumes, Notes, resumed_entries}
use Rattle.bindingclay.proofs.Resuming.{resumes_of, notes_of}
use Rattle.bindingclay.proofs.Moving.{IsTold, moves_again, resumes_told, notes_told}
use Rattle.pl_model.specs.Said.{said_step}
use Rattle.pl_recording.specs.Record.{ended}
use Rattle.pl_recorder.specs.Unread.{unread, line_of}
use Rattle.pl_numbers.specs.declared.answer.Answer.{Answer}
use Rattle.bindingclay.specs.Heap.{InBudget}
use Rattle.std.proofs.lemmas.List.{nil_from_length}
use Rattle.bindingclay.specs.Recorded.{EndsBy}
use Rattle.bindingclay.proofs.OnRecord.{try_recorded}
use Rattle.bindingclay.proofs.layer.recorded.resume_poll.Goals as goal

pub returns-clause-made : goal.returns-clause-made
returns-clause-made c =
    let z = c.resume_into-resumed in
    let old = c.args.kernel.now in
    subst (λ a. Resumes old c.args.number 0 a z.new.self) (sym c.tell_moved-answer.ensures.rest)
    (resumes_told old z.new.self c.args.number c.answer_of_resumed.result c.tell_moved-answer.result.moved 0
    (subst (λ a. Resumes old c.args.number 0 a z.new.self) (sym c.answer_of_resumed.ensures)
    (resumes_of old z.new.self c.args.number [] z.new.into z.result z.ensures.made z.ensures.within z.ensures.unchanged)))

pub returns-clause-moved : goal.returns-clause-moved
returns-clause-moved c =
    let z = c.resume_into-resumed in
    let t = c.tell_moved-answer.ensures in
    moves_again c.args.kernel.now z.new.self c.args.number c.taken_so_far-before.result [] z.new.into c.tell_moved-answer.result z.result z.ensures.made z.ensures.within c.taken_so_far-before.ensures
    (subst (λ b. IsTold c.taken_so_far-before.result z.new.self b c.tell_moved-answer.result) c.answer_of_resumed.ensures (record { rest = t.rest; value = t.value; others = t.others }))

pub returns-clause-entries : goal.returns-clause-entries
returns-clause-entries c =
    let z = c.resume_into-resumed in
    let old = c.args.kernel.now in
    let before = c.args.entries.now in
    let after = resumed_entries before z.result in
    subst (λ es. Notes old c.args.number before c.tell_moved-answer.result es) (sym c.mark_resumed.ensures)
    (subst (λ a. Notes old c.args.number before a after) (sym c.tell_moved-answer.ensures.rest)
    (notes_told old z.new.self c.args.number c.answer_of_resumed.result c.tell_moved-answer.result.moved c.tell_moved-answer.ensures.others before after
    (subst (λ a. Notes old c.args.number before a after) (sym c.answer_of_resumed.ensures)
    (notes_of old z.new.self c.args.number [] z.new.into z.result before z.ensures.made z.ensures.reads z.ensures.others refl))))

pub returns-clause-records : goal.returns-clause-records
returns-clause-records c =
    let z = c.resume_into-resumed in
    let none : z.new.into ≡ [] = nil_from_length z.new.into z.auto.into in
    let line : line_of c.begin.new.self ≡ Some (ended (said_step {A = InBudget} (Resume c.args.number))) = search rules in
    let kind = ap (λ (a : Answer). a.kind) c.tell_moved-answer.ensures.rest ∙ ap (λ (a : Answer). a.kind) c.answer_of_resumed.ensures in
    try_recorded c.args.kernel.now z.new.self c.args.number [] z.new.into _ _ z.result z.ensures.made z.ensures.within c.tell_moved-answer.result kind
    (unread c.begin.new.self) (line_of c.begin.new.self) c.begin.ensures.unread line
    (subst (λ l. EndsBy z.result l (unread c.begin.new.self) (line_of c.begin.new.self) (unread c.end_try.new.recorder)) (sym none) c.end_try.ensures)
