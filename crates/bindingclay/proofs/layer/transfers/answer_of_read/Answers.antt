use Rattle.std.proofs.Common.{◌≡◌, ℕ, refl, ◌∙◌}
use Rattle.pl_model.specs.declared.replies.Reply.TheVariants.{Offset}
use Rattle.pl_numbers.specs.Answers.{said}
use Rattle.pl_state.specs.declared.answered.Answered.{Answered}
use Rattle.pl_state.specs.declared.answered.Answered.TheVariants.{Done, Fault, Parked, NoProcess, CallsSpent}
use Rattle.pl_state.specs.Answered.{told}
use Rattle.bindingclay.specs.Heap.{InBudget}
use Rattle.bindingclay.specs.Made.{read_answer}
use Rattle.bindingclay.proofs.layer.transfers.answer_of_read.Goals as goal

-- the answer of a read says a number, as that of a seek does
as_number : (r : Answered ℕ) → said {A = InBudget} (told (λ n. Offset n) r) ≡ read_answer r
as_number (Done n) = refl
as_number (Fault e) = refl
as_number (Parked n) = refl
as_number NoProcess = refl
as_number CallsSpent = refl

pub returns-in_default : goal.returns-in_default
returns-in_default c = c.answer_of_undone.ensures (λ n. Offset n) ∙ as_number c.args.answered
