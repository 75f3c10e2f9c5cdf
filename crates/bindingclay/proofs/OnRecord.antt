-- What is recorded of a step, by what the kernel answered.
use Rattle.std.proofs.Common.{◌≡◌, ◌≤◌, ℕ, Option, List, ◌++◌, refl, sym, ap, subst, ◌∙◌, length}
use Rattle.std.specs.Prelude.{⊤, MatchOption, Result, Ok, Err, IfOk}
use Rattle.std.specs.declared.option.Option.TheVariants.{Some}
use Rattle.pl_model.specs.declared.calls.Step.{Step}
use Rattle.pl_model.specs.declared.calls.Step.TheVariants.{Resume}
use Rattle.pl_model.specs.declared.replies.Reply.{Reply}
use Rattle.pl_model.specs.Said.{said_step}
use Rattle.pl_recording.specs.Record.{ended, comment_text, entry_text}
use Rattle.pl_state.specs.Contents.{Contents}
use Rattle.pl_state.specs.Makes.{Makes as MadeByKernel}
use Rattle.pl_transfers.specs.ReadInto.{told}
use Rattle.pl_kernel.specs.declared.kernel.buffers.Resumed.{Resumed as KernelResumed}
use Rattle.pl_kernel.specs.declared.kernel.buffers.Resumed.TheVariants.{Read, Short, Other}
use Rattle.pl_kernel.specs.Buffers.{Resumes as ResumedByKernel, resumed_count}
use Rattle.pl_numbers.specs.declared.answer.Answer.{Answer}
use Rattle.pl_numbers.specs.Answers.{said, plain, no_memory}
use Rattle.bindingclay.specs.Heap.{InBudget}
use Rattle.bindingclay.specs.Made.{resumed_answer}
use Rattle.bindingclay.specs.Recorded.{IsRecorded, IsTryRecorded, EndsBy}
use Rattle.bindingclay.proofs.Telling.{has_memory, has_room, of_reply, not_replied, again_of}
use Rattle.bindingclay.proofs.Resuming.{read_has_memory, read_has_room}

module _ (old : Contents InBudget) (x : Step InBudget) (a : Answer) (before after : List ℕ) where
  -- no memory was found, and nothing is recorded
  pub unrecorded : a ≡ plain 0 no_memory → after ≡ before → IsRecorded old before x a after
  unrecorded is same =
      record {
        made = not_replied old x a (λ reply. after ≡ before ++ entry_text (x, reply)) is;
        unmade = λ e. same;
      }

  -- the step was made, and its line and its comment are recorded
  pub recorded : (r : Reply InBudget) (new : Contents InBudget) → MadeByKernel old x r new → (a.kind ≡ no_memory → ⊥) → (begun : List ℕ) (line : Option (List ℕ)) → begun ≡ before → line ≡ Some (ended (said_step x)) →
      MatchOption line ⊤ (λ l. after ≡ begun ++ (l ++ ended (comment_text r))) → IsRecorded old before x a after
  recorded r new made found begun line same is ends =
      let text = subst (λ z. MatchOption z ⊤ (λ l. after ≡ begun ++ (l ++ ended (comment_text r)))) is ends in
      record {
        made = of_reply old x a r new made (λ reply. after ≡ before ++ entry_text (x, reply)) (text ∙ ap (λ l. l ++ entry_text (x, r)) same);
        unmade = λ e. absurd (found e);
      }

  -- the reply that the answer says is one of a step
  pub recorded_said : (r : Reply InBudget) (new : Contents InBudget) → MadeByKernel old x r new → a ≡ said r → (begun : List ℕ) (line : Option (List ℕ)) → begun ≡ before → line ≡ Some (ended (said_step x)) →
      MatchOption line ⊤ (λ l. after ≡ begun ++ (l ++ ended (comment_text r))) → IsRecorded old before x a after
  recorded_said r new made says = recorded r new made (has_memory a r says)

module _ {E : Type 0} (old new : Contents InBudget) (number : ℕ) (room read : List ℕ) (before after : List ℕ) where
  -- The same of a parked call that was tried again. The answer may tell too whether bytes moved.
  pub try_recorded : (z : Result (KernelResumed InBudget) E) → IfOk z (λ r. ResumedByKernel old number (length room) r read new) → IfOk z (λ r. resumed_count r ≤ length read) → (a : Answer) → a.kind ≡ (resumed_answer z).kind →
      (begun : List ℕ) (line : Option (List ℕ)) → begun ≡ before → line ≡ Some (ended (said_step {A = InBudget} (Resume number))) → EndsBy z read begun line after → IsTryRecorded old before number a after
  try_recorded (Ok (Read r)) made few a kind begun line same is ends =
      let text = subst (λ l. EndsBy {E = E} (Ok (Read r)) read begun l after) is ends in
      record {
        made = again_of old new number (length room) a (told {A = InBudget} r read) made (λ reply. after ≡ before ++ entry_text {A = InBudget} (Resume number, reply)) (text ∙ ap (λ l. l ++ entry_text {A = InBudget} (Resume number, told {A = InBudget} r read)) same);
        unmade = λ e. absurd (read_has_memory r (sym kind ∙ e));
        untried = λ e. absurd (read_has_room r (sym kind ∙ e));
      }
  try_recorded (Ok (Short n)) made few a kind begun line same is ends =
      let text = subst (λ l. EndsBy {E = E} (Ok (Short n)) read begun l after) is ends ∙ same in
      record { made = λ some room. absurd (room kind); unmade = λ e. text; untried = λ e. text }
  try_recorded (Ok (Other reply)) made few a kind begun line same is ends =
      let text = subst (λ l. EndsBy {E = E} (Ok (Other reply)) read begun l after) is ends in
      record {
        made = again_of old new number (length room) a reply made (λ r. after ≡ before ++ entry_text {A = InBudget} (Resume number, r)) (text ∙ ap (λ l. l ++ entry_text {A = InBudget} (Resume number, reply)) same);
        unmade = λ e. absurd (has_memory (said reply) reply refl (sym kind ∙ e));
        untried = λ e. absurd (has_room (said reply) reply refl (sym kind ∙ e));
      }
  try_recorded (Err error) made few a kind begun line same is ends =
      let text = subst (λ l. EndsBy {E = E} (Err error) read begun l after) is ends ∙ same in
      record { made = λ some. absurd (some kind); unmade = λ e. text; untried = λ e. text }
