-- An answer tells whether bytes moved.
use Rattle.std.proofs.Common.{◌≡◌, ℕ, Bool, false, ◌&&◌, List, refl, sym, ap, subst, ◌∙◌, nat_eq, nat_lt, length, arith}
use Rattle.std.specs.Prelude.{◌≤◌, Result, Ok, Err, IfOk}
use Rattle.bindingclay.specs.Heap.{InBudget}
use Rattle.pl_model.specs.declared.calls.Step.{Step}
use Rattle.pl_model.specs.declared.calls.Step.TheVariants.{Resume}
use Rattle.pl_model.specs.declared.replies.Reply.{Reply}
use Rattle.pl_model.specs.declared.replies.Reply.TheVariants.{Pid, Fd, Fds, Count, Bytes, Offset, Flags, Size, Masks, Unit, Fault, Parked, NoProcess, NoCall, CallsSpent}
use Rattle.pl_model.specs.Fates.{taken_by}
use Rattle.pl_model.specs.InOrder.{AreInOrder}
use Rattle.pl_model.specs.Numbered.{State, step}
use Rattle.pl_state.specs.Contents.{Contents}
use Rattle.pl_state.specs.Makes.{Stands, Makes as MadeByKernel}
use Rattle.pl_transfers.specs.ReadInto.{told}
use Rattle.pl_kernel.specs.declared.kernel.buffers.Resumed.{Resumed as KernelResumed}
use Rattle.pl_kernel.specs.declared.kernel.buffers.Resumed.TheVariants.{Read, Short, Other}
use Rattle.pl_kernel.specs.Buffers.{Resumes as ResumedByKernel}
use Rattle.pl_kernel.specs.Buffers.{resumed_count}
use Rattle.pl_numbers.specs.declared.answer.Answer.{Answer}
use Rattle.pl_numbers.specs.Answers.{said, plain, parked, no_memory, short}
use Rattle.pl_polls.specs.declared.entries.PollEntry.{PollEntry}
use Rattle.bindingclay.specs.Made.{Moves, Resumes, Gathers, IsFrugal, Notes, read_answer, resumed_answer}
use Rattle.bindingclay.specs.Moved.{taken_before, has_taken_more, takes_more, FlowsAsTold}
use Rattle.bindingclay.proofs.AsTold.{MovesAsTold, again_as_told}
use Rattle.bindingclay.proofs.Telling.{read_says}

-- the test of the answer that says a reply is that of the reply
test_of : (before : ℕ) (after : State InBudget) (r : Reply InBudget)
    → (nat_eq (said r).kind parked && nat_lt before (taken_by after.core (said r).value)) ≡ has_taken_more before after r
test_of before after (Pid pid) = refl
test_of before after (Fd fd) = refl
test_of before after (Fds reader writer) = refl
test_of before after (Count n sigpipe) = refl
test_of before after (Bytes bytes) = refl
test_of before after (Offset offset) = refl
test_of before after (Flags mode flags) = refl
test_of before after (Size size) = refl
test_of before after (Masks ready masks) = refl
test_of before after Unit = refl
test_of before after (Fault e) = refl
test_of before after (Parked n) = refl
test_of before after NoProcess = refl
test_of before after NoCall = refl
test_of before after CallsSpent = refl

-- an answer of this kind says that the call waits
parked_reply : (r : Reply InBudget) → (said r).kind ≡ parked → (n : ℕ) × (r ≡ Parked n)
parked_reply (Pid pid) e = absurd (cc)
parked_reply (Fd fd) e = absurd (cc)
parked_reply (Fds reader writer) e = absurd (cc)
parked_reply (Count n sigpipe) e = absurd (cc)
parked_reply (Bytes bytes) e = absurd (cc)
parked_reply (Offset offset) e = absurd (cc)
parked_reply (Flags mode flags) e = absurd (cc)
parked_reply (Size size) e = absurd (cc)
parked_reply (Masks ready masks) e = absurd (cc)
parked_reply Unit e = absurd (cc)
parked_reply (Fault errno) e = absurd (cc)
parked_reply (Parked n) e = (n, refl)
parked_reply NoProcess e = absurd (cc)
parked_reply NoCall e = absurd (cc)
parked_reply CallsSpent e = absurd (cc)

-- the answer a says what b says, and whether the call waits with more than so many bytes taken
pub record IsTold (before : ℕ) (new : Contents InBudget) (b a : Answer) : Type 0 where
  pub rest : a ≡ record b { moved = a.moved }
  pub value : (s : State InBudget) → Stands new s → a.moved ≡ (nat_eq b.kind parked && nat_lt before (taken_by s.core b.value))
  pub others : (b.kind ≡ parked → ⊥) → a.moved ≡ false

module _ (old : Contents InBudget) (x : Step InBudget) (a : Answer) where
  -- where it's no reply, nothing moved
  pub found_none : a ≡ plain 0 no_memory → Moves old x a
  found_none is =
      record {
        value = λ some. absurd (some (ap (λ (z : Answer). z.kind) is));
        others = λ other. ap (λ (z : Answer). z.moved) is;
        flows = λ waits. absurd (let kind = sym (ap (λ (z : Answer). z.kind) is) ∙ waits in cc);
      }

  pub too_short : (n : ℕ) → a ≡ plain n short → Moves old x a
  too_short n is =
      record {
        value = λ some room. absurd (room (ap (λ (z : Answer). z.kind) is));
        others = λ other. ap (λ (z : Answer). z.moved) is;
        flows = λ waits. absurd (let kind = sym (ap (λ (z : Answer). z.kind) is) ∙ waits in cc);
      }

  module _ (new : Contents InBudget) (before : ℕ) (was : (s : State InBudget) → Stands old s → before ≡ taken_before s x) (b : Answer) (told : IsTold before new b a) where
    same_kind : a.kind ≡ b.kind
    same_kind = ap (λ (z : Answer). z.kind) told.rest

    not_parked : ((a.kind ≡ parked) → ⊥) → a.moved ≡ false
    not_parked other = told.others (λ e. other (same_kind ∙ e))

    -- a reply was told
    module _ (as_told : (s : State InBudget) → AreInOrder s.core → MovesAsTold s x) (r : Reply InBudget) (made : MadeByKernel old x r new) (says : b ≡ said r) where
      value_of : (s : State InBudget) → Stands old s → a.moved ≡ takes_more s x
      value_of s stands =
          let after = (step s x).state in
          told.value after (made s stands).1
          ∙ ap (λ (z : Answer). nat_eq z.kind parked && nat_lt before (taken_by after.core z.value)) says
          ∙ test_of before after r
          ∙ ap (has_taken_more before after) (made s stands).0
          ∙ ap (λ n. has_taken_more n after (step s x).reply) (was s stands)

      pub moves : Moves old x a
      moves =
          record {
            value = λ some room. value_of;
            others = not_parked;
            flows = λ waits s stands order.
                let is = parked_reply r (sym (ap (λ (z : Answer). z.kind) says) ∙ sym same_kind ∙ waits) in
                subst (λ m. FlowsAsTold m (step s x).flow) (sym (value_of s stands)) (as_told s order is.0 (sym (made s stands).0 ∙ is.1));
          }

    pub no_reply : b.kind ≡ no_memory → Moves old x a
    no_reply is =
        record {
          value = λ some. absurd (some (same_kind ∙ is));
          others = not_parked;
          flows = λ waits. absurd (let kind = sym is ∙ sym same_kind ∙ waits in cc);
        }

    pub no_room : b.kind ≡ short → Moves old x a
    no_room is =
        record {
          value = λ some room. absurd (room (same_kind ∙ is));
          others = not_parked;
          flows = λ waits. absurd (let kind = sym is ∙ sym same_kind ∙ waits in cc);
        }

module _ {E : Type 0} (old new : Contents InBudget) (number taken : ℕ) (before after : List ℕ) (a : Answer) where
  -- a parked call that was tried again
  pub moves_again : (z : Result (KernelResumed InBudget) E) → IfOk z (λ r. ResumedByKernel old number (length before) r after new) → IfOk z (λ r. resumed_count r ≤ length after) →
      ((s : State InBudget) → Stands old s → taken ≡ taken_by s.core number) → IsTold taken new (resumed_answer z) a → Moves old (Resume number) a
  moves_again (Ok (Read r)) made few was is = moves old (Resume number) a new taken was (read_answer r) is (λ s. again_as_told s number) (told r after) made (read_says r after few)
  moves_again (Ok (Short n)) made few was is = no_room old (Resume number) a new taken was (plain n short) is refl
  moves_again (Ok (Other reply)) made few was is = moves old (Resume number) a new taken was (said reply) is (λ s. again_as_told s number) reply made refl
  moves_again (Err error) made few was is = no_reply old (Resume number) a new taken was (plain 0 no_memory) is refl

-- What holds of an answer but for whether bytes moved holds of the one that tells it.
module _ (old new : Contents InBudget) (number : ℕ) (b : Answer) (m : Bool) where
  pub resumes_told : (room : ℕ) → Resumes old number room b new → Resumes old number room (record b { moved = m }) new
  resumes_told room r = record { says = r.says; made = r.made; wider = r.wider; unmade = r.unmade }

  pub frugal_told : IsFrugal old number b → IsFrugal old number (record b { moved = m })
  frugal_told frugal = frugal

  module _ (others : (b.kind ≡ parked → ⊥) → m ≡ false) where
    still_short : (n : ℕ) → b ≡ plain n short → record b { moved = m } ≡ plain n short
    still_short n is =
        let kind = ap (λ (z : Answer). z.kind) is in
        ap (λ z. record b { moved = z }) (others (λ e. (omega (arith, kind, e)))) ∙ ap (λ (z : Answer). record z { moved = false }) is

    pub gathers_told : (before after : List ℕ) → Gathers old number before b after → Gathers old number before (record b { moved = m }) after
    gathers_told before after g =
        record {
          bytes = g.bytes;
          narrow = λ key n waits less found. still_short _ (g.narrow key n waits less found);
          fits = g.fits;
          enough = g.enough;
          others = g.others;
          unread = g.unread;
          kept = g.kept;
        }

    pub notes_told : (before after : List PollEntry) → Notes old number before b after → Notes old number before (record b { moved = m }) after
    notes_told before after g =
        record {
          entries = g.entries;
          reads = λ key n waits some found. still_short _ (g.reads key n waits some found);
          fits = g.fits;
          others = g.others;
          unmarked = g.unmarked;
          kept = g.kept;
        }
