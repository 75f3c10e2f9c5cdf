-- What a parked call comes to that is tried again, by what the kernel answered.
use Rattle.std.proofs.Common.{◌≡◌, ◌≤◌, ℕ, List, drop, length, refl, ap, arith}
use Rattle.std.specs.Prelude.{Result, Ok, Err, IfOk, OnErr, IsOk}
use Rattle.bindingclay.specs.Heap.{InBudget}
use Rattle.pl_model.specs.declared.calls.Step.TheVariants.{Resume}
use Rattle.pl_state.specs.Contents.{Contents}
use Rattle.pl_state.specs.Makes.{WantsMemory}
use Rattle.pl_state.specs.Parking.{ReadWaits}
use Rattle.pl_transfers.specs.ReadInto.{told}
use Rattle.pl_state.specs.declared.answered.Answered.{Answered}
use Rattle.pl_state.specs.declared.answered.Answered.TheVariants as Reading
use Rattle.pl_kernel.specs.declared.kernel.buffers.Resumed.{Resumed as KernelResumed}
use Rattle.pl_kernel.specs.declared.kernel.buffers.Resumed.TheVariants.{Read, Short, Other}
use Rattle.pl_kernel.specs.Buffers.{Resumes as ResumedByKernel}
use Rattle.pl_kernel.specs.Buffers.{resumed_count, IsOfOther, ReadsAgain}
use Rattle.pl_polls.specs.declared.entries.PollEntry.{PollEntry}
use Rattle.pl_numbers.specs.Answers.{said, plain, no_memory, short}
use Rattle.pl_polls.specs.Entries.{entries_after}
use Rattle.bindingclay.specs.Made.{Resumes, Wants, Gathers, IsFrugal, Notes, read_answer, bytes_after, resumed_answer, resumed_entries}
use Rattle.bindingclay.proofs.Telling.{has_memory, has_room, again_of, resumed, too_short, found_none, read_says, read_leaves}

read_at_most : (r : Answered ℕ) → (read_answer r).kind ≤ 5
read_at_most (Reading.Done n) = omega arith
read_at_most (Reading.Fault e) = omega arith
read_at_most (Reading.Parked n) = omega arith
read_at_most Reading.NoProcess = omega arith
read_at_most Reading.CallsSpent = omega arith

pub read_has_memory : (r : Answered ℕ) → (read_answer r).kind ≡ no_memory → ⊥
read_has_memory r e = (let few = read_at_most r in omega arith)

pub read_has_room : (r : Answered ℕ) → (read_answer r).kind ≡ short → ⊥
read_has_room r e = (let few = read_at_most r in omega arith)

-- no read answers masks
read_marks_none : (before : List PollEntry) (r : Answered ℕ) (bytes : List ℕ) → before ≡ entries_after {A = InBudget} before (told r bytes)
read_marks_none before (Reading.Done n) bytes = refl
read_marks_none before (Reading.Fault e) bytes = refl
read_marks_none before (Reading.Parked n) bytes = refl
read_marks_none before Reading.NoProcess bytes = refl
read_marks_none before Reading.CallsSpent bytes = refl

-- what the kernel says of a read that waits, with so much room for its bytes
abbrev OfReads : {E : Type 0} → Contents InBudget → ℕ → (room : ℕ) → Result (KernelResumed InBudget) E → Type 0
OfReads old number room z = (key n : ℕ) → ReadWaits {A = InBudget} old number key n → IsOk z × IfOk z (ReadsAgain old number room)

-- and of a call that is none
abbrev OfOthers : {E : Type 0} → Contents InBudget → ℕ → Result (KernelResumed InBudget) E → Type 0
OfOthers old number z = ((key n : ℕ) → ¬ ReadWaits {A = InBudget} old number key n) → IfOk z IsOfOther

module _ {E : Type 0} (old new : Contents InBudget) (number : ℕ) (before after : List ℕ) where
  pub resumes_of : (z : Result (KernelResumed InBudget) E) → IfOk z (λ r. ResumedByKernel old number (length before) r after new) → IfOk z (λ r. resumed_count r ≤ length after) →
      OnErr z ((new ≡ old) × (after ≡ before)) → Resumes old number (length before) (resumed_answer z) new
  resumes_of (Ok (Read r)) made few same = resumed old new number (length before) (read_answer r) (told r after) made (read_says r after few)
  resumes_of (Ok (Short n)) made few same = too_short old new number (length before) (plain n short) n refl made.0 made.1
  resumes_of (Ok (Other reply)) made few same = resumed old new number (length before) (said reply) reply made refl
  resumes_of (Err error) made few same = found_none old new number (length before) (plain 0 no_memory) refl same.0

  pub wants_of : (z : Result (KernelResumed InBudget) E) → OnErr z (WantsMemory old (Resume number)) → Wants old (Resume number) (resumed_answer z)
  wants_of (Ok (Read r)) wanted = λ e. absurd (read_has_memory r e)
  wants_of (Ok (Short n)) wanted = λ e. absurd (omega arith)
  wants_of (Ok (Other reply)) wanted = λ e. absurd (has_memory (said reply) reply refl e)
  wants_of (Err error) wanted = λ e. wanted

  pub gathers_of : (z : Result (KernelResumed InBudget) E) → IfOk z (λ r. ResumedByKernel old number (length before) r after new) → OfReads old number (length before) z → OfOthers old number z → IfOk z (λ r. resumed_count r ≤ length after) →
      IfOk z (λ r. drop (resumed_count r) after ≡ drop (resumed_count r) before) → OnErr z ((new ≡ old) × (after ≡ before)) → Gathers old number before (resumed_answer z) after
  gathers_of (Ok (Read r)) made reads others few rest unread =
      record {
        bytes = λ key n waits. again_of old new number (length before) (read_answer r) (told r after) made (λ reply. after ≡ bytes_after before reply) (read_leaves r before after few rest);
        narrow = λ key n waits less found. absurd (let e = (reads key n waits).1.short less in cc);
        fits = λ key n waits few. read_has_room r;
        enough = λ key n waits few. read_has_room r;
        others = λ none. absurd (others none);
        unread = λ e. absurd (read_has_memory r e);
        kept = λ e. absurd (read_has_room r e);
      }
  gathers_of (Ok (Short m)) made reads others few rest unread =
      record {
        bytes = λ key n waits some room. absurd (room refl);
        narrow = λ key n waits less found. ap (λ k. plain k short) (let e = (reads key n waits).1.short less in cc);
        fits = λ key n waits few e. (reads key n waits).1.fits few;
        enough = λ key n waits few e. (reads key n waits).1.enough few;
        others = λ none. absurd (others none);
        unread = λ e. rest;
        kept = λ e. rest;
      }
  gathers_of (Ok (Other reply)) made reads others few rest unread =
      record {
        bytes = λ key n waits. absurd ((reads key n waits).1.of_read);
        narrow = λ key n waits less found. absurd ((reads key n waits).1.of_read);
        fits = λ key n waits few e. (reads key n waits).1.of_read;
        enough = λ key n waits few e. (reads key n waits).1.of_read;
        others = λ none. (rest, has_room (said reply) reply refl);
        unread = λ e. rest;
        kept = λ e. rest;
      }
  gathers_of (Err error) made reads others few rest unread =
      record {
        bytes = λ key n waits some. absurd (some refl);
        narrow = λ key n waits less found. absurd (found refl);
        fits = λ key n waits few e. (omega arith);
        enough = λ key n waits few e. (omega arith);
        others = λ none. (unread.1, λ e. (omega arith));
        unread = λ e. unread.1;
        kept = λ e. unread.1;
      }

  pub frugal_of : (z : Result (KernelResumed InBudget) E) → OfReads old number (length before) z → IsFrugal old number (resumed_answer z)
  frugal_of (Ok (Read r)) reads = λ key n waits. read_has_memory r
  frugal_of (Ok (Short m)) reads = λ key n waits e. (omega arith)
  frugal_of (Ok (Other reply)) reads = λ key n waits e. (reads key n waits).1.of_read
  frugal_of (Err error) reads = λ key n waits e. (let found = (reads key n waits).0 in cc)

  pub notes_of : (z : Result (KernelResumed InBudget) E) (entries : List PollEntry) → IfOk z (λ r. ResumedByKernel old number (length before) r after new) → OfReads old number (length before) z → OfOthers old number z → length before ≡ 0 →
      Notes old number entries (resumed_answer z) (resumed_entries entries z)
  notes_of (Ok (Read r)) entries made reads others none =
      record {
        entries = again_of old new number (length before) (read_answer r) (told r after) made (λ reply. entries ≡ entries_after entries reply) (read_marks_none entries r after);
        reads = λ key n waits some found. absurd (let e = (reads key n waits).1.short (omega arith) in cc);
        fits = λ key n waits no. read_has_room r;
        others = λ none. absurd (others none);
        unmarked = λ e. refl;
        kept = λ e. refl;
      }
  notes_of (Ok (Short m)) entries made reads others none =
      record {
        entries = λ some room. absurd (room refl);
        reads = λ key n waits some found. ap (λ k. plain k short) (let e = (reads key n waits).1.short (omega arith) in cc);
        fits = λ key n waits no e. (reads key n waits).1.fits (omega arith);
        others = λ none. absurd (others none);
        unmarked = λ e. refl;
        kept = λ e. refl;
      }
  notes_of (Ok (Other reply)) entries made reads others none =
      record {
        entries = again_of old new number (length before) (said reply) reply made (λ r. entries_after entries reply ≡ entries_after entries r) refl;
        reads = λ key n waits some found. absurd ((reads key n waits).1.of_read);
        fits = λ key n waits no. has_room (said reply) reply refl;
        others = λ none. has_room (said reply) reply refl;
        unmarked = λ e. absurd (has_memory (said reply) reply refl e);
        kept = λ e. absurd (has_room (said reply) reply refl e);
      }
  notes_of (Err error) entries made reads others none =
      record {
        entries = λ some. absurd (some refl);
        reads = λ key n waits some found. absurd (found refl);
        fits = λ key n waits no e. (omega arith);
        others = λ none e. (omega arith);
        unmarked = λ e. refl;
        kept = λ e. refl;
      }
