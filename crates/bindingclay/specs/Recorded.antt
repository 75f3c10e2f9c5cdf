-- What is recorded of a call from C.
use Rattle.std.specs.Prelude.{◌≡◌, ◌≤◌, ◌⊎◌, ℕ, List, [], ◌++◌, length, take, drop, Option, MatchOption, Result, Ok, Err, Vec, vec_capacity}
use Rattle.std.specs.declared.option.Option.TheVariants.{None, Some}
use Rattle.pl_model.specs.Numbers.{most_bytes}
use Rattle.pl_model.specs.declared.calls.Step.{Step}
use Rattle.pl_model.specs.declared.calls.Step.TheVariants.{Resume}
use Rattle.pl_model.specs.declared.replies.Errno.TheVariants.{EINVAL}
use Rattle.pl_recording.specs.Record.{ended, comment_text, entry_text}
use Rattle.pl_recorder.specs.declared.recorder.Recorder.{Recorder}
use Rattle.pl_recorder.specs.Unread.{unread}
use Rattle.pl_state.specs.Contents.{Contents}
use Rattle.pl_transfers.specs.ReadInto.{told}
use Rattle.pl_kernel.specs.declared.kernel.buffers.Resumed.{Resumed as KernelResumed}
use Rattle.pl_kernel.specs.declared.kernel.buffers.Resumed.TheVariants as kernel
use Rattle.pl_numbers.specs.declared.answer.Answer.{Answer}
use Rattle.pl_numbers.specs.Answers.{plain, faulty, no_memory, short}
use Rattle.bindingclay.specs.Heap.{InBudget}
use Rattle.bindingclay.specs.Made.{Replied, Resumed}

-- A step was answered so, and this is recorded behind what was: its line and its reply, or nothing if no memory was found.
pub record IsRecorded (old : Contents InBudget) (before : List ℕ) (x : Step InBudget) (a : Answer) (after : List ℕ) : Type 0 where
  pub made : Replied old x a (λ reply. after ≡ before ++ entry_text (x, reply))
  pub unmade : a.kind ≡ no_memory → after ≡ before

-- The same of a parked call that was tried again; nothing is recorded if the caller's room was too small for what it gives.
pub record IsTryRecorded (old : Contents InBudget) (before : List ℕ) (number : ℕ) (a : Answer) (after : List ℕ) : Type 0 where
  pub made : Resumed old number a (λ reply. after ≡ before ++ entry_text (Resume number, reply))
  pub unmade : a.kind ≡ no_memory → after ≡ before
  pub untried : a.kind ≡ short → after ≡ before

-- While steps are recorded, each is; otherwise none is.
abbrev pub Records : Contents InBudget → Option (Recorder InBudget) → Step InBudget → Answer → Option (Recorder InBudget) → Type 0
Records old None x a new = new ≡ None
Records old (Some recorder) x a new = MatchOption new ⊥ (λ after. IsRecorded old (unread recorder) x a (unread after))

abbrev pub RecordsTry : Contents InBudget → Option (Recorder InBudget) → ℕ → Answer → Option (Recorder InBudget) → Type 0
RecordsTry old None number a new = new ≡ None
RecordsTry old (Some recorder) number a new = MatchOption new ⊥ (λ after. IsTryRecorded old (unread recorder) number a (unread after))

-- the room is empty, and large enough for so many bytes, which are no more than one read gives
pub record Fits (room : Vec ℕ InBudget) (count : ℕ) : Type 0 where
  pub empty : room.items ≡ []
  pub enough : count ≤ vec_capacity room
  pub few : count ≤ most_bytes

-- what is recorded of a parked call that was tried again, by what the kernel answered
abbrev pub after_try : {E : Type 0} → Result (KernelResumed InBudget) E → List ℕ → (before line : List ℕ) → List ℕ
after_try (Ok (kernel.Read reply)) read before line = before ++ (line ++ ended (comment_text {A = InBudget} (told reply read)))
after_try (Ok (kernel.Other reply)) read before line = before ++ (line ++ ended (comment_text reply))
after_try (Ok (kernel.Short n)) read before line = before
after_try (Err error) read before line = before

abbrev pub EndsBy : {E : Type 0} → Result (KernelResumed InBudget) E → List ℕ → (before : List ℕ) → Option (List ℕ) → (after : List ℕ) → Type 0
EndsBy resumed read before line after = MatchOption line (after ≡ before) (λ text. after ≡ after_try resumed read before text)

-- The first bytes of the record that weren't handed out are: as many as the caller has room for, or fewer, but none only if none is left. If memory
-- is wanting, none is, and without a recording the call fails.
pub record HandsOutOf (left old : List ℕ) (a : Answer) (new : List ℕ) : Type 0 where
  pub kinds : (a ≡ plain a.value 0) ⊎ (a ≡ plain 0 no_memory)
  pub within : a.kind ≡ 0 → a.value ≤ length old
  pub bytes : a.kind ≡ 0 → new ≡ take a.value left ++ drop a.value old
  pub some : a.kind ≡ 0 → a.value ≡ 0 → (length old ≡ 0) ⊎ (left ≡ [])
  pub unwritten : a.kind ≡ no_memory → new ≡ old

abbrev pub HandsOut : Option (Recorder InBudget) → List ℕ → Answer → List ℕ → Type 0
HandsOut None old a new = (a ≡ faulty EINVAL) × (new ≡ old)
HandsOut (Some recorder) old a new = HandsOutOf (unread recorder) old a new

-- and are no longer left
abbrev pub HasHandedOut : Option (Recorder InBudget) → Answer → Option (Recorder InBudget) → Type 0
HasHandedOut None a new = new ≡ None
HasHandedOut (Some recorder) a new = MatchOption new ⊥ (λ after. unread after ≡ drop a.value (unread recorder))
