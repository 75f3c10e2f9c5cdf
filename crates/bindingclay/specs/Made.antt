-- What a call from C comes to.
use Rattle.std.specs.Prelude.{◌≡◌, ℕ, Bool, true, false, List, length, drop, ◌++◌, ◌<◌, ◌≤◌, nat_lt, if◌then◌else◌, Option}
use Rattle.std.specs.declared.option.Option.TheVariants.{None, Some}
use Rattle.std.specs.Prelude.{Result, Ok, Err}
use Rattle.bindingclay.specs.Heap.{InBudget}
use Rattle.pl_model.specs.declared.calls.Step.{Step}
use Rattle.pl_model.specs.declared.calls.Step.TheVariants.{Resume}
use Rattle.pl_model.specs.declared.replies.Errno.TheVariants.{ENOENT}
use Rattle.pl_model.specs.Numbers.{most_capacity}
use Rattle.pl_model.specs.declared.replies.Reply.{Reply}
use Rattle.pl_model.specs.declared.replies.Reply.TheVariants.{Bytes}
use Rattle.pl_model.specs.InOrder.{AreInOrder}
use Rattle.pl_model.specs.Numbered.{State, step}
use Rattle.pl_state.specs.Contents.{Contents}
use Rattle.pl_state.specs.Makes.{Stands, WantsMemory}
use Rattle.pl_state.specs.Parking.{ReadWaits}
use Rattle.pl_kernel.specs.declared.kernel.buffers.Resumed.{Resumed as KernelResumed}
use Rattle.pl_kernel.specs.declared.kernel.buffers.Resumed.TheVariants as kernel
use Rattle.pl_kernel.specs.Progress.{ready_entries, TellsNextReady}
use Rattle.pl_kernel.specs.Taken.{owner_by, taken_by}
use Rattle.pl_numbers.specs.declared.answer.Answer.{Answer}
use Rattle.pl_polls.specs.declared.entries.PollEntry.{PollEntry}
use Rattle.pl_state.specs.declared.answered.Answered.{Answered}
use Rattle.pl_state.specs.declared.answered.Answered.TheVariants as read
use Rattle.pl_transfers.specs.Readable.{gives_again}
use Rattle.pl_numbers.specs.Answers.{said, plain, faulty, parked, no_memory, short}
use Rattle.pl_polls.specs.Entries.{entries_after}
use Rattle.bindingclay.specs.Moved.{takes_more, FlowsAsTold}

-- Where memory was found, this holds of the machine's reply, for each state for which the kernel stood.
abbrev pub Replied : Contents InBudget → Step InBudget → Answer → (Reply InBudget → Type 0) → Type 0
Replied old x a P = ((a.kind ≡ no_memory) → ⊥) → (s : State InBudget) → Stands old s → P (step s x).reply

-- the answer says the machine's reply
abbrev pub Says : Contents InBudget → Step InBudget → Answer → Type 0
Says old x a = Replied old x a (λ reply. a ≡ said reply)

-- The answer says the machine's reply, and the kernel stands for the next state; where no memory was found, it is as it was.
pub record Makes (old : Contents InBudget) (x : Step InBudget) (a : Answer) (new : Contents InBudget) : Type 0 where
  pub says : Says old x a
  pub made : ((a.kind ≡ no_memory) → ⊥) → (s : State InBudget) → Stands old s → Stands new (step s x).state
  pub unmade : a.kind ≡ no_memory → new ≡ old

-- the answer but for whether bytes moved, which no reply tells
abbrev pub unmoved : Answer → Answer
unmoved a = record a { moved = false }

-- The answer tells whether the step took bytes of a call that waits on; an answer of another kind than parked tells that it didn't. If the call
-- waits, the step moved bytes as is told: so of each state that a run comes to, whose calls are in order (`laws::order`).
pub record Moves (old : Contents InBudget) (x : Step InBudget) (a : Answer) : Type 0 where
  pub value : ((a.kind ≡ no_memory) → ⊥) → ((a.kind ≡ short) → ⊥) → (s : State InBudget) → Stands old s → a.moved ≡ takes_more s x
  pub others : ((a.kind ≡ parked) → ⊥) → a.moved ≡ false
  pub flows : a.kind ≡ parked → (s : State InBudget) → Stands old s → AreInOrder s.core → FlowsAsTold a.moved (step s x).flow

-- no memory is wanted but where the machine's step may want it
abbrev pub Wants : Contents InBudget → Step InBudget → Answer → Type 0
Wants old x a = a.kind ≡ no_memory → WantsMemory old x

-- POSIX.1-2017, read: the caller's bytes begin with what was read, and stay behind it
abbrev pub bytes_after : List ℕ → Reply InBudget → List ℕ
bytes_after old (Bytes bytes) = bytes ++ drop (length bytes) old
bytes_after old other = old

-- A parked call is tried again, unless no memory was found, or it is a read and the caller's room too small for its bytes: then this holds of
-- the machine's reply.
abbrev pub Resumed : Contents InBudget → ℕ → Answer → (Reply InBudget → Type 0) → Type 0
Resumed old number a P = ((a.kind ≡ no_memory) → ⊥) → ((a.kind ≡ short) → ⊥) → (s : State InBudget) → Stands old s → P (step s (Resume number)).reply

-- What trying a parked call again comes to, with so much room for bytes.
pub record Resumes (old : Contents InBudget) (number room : ℕ) (a : Answer) (new : Contents InBudget) : Type 0 where
  pub says : Resumed old number a (λ reply. unmoved a ≡ said reply)
  pub made : ((a.kind ≡ no_memory) → ⊥) → ((a.kind ≡ short) → ⊥) → (s : State InBudget) → Stands old s → Stands new (step s (Resume number)).state
  pub wider : a.kind ≡ short → (room < a.value) × (new ≡ old)
  pub unmade : a.kind ≡ no_memory → new ≡ old

-- What it leaves in that room. A read whose bytes fit gives them; one whose bytes don't fit tells how many they are; nothing else changes any, and
-- nothing else is too wide.
pub record Gathers (old : Contents InBudget) (number : ℕ) (before : List ℕ) (a : Answer) (after : List ℕ) : Type 0 where
  pub bytes : (key n : ℕ) → ReadWaits {A = InBudget} old number key n → Resumed old number a (λ reply. after ≡ bytes_after before reply)
  pub narrow : (key n : ℕ) → ReadWaits {A = InBudget} old number key n → length before < gives_again old number → (a.kind ≡ no_memory → ⊥) → a ≡ plain (gives_again old number) short
  pub fits : (key n : ℕ) → ReadWaits {A = InBudget} old number key n → gives_again old number ≤ length before → a.kind ≡ short → ⊥
  pub enough : (key n : ℕ) → ReadWaits {A = InBudget} old number key n → most_capacity ≤ length before → a.kind ≡ short → ⊥
  pub others : ((key n : ℕ) → ¬ ReadWaits {A = InBudget} old number key n) → (after ≡ before) × (a.kind ≡ short → ⊥)
  pub unread : a.kind ≡ no_memory → after ≡ before
  pub kept : a.kind ≡ short → after ≡ before

-- a read that waits wants no memory
abbrev pub IsFrugal : Contents InBudget → ℕ → Answer → Type 0
IsFrugal old number a = (key n : ℕ) → ReadWaits {A = InBudget} old number key n → a.kind ≡ no_memory → ⊥

-- The same of a call, unless it is a poll that can get on. Such a poll isn't tried: the answer tells how many entries it has, and nothing changes.
pub record TriesAgain (old : Contents InBudget) (number : ℕ) (before : List ℕ) (a : Answer) (after : List ℕ) (new : Contents InBudget) : Type 0 where
  pub polls : 0 < ready_entries old number → (a ≡ plain (ready_entries old number) short) × (after ≡ before) × (new ≡ old)
  pub others : ready_entries old number ≡ 0 → Resumes old number (length before) a new × Gathers old number before a after

-- What it leaves in the entries of a poll. A read that gives bytes is told to have too little room.
pub record Notes (old : Contents InBudget) (number : ℕ) (before : List PollEntry) (a : Answer) (after : List PollEntry) : Type 0 where
  pub entries : Resumed old number a (λ reply. after ≡ entries_after before reply)
  pub reads : (key n : ℕ) → ReadWaits {A = InBudget} old number key n → 0 < gives_again old number → (a.kind ≡ no_memory → ⊥) → a ≡ plain (gives_again old number) short
  pub fits : (key n : ℕ) → ReadWaits {A = InBudget} old number key n → gives_again old number ≡ 0 → a.kind ≡ short → ⊥
  pub others : ((key n : ℕ) → ¬ ReadWaits {A = InBudget} old number key n) → a.kind ≡ short → ⊥
  pub unmarked : a.kind ≡ no_memory → after ≡ before
  pub kept : a.kind ≡ short → after ≡ before

-- splice(2): the offset that is given, if any
abbrev pub offset_of : Bool → ℕ → Option ℕ
offset_of given offset = if given then Some offset else None

-- the answer to a read into the caller's bytes
abbrev pub read_answer : Answered ℕ → Answer
read_answer (read.Done n) = plain n 0
read_answer (read.Fault e) = faulty e
read_answer (read.Parked n) = plain n 2
read_answer read.NoProcess = plain 0 3
read_answer read.CallsSpent = plain 0 5

-- the answer of a call that was tried again
abbrev pub resumed_answer : {E : Type 0} → Result (KernelResumed InBudget) E → Answer
resumed_answer (Ok (kernel.Read reply)) = read_answer reply
resumed_answer (Ok (kernel.Short n)) = plain n short
resumed_answer (Ok (kernel.Other reply)) = said reply
resumed_answer (Err error) = plain 0 no_memory

-- and the entries of a poll behind it
abbrev pub resumed_entries : {E : Type 0} → List PollEntry → Result (KernelResumed InBudget) E → List PollEntry
resumed_entries old (Ok (kernel.Other reply)) = entries_after old reply
resumed_entries old other = old

-- the answer that tells a number of a parked call, or that there is no such call
abbrev pub number_answer : Option ℕ → Answer
number_answer None = plain 0 4
number_answer (Some n) = plain n 0

-- so its process is told, for each state for which the kernel stands
abbrev pub Owns : Contents InBudget → ℕ → Answer → Type 0
Owns k number a = (s : State InBudget) → Stands k s → a ≡ number_answer (owner_by s number)

-- so are the bytes that it has taken
abbrev pub Takes : Contents InBudget → ℕ → Answer → Type 0
Takes k number a = (s : State InBudget) → Stands k s → a ≡ number_answer (taken_by s number)

-- The answer tells the least number, from one on, of a parked call that can get on, or that there is none.
abbrev pub TellsNext : Contents InBudget → ℕ → Answer → Type 0
TellsNext k from a = (told : Option ℕ) × (a ≡ number_answer told) × TellsNextReady k from told

-- Bytes were copied to the front of the caller's; or there is too little room for them, and the answer says how many they are.
abbrev pub Copies : (is_short : Bool) → List ℕ → Answer → (old new : List ℕ) → Type 0
Copies true bytes a old new = (a ≡ plain (length bytes) short) × (new ≡ old)
Copies false bytes a old new = (a ≡ plain (length bytes) 0) × (new ≡ bytes ++ drop (length bytes) old)

-- so of the bytes of a file, if it is one
abbrev pub Gives : Option (List ℕ) → Answer → (old new : List ℕ) → Type 0
Gives None a old new = (a ≡ faulty ENOENT) × (new ≡ old)
Gives (Some bytes) a old new = Copies (nat_lt (length old) (length bytes)) bytes a old new
