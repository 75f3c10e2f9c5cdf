-- What is proved of the machine itself, for any allocator type A of its calls.
use Rattle.std.specs.Prelude.{◌≡◌, ℕ, ◌++◌, Bool, true, List, nat_lt}
use Rattle.pl_model.specs.declared.calls.Limits.{Limits}
use Rattle.pl_model.specs.declared.calls.Step.{Step}
use Rattle.pl_model.specs.declared.calls.Step.TheVariants.{Resume, Interrupt}
use Rattle.pl_model.specs.declared.replies.Errno.{Errno}
use Rattle.pl_model.specs.declared.replies.Reply.{Reply}
use Rattle.pl_model.specs.declared.replies.Reply.TheVariants.{Fault, Parked}
use Rattle.pl_model.specs.declared.replies.Outcome.{Outcome}
use Rattle.pl_model.specs.State.{Core}
use Rattle.pl_model.specs.Live.{is_live, writers}
use Rattle.pl_model.specs.Settle.{settle, had_writer}
use Rattle.pl_model.specs.Trial.{still}
use Rattle.pl_model.specs.Step.{core_step}
use Rattle.pl_model.specs.Numbered.{numbers, State, opening, step}
use Rattle.pl_model.specs.Run.{after, marked, outcomes}
use Rattle.pl_model.specs.Refused.{is_refused, with_call_ended, after_outcomes}
use Rattle.pl_model.specs.Stream.{held}
use Rattle.pl_model.specs.Streams.{added, left, added_by, left_by}
use Rattle.pl_model.specs.Renaming.{Renamings, rename, rename_drawing}
use Rattle.pl_model.specs.StandsFor.{StandsFor, Comes, IsBelowCounters}

-- A step under other keys is the step, under other keys.
abbrev pub CommutesWithRenaming : Type 0 → Type 0
CommutesWithRenaming A =
    (r : Renamings) (c : Core A numbers) (x : Step A) → core_step (rename r c) x ≡ rename_drawing r (core_step c x)

-- What settles under other keys is what settles, under other keys.
abbrev pub SettlesUnderRenaming : Type 0 → Type 0
SettlesUnderRenaming A = (r : Renamings) (before c : Core A numbers) → settle (rename r before) (rename r c) ≡ rename r (settle before c)

-- Whichever unused keys a step took, it was answered as the flat machine answers, and what it left stands for the state
-- that the flat machine leaves.
abbrev pub SimulatesTheFlatMachine : Type 0 → Type 0
SimulatesTheFlatMachine A =
    (old new : Core A numbers) (s : State A) (x : Step A) (reply : Reply A) → StandsFor old s → Comes old (core_step old x) reply new →
    (reply ≡ (step s x).reply) × StandsFor new (step s x).state

-- nothing is left to settle
abbrev pub IsSettled : {A : Type 0} → Core A numbers → Type 0
IsSettled c = settle c c ≡ c

-- What holds of each state that a run comes to.
pub record IsSound {A : Type 0} (s : State A) : Type 0 where
  -- a new number is new
  pub below : IsBelowCounters s
  -- so a step that changes nothing leaves the state as it was
  pub settled : IsSettled s.core

abbrev pub OpensSound : Type 0 → Type 0
OpensSound A = (limits : Limits) → IsSound (opening {A = A} limits)

abbrev pub StaysSound : Type 0 → Type 0
StaysSound A = (s : State A) (x : Step A) → IsSound s → IsSound (step s x).state

abbrev pub RunsSound : Type 0 → Type 0
RunsSound A = (s : State A) (xs : List (Step A × Bool)) → IsSound s → IsSound (after s xs)

-- Numbers stay below the counters, whether or not the state before was settled.
abbrev pub StaysBelowCounters : Type 0 → Type 0
StaysBelowCounters A = (s : State A) (x : Step A) → IsBelowCounters s → IsBelowCounters (step s x).state

-- The end of a step leaves nothing more to settle, whatever the state before.
abbrev pub EndsSettled : Type 0 → Type 0
EndsSettled A = (s : State A) (x : Step A) → IsSettled (step s x).state.core

-- The second state is the first with fewer rows, and fewer parked calls.
pub record HasFewer {A : Type 0} (u v : Core A numbers) : Type 0 where
  pub descriptions : v.descriptions ≡ u.descriptions
  pub pipes : v.pipes ≡ u.pipes
  pub files : v.files ≡ u.files
  pub names : v.names ≡ u.names
  pub live : (d : ℕ) → is_live v d ≡ true → is_live u d ≡ true

-- the rows and calls of v over what s holds under keys
abbrev pub with_held_of : {A : Type 0} → Core A numbers → Core A numbers → Core A numbers
with_held_of s v = record v { descriptions = s.descriptions; pipes = s.pipes; files = s.files }

-- What leaves in turn is settled as if it left at once, from any state before in which a pipe had a writer if it has one.
abbrev pub SettlesInTurn : Type 0 → Type 0
SettlesInTurn A =
    (before u v : Core A numbers) → HasFewer u v → ((p : ℕ) → nat_lt 0 (writers u p) ≡ true → had_writer before p ≡ true) →
    settle (settle before u) (with_held_of (settle before u) v) ≡ settle before v

-- A refused step leaves the state as it was, counters included, and moves no byte.
abbrev pub RefusesWithoutChange : Type 0 → Type 0
RefusesWithoutChange A =
    (s : State A) (x : Step A) → IsSettled s.core → is_refused x (step s x).reply ≡ true →
    ((step s x).state ≡ s) × ((step s x).flow ≡ still)

-- A fault at Resume or Interrupt ends that parked call and moves no byte. What else changes is what the end of the step
-- settles.
pub record EndsTheCallAlone (A : Type 0) : Type 0 where
  pub resumed : (s : State A) (c : ℕ) (errno : Errno) → (step s (Resume c)).reply ≡ Fault errno →
      ((step s (Resume c)).state ≡ with_call_ended s c) × ((step s (Resume c)).flow ≡ still)
  pub interrupted : (s : State A) (c : ℕ) (errno : Errno) → (step s (Interrupt c)).reply ≡ Fault errno →
      ((step s (Interrupt c)).state ≡ with_call_ended s c) × ((step s (Interrupt c)).flow ≡ still)

-- A call that is resumed and still waits does so under its number, whatever the state.
abbrev pub WaitsUnderItsNumber : Type 0 → Type 0
WaitsUnderItsNumber A = (s : State A) (c d : ℕ) → (step s (Resume c)).reply ≡ Parked d → d ≡ c

-- So where a run's outcomes are those of the machine, they say which of its steps left the state as it was, and which
-- only ended a call.
abbrev pub OutcomesTell : Type 0 → Type 0
OutcomesTell A =
    (s : State A) (xs : List (Step A)) (os : List (Outcome A)) → IsSettled s.core → os ≡ outcomes s (marked xs os) →
    after_outcomes s xs os ≡ after s (marked xs os)

-- The stream law, for each pipe: what it held and what a step added is what the step took out and what it holds.
abbrev pub KeepsTheStream : Type 0 → Type 0
KeepsTheStream A =
    (s : State A) (x : Step A) (p : ℕ) → IsBelowCounters s →
    held s.core p ++ added s x p ≡ left s x p ++ held (step s x).state.core p

-- The same of a whole run.
abbrev pub RunsKeepTheStream : Type 0 → Type 0
RunsKeepTheStream A =
    (s : State A) (xs : List (Step A × Bool)) (p : ℕ) → IsBelowCounters s →
    held s.core p ++ added_by s xs p ≡ left_by s xs p ++ held (after s xs).core p
