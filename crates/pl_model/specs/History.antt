-- Journals of steps: which caller made each, and what it answered.
use Rattle.std.specs.Prelude.{◌≡◌, ℕ, ◌==◌, List, [], ◌∷◌, ◌++◌, map, filter, length}
use Rattle.pl_model.specs.declared.calls.Limits.{Limits}
use Rattle.pl_model.specs.declared.calls.Step.{Step}
use Rattle.pl_model.specs.declared.history.Entry.{Entry}
use Rattle.pl_model.specs.declared.replies.Reply.{Reply}
use Rattle.pl_model.specs.Numbered.{State, opening}
use Rattle.pl_model.specs.Run.{replies, state_after}

module _ {A : Type 0} where
  -- the n-th step of caller k, counted from 0, with its reply
  abbrev pub entry : ℕ → ℕ → Step A → Reply A → Entry A
  entry k n x r = record { caller = k; number = n; step = x; reply = r }

  -- the entries of caller k, in order
  abbrev pub of : ℕ → List (Entry A) → List (Entry A)
  of k h = filter (λ e. e.caller == k) h

  -- all steps, in the order in which they were made
  abbrev pub steps_of : List (Entry A) → List (Step A)
  steps_of h = map (λ e. e.step) h

  -- the state that the steps of a journal lead to
  abbrev pub state_of_history : Limits → List (Entry A) → State A
  state_of_history limits h = state_after (opening limits) (steps_of h)

  -- for each of the later entries, how many of its caller stand before it
  abbrev pub numbers_after : (before later : List (Entry A)) → List ℕ
  numbers_after before [] = []
  numbers_after before (e ∷ es) = length (of e.caller before) ∷ numbers_after (before ++ e ∷ []) es

  -- A journal that some run of the machine, from its opening on, gives: each reply is the machine's, and each number is how many
  -- entries of the same caller stand before it.
  pub record IsLegal (limits : Limits) (h : List (Entry A)) : Type 0 where
    pub replies : map (λ e. e.reply) h ≡ replies (opening limits) (steps_of h)
    pub numbers : map (λ e. e.number) h ≡ numbers_after [] h
