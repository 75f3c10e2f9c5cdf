-- What the journal under the lock keeps.
use Rattle.std.specs.Prelude.{◌≡◌, ℕ, ◌+◌, ◌<◌, ◌≤◌, List, [], length, map, slice_index}
use Rattle.pl_model.specs.declared.calls.Limits.{Limits}
use Rattle.pl_model.specs.declared.calls.Step.{Step}
use Rattle.pl_model.specs.declared.calls.Step.TheVariants.{Resume}
use Rattle.pl_model.specs.declared.replies.Reply.{Reply}
use Rattle.pl_model.specs.declared.replies.Reply.TheVariants.{Parked}
use Rattle.pl_model.specs.Numbered.{opening}
use Rattle.pl_model.specs.Run.{replies}
use Rattle.pl_model.specs.declared.history.Entry.{Entry}
use Rattle.pl_model.specs.History.{of, steps_of, numbers_after}

module _ {A : Type 0} where
  -- The replies of the journal are those of the machine that makes its steps, from the opening within the limits on.
  abbrev pub Replays : Limits → List (Entry A) → Type 0
  Replays limits h = map (λ e. e.reply) h ≡ replies (opening limits) (steps_of h)

  -- The number of each entry is how many of the same caller stand before it.
  abbrev pub AreNumbered : List (Entry A) → Type 0
  AreNumbered h = map (λ e. e.number) h ≡ numbers_after [] h

  -- a call that is tried again and waits on keeps its number
  abbrev pub KeepsItsNumber : Step A → Reply A → Type 0
  KeepsItsNumber (Resume c) (Parked d) = d ≡ c
  KeepsItsNumber x r = Unit {0}

  -- How many steps each caller made stands in the tally. The journal has at most so many steps.
  pub record Tallies (callers most : ℕ) (journal : List (Entry A)) (tally : List ℕ) : Type 0 where
    pub many : length tally ≡ callers
    pub counts : (k : ℕ) → k < callers → slice_index tally k ≡ length (of k journal)
    pub room : length journal ≤ most

-- A ledger, of what was made or of what was handed out: its total is as many entries, and of its 64 parts each caller has one, the desk the
-- rest, which has none of them.
pub record Owes (callers count total held owed : ℕ) : Type 0 where
  pub counted : total ≡ count
  pub parts : held + callers ≡ 64
  pub amount : owed ≡ 0
