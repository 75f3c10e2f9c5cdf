-- The flat machine: whole numbers for keys, that only rise.
use Rattle.std.specs.Prelude.{ℕ, ◌+◌, nat_eq}
use Rattle.pl_model.specs.declared.calls.Limits.{Limits}
use Rattle.pl_model.specs.declared.calls.Step.{Step}
use Rattle.pl_model.specs.declared.replies.Reply.{Reply}
use Rattle.pl_model.specs.Keys.{Keys, NewKeys, Drawing, Plain, Draws}
use Rattle.pl_model.specs.State.{Core, opening_core}
use Rattle.pl_model.specs.Trial.{Flow}
use Rattle.pl_model.specs.Step.{Stepped, core_step}

-- whole numbers as keys
abbrev pub numbers : Keys
numbers = record { Description = ℕ; Pipe = ℕ; File = ℕ; same_description = nat_eq; same_pipe = nat_eq; same_file = nat_eq }

-- The state of the machine: what it holds, and for each kind of number one above all that were given. No reply shows
-- these numbers.
pub record State (A : Type 0) : Type 0 where
  pub core : Core A numbers
  pub next_description : ℕ
  pub next_pipe : ℕ
  pub next_file : ℕ

-- the state after a step, its reply, and the bytes that it moved
pub record After (A : Type 0) : Type 0 where
  pub state : State A
  pub reply : Reply A
  pub flow : Flow numbers

module _ {A : Type 0} where
  -- the state in which nothing has happened
  abbrev pub opening : Limits → State A
  opening limits = record { core = opening_core limits; next_description = 0; next_pipe = 0; next_file = 0 }

  abbrev pub next_numbers : State A → NewKeys numbers
  next_numbers s = record { description = s.next_description; other_description = s.next_description + 1; pipe = s.next_pipe; file = s.next_file }

  -- with the next numbers, which then are given
  abbrev pub step_of : State A → Drawing numbers (Stepped A numbers) → After A
  step_of s (Plain h) = record { state = record s { core = h.state }; reply = h.reply; flow = h.flow }
  step_of s (Draws f) =
      let h = f (next_numbers s) in
      record {
        state = record { core = h.state; next_description = s.next_description + 2; next_pipe = s.next_pipe + 1; next_file = s.next_file + 1 };
        reply = h.reply;
        flow = h.flow;
      }

  -- a step of the flat machine
  unfoldable pub step : State A → Step A → After A
  step s x = step_of s (core_step s.core x)
