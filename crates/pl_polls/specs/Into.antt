-- What a poll of the caller's entries answers.
use Rattle.std.specs.Prelude.{ℕ, List, map}
use Rattle.pl_model.specs.declared.flags.PollMask.{PollMask}
use Rattle.pl_model.specs.declared.replies.Reply.{Reply}
use Rattle.pl_model.specs.declared.replies.Reply.TheVariants as reply
use Rattle.pl_polls.specs.declared.entries.PollEntry.{PollEntry}
use Rattle.pl_state.specs.declared.answered.Answered.{Answered}
use Rattle.pl_state.specs.Answered.{told as told_by}

-- what an entry says was found
abbrev pub found_in : PollEntry → PollMask
found_in e = record { 0 = e.revents }

-- the reply, from the caller's entries as they are left
abbrev pub told : {A : Type 0} → Answered ℕ → List PollEntry → Reply A
told answered entries = told_by (λ n. reply.Masks n (map found_in entries)) answered
