-- The entries of a poll.
use Rattle.std.specs.Prelude.{ℕ, ◌+◌, bit_and, List, [], ◌∷◌, ℤ, map}
use Rattle.pl_model.specs.declared.flags.PollMask.{PollMask}
use Rattle.pl_model.specs.Flags.{poll_in, poll_out, poll_err, poll_hup, poll_nval}
use Rattle.pl_model.specs.declared.replies.Reply.{Reply}
use Rattle.pl_model.specs.declared.replies.Reply.TheVariants.{Masks}
use Rattle.pl_polls.specs.declared.entries.PollEntry.{PollEntry}

-- POSIX.1-2017, poll.h, by their numbers on Linux: of the bits, those that have a name here
abbrev pub mask_of_events : ℕ → PollMask
mask_of_events events = record { 0 = bit_and events (poll_in + poll_out + poll_err + poll_hup + poll_nval) }

-- what a list of entries asks
abbrev pub asked : List PollEntry → List (ℤ × PollMask)
asked entries = map (λ e. (e.fd, mask_of_events e.events)) entries

-- POSIX.1-2017, poll: what was found, in each entry's revents
abbrev pub marked : List PollEntry → List PollMask → List PollEntry
marked [] masks = []
marked (e ∷ es) [] = e ∷ es
marked (e ∷ es) (m ∷ ms) = record e { revents = m.0 } ∷ marked es ms

-- what was found is in the entries, or they stay
abbrev pub entries_after : {A : Type 0} → List PollEntry → Reply A → List PollEntry
entries_after old (Masks ready masks) = marked old masks
entries_after old other = old
