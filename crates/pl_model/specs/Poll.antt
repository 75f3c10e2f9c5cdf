-- Polls: what is found of each of several descriptions.
use Rattle.std.specs.Prelude.{ℕ, ℤ, pos, negsuc, ◌+◌, Bool, not, ◌==◌, ◌&&◌, ◌||◌, nat_lt, nat_le, List, [], ◌∷◌, length, map, count_by, Option, if◌then◌else◌, bit_and, bit_or}
use Rattle.std.specs.List.{list_any}
use Rattle.std.specs.declared.option.Option.TheVariants.{None, Some}
use Rattle.pl_model.specs.declared.cases.Polled.{Polled}
use Rattle.pl_model.specs.declared.flags.PollMask.{PollMask}
use Rattle.pl_model.specs.declared.replies.Reply.{Reply}
use Rattle.pl_model.specs.declared.replies.Reply.TheVariants.{Masks}
use Rattle.pl_model.specs.Numbers.{pipe_buf}
use Rattle.pl_model.specs.Modes.{reads, writes}
use Rattle.pl_model.specs.Flags.{has, poll_in, poll_out, poll_err, poll_hup, poll_nval, no_mask}
use Rattle.pl_model.specs.Keys.{Keys, Node, PipeNode, FileNode}
use Rattle.pl_model.specs.State.{Core, Description, Open, described}
use Rattle.pl_model.specs.Live.{readers}
use Rattle.pl_model.specs.Trial.{Trial, Done, Wait, still, pipe_at}
use Rattle.pl_model.specs.Transfer.{room}

-- the bits, where the test holds
abbrev pub bits_if : Bool → ℕ → ℕ
bits_if b bits = if b then bits else 0

-- POSIX.1-2017, poll, POLLIN and POLLHUP, of an end that reads: POLLHUP comes unasked.
abbrev pub reader_bits : (held : ℕ) (hung : Bool) (asked : ℕ) → ℕ
reader_bits held hung asked = bit_or (bits_if (has asked poll_in && nat_lt 0 held) poll_in) (bits_if hung poll_hup)

-- POSIX.1-2017, poll, POLLOUT and POLLERR, of an end that writes: POLLERR comes unasked. That POLLOUT wants room for PIPE_BUF bytes
-- is our own choice.
abbrev pub writer_bits : (room : ℕ) (has_reader : Bool) (asked : ℕ) → ℕ
writer_bits room has_reader asked = bit_or (bits_if (has asked poll_out && nat_le pipe_buf room) poll_out) (bits_if (not has_reader) poll_err)

-- POSIX.1-2017, poll: what is found of an open description of which this was asked. A regular file is always ready.
abbrev pub mask_of : Polled → (asked : PollMask) → PollMask
mask_of Polled.File asked = record { 0 = bit_and asked.0 (poll_in + poll_out) }
mask_of (Polled.Pipe mode held room has_reader hung) asked =
    record { 0 = bit_or (bits_if (reads mode) (reader_bits held hung asked.0)) (bits_if (writes mode) (writer_bits room has_reader asked.0)) }

-- POSIX.1-2017, poll, POLLNVAL: the descriptor isn't open.
abbrev pub not_open : PollMask
not_open = record { 0 = poll_nval }

-- something was found
abbrev pub is_ready : PollMask → Bool
is_ready mask = not (mask.0 == 0)

-- how many masks aren't empty, and all masks
abbrev pub masks_reply : {A : Type 0} → List PollMask → Reply A
masks_reply masks = Masks (count_by is_ready masks) masks

module _ {A : Type 0} {K : Keys} where
  -- what a poll looks at of a description on the node
  abbrev pub polled : Core A K → Description K → Node K → Polled
  polled s description (FileNode f) = Polled.File
  polled s description (PipeNode p) =
      let pipe = pipe_at s p in
      Polled.Pipe description.mode (length pipe.bytes) (room pipe) (nat_lt 0 (readers s p)) pipe.hung

  -- what is found of what a descriptor names
  abbrev pub mask_at : Core A K → Option (Open K) → (asked : PollMask) → PollMask
  mask_at s None asked = not_open
  mask_at s (Some o) asked = mask_of (polled s o.description o.description.node) asked

  -- POSIX.1-2017, poll: the masks of the entries. Each whose descriptor isn't negative takes the next of what these descriptors name, and
  -- nothing is found of a negative one.
  abbrev pub masks : Core A K → List (ℤ × PollMask) → List (Option (Open K)) → List PollMask
  masks s [] named = []
  masks s ((negsuc n, asked) ∷ entries) named = no_mask ∷ masks s entries named
  masks s ((pos fd, asked) ∷ entries) [] = not_open ∷ masks s entries []
  masks s ((pos fd, asked) ∷ entries) (o ∷ named) = mask_at s o asked ∷ masks s entries named

  -- POSIX.1-2017, poll: one try, on the descriptions that were found open. A poll that may wait does so while all masks are empty.
  unfoldable pub try_poll : Core A K → List (ℤ × PollMask) → List K.Description → (may_wait : Bool) → Trial A K
  try_poll s entries kept may_wait =
      let found = masks s entries (map (described s) kept) in
      if list_any is_ready found || not may_wait then Done s still (masks_reply found) else Wait s still 0
