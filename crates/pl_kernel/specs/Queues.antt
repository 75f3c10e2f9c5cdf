-- In which queues of its nodes a call waits.
use Rattle.std.specs.Prelude.{ℕ, ℤ, pos, negsuc, ◌+◌, ◌-◌, Bool, true, false, ◌&&◌, ◌||◌, not, nat_eq, nat_le, nat_lt, List, [], ◌∷◌, ◌++◌, length, map, Option, option_map, if◌then◌else◌}
use Rattle.std.specs.List.{list_any, flat_map}
use Rattle.std.specs.declared.option.Option.TheVariants.{None, Some}
use Rattle.pl_model.specs.declared.calls.Call.{Call}
use Rattle.pl_model.specs.declared.calls.Call.TheVariants as call
use Rattle.pl_model.specs.declared.calls.Mode.{Mode}
use Rattle.pl_model.specs.declared.cases.Polled.{Polled}
use Rattle.pl_model.specs.declared.flags.PollMask.{PollMask}
use Rattle.pl_model.specs.Numbers.{pipe_buf}
use Rattle.pl_model.specs.Modes as modes
use Rattle.pl_model.specs.Flags.{has, poll_in, poll_out}
use Rattle.pl_model.specs.Poll.{bits_if, is_ready, mask_of}
use Rattle.pl_model.specs.Keys.{Node, PipeNode, FileNode}
use Rattle.pl_model.specs.State.{Core, Description}
use Rattle.pl_model.specs.Live.{readers}
use Rattle.pl_model.specs.Trial.{pipe_at}
use Rattle.pl_model.specs.Transfer.{room}
use Rattle.pl_model.specs.Numbered.{numbers}
use Rattle.pl_kernel.specs.ToldNodes.{key_of}

-- The queue of a call, as a number: that of the reads, that of the writes above PIPE_BUF, and one for each size of a lesser write. In the third one
-- each call is asked by itself.
abbrev pub reads : ℕ
reads = 0

abbrev pub large_writes : ℕ
large_writes = 1

abbrev pub others : ℕ
others = 2

-- that of the splices from a pipe to a file
abbrev pub to_files : ℕ
to_files = 3

abbrev pub writes_of : ℕ → ℕ
writes_of n = n + 64

-- POSIX.1-2017, write: up to PIPE_BUF the bytes go in whole, so that it depends on their count whether they do.
abbrev pub queue_of_len : ℕ → ℕ
queue_of_len n = if nat_le n pipe_buf then writes_of n else large_writes

-- no poll, no splice and no tee
abbrev pub queue_of : {A : Type 0} → Call A → ℕ
queue_of (call.Read fd n) = reads
queue_of (call.Write fd bytes) = queue_of_len (length bytes)
queue_of other = others

-- A poll waits in a queue of each node of which it asks something: one for each kind of end, with each choice of what is asked.
abbrev pub polls : ℕ
polls = 16

abbrev pub is_polls : (queue : ℕ) → Bool
is_polls queue = nat_le polls queue && nat_lt queue 32

-- the first of those that ask something of a pipe
abbrev pub polls_of_pipes : ℕ
polls_of_pipes = 20

abbrev pub kind_of : Mode → ℕ
kind_of Mode.Read = 4
kind_of Mode.Write = 8
kind_of Mode.Both = 12

abbrev pub queue_of_end : Mode → (asked : PollMask) → ℕ
queue_of_end mode asked = polls + (kind_of mode + (bits_if (has asked.0 poll_in) 1 + bits_if (has asked.0 poll_out) 2))

-- of a file it is all that counts whether something is found, which doesn't change
abbrev pub queue_of_entry : Node numbers → Mode → (asked : PollMask) → ℕ
queue_of_entry (PipeNode p) mode asked = queue_of_end mode asked
queue_of_entry (FileNode f) mode asked = polls + bits_if (is_ready (mask_of Polled.File asked)) 1

abbrev pub found_of_file : (kind : ℕ) → Option Bool
found_of_file kind = if nat_lt kind 4 then Some (nat_eq kind 1) else None

abbrev pub mode_of : (kind : ℕ) → Mode
mode_of kind = if nat_lt kind 8 then Mode.Read else if nat_lt kind 12 then Mode.Write else Mode.Both

abbrev pub rest_of : (kind : ℕ) → ℕ
rest_of kind = if nat_lt kind 8 then kind - 4 else if nat_lt kind 12 then kind - 8 else kind - 12

abbrev pub asks_in : (rest : ℕ) → Bool
asks_in rest = nat_eq rest 1 || nat_lt 2 rest

abbrev pub asks_out : (rest : ℕ) → Bool
asks_out rest = nat_lt 1 rest

-- POSIX.1-2017, poll: something is found of a pipe by an end of this mode, where it is asked whether it can be read, and written to
abbrev pub is_end_ready : {A : Type 0} → Core A numbers → (p : ℕ) → Mode → (to_read to_write : Bool) → Bool
is_end_ready c p mode to_read to_write =
    let pipe = pipe_at c p in
    (modes.reads mode && ((to_read && nat_lt 0 (length pipe.bytes)) || pipe.hung)) || (modes.writes mode && ((to_write && nat_le pipe_buf (room pipe)) || not (nat_lt 0 (readers c p))))

-- the polls of the queue find something of the node of this key
abbrev pub finds : {A : Type 0} → Core A numbers → (key queue : ℕ) → Bool
finds c key queue =
    let kind = queue - polls in
    if nat_lt kind 4 then nat_eq kind 1 else is_end_ready c key (mode_of kind) (asks_in (rest_of kind)) (asks_out (rest_of kind))

-- A splice or a tee from a pipe to another waits at each of the two, in a queue of those that go between the same two.
abbrev pub to_pipes : ℕ
to_pipes = 4294967296

abbrev pub from_pipes : ℕ
from_pipes = 8589934592

abbrev pub to_pipe : (q : ℕ) → ℕ
to_pipe q = if nat_lt q to_pipes then to_pipes + q else others

abbrev pub from_pipe : (p : ℕ) → ℕ
from_pipe p = if nat_lt p to_pipes then from_pipes + p else others

-- where it takes from
abbrev pub queue_at_source : (from to : Node numbers) → ℕ
queue_at_source (PipeNode p) (PipeNode q) = to_pipe q
queue_at_source (PipeNode p) (FileNode f) = to_files
queue_at_source (FileNode f) to = others

-- and where it gives to
abbrev pub queue_at_target : (from to : Node numbers) → ℕ
queue_at_target (PipeNode p) (PipeNode q) = from_pipe p
queue_at_target (PipeNode p) (FileNode f) = others
queue_at_target (FileNode f) to = others

-- the last one of the queues for whose calls one answers that waits in this queue and can't get on: a write that is too large leaves no room for
-- a larger one
abbrev pub answers_to : (queue : ℕ) → ℕ
answers_to queue = if nat_le 64 queue && nat_le queue 4160 then 4160 else queue

-- What a description is on, and its mode, as no step changes them.
abbrev pub End : Type 0
End = Node numbers × Mode

abbrev pub end_of : Description numbers → End
end_of x = (x.node, x.mode)

abbrev pub ends : {A : Type 0} → Core A numbers → (kept : List ℕ) → List (Option End)
ends c kept = map (λ d. option_map end_of (c.descriptions d)) kept

-- At which keys a call waits, in which queues: an end that it keeps, and its queue.
abbrev pub place_in : (queue : ℕ) → Option End → List (ℕ × ℕ)
place_in queue None = []
place_in queue (Some e) = (key_of e.0, queue) ∷ []

abbrev pub entry_place : (asked : PollMask) → Option End → List (ℕ × ℕ)
entry_place asked None = []
entry_place asked (Some e) = (key_of e.0, queue_of_entry e.0 e.1 asked) ∷ []

-- POSIX.1-2017, poll: of an entry with a negative descriptor nothing is asked
abbrev pub is_skipped : (fd : ℤ) → Bool
is_skipped (pos n) = false
is_skipped (negsuc n) = true

-- of a poll, where each entry whose descriptor isn't negative keeps the next
abbrev pub poll_places : List (ℤ × PollMask) → List (Option End) → List (ℕ × ℕ)
poll_places [] es = []
poll_places ((negsuc n, asked) ∷ entries) es = poll_places entries es
poll_places ((pos fd, asked) ∷ entries) [] = []
poll_places ((pos fd, asked) ∷ entries) (e ∷ es) = entry_place asked e ++ poll_places entries es

-- of a splice or a tee
abbrev pub move_places : List (Option End) → List (ℕ × ℕ)
move_places (Some a ∷ Some b ∷ es) = (key_of a.0, queue_at_source a.0 b.0) ∷ (key_of b.0, queue_at_target a.0 b.0) ∷ []
move_places es = []

abbrev pub places : {A : Type 0} → Call A → List (Option End) → List (ℕ × ℕ)
places (call.Poll entries wait) es = poll_places entries es
places (call.Splice from from_offset to to_offset len flags) es = move_places es
places (call.Tee from to len flags) es = move_places es
places other es = flat_map (place_in (queue_of other)) es

-- one of them is this
abbrev pub is_place : List (ℕ × ℕ) → (key queue : ℕ) → Bool
is_place ps key queue = list_any (λ p. nat_eq p.0 key && nat_eq p.1 queue) ps

-- each entry of a poll whose descriptor isn't negative has what it keeps
abbrev pub are_kept : List (ℤ × PollMask) → List (Option End) → Bool
are_kept [] es = true
are_kept ((negsuc n, asked) ∷ entries) es = are_kept entries es
are_kept ((pos fd, asked) ∷ entries) [] = false
are_kept ((pos fd, asked) ∷ entries) (e ∷ es) = are_kept entries es

abbrev pub is_placed : {A : Type 0} → Call A → List (Option End) → Bool
is_placed (call.Poll entries wait) es = are_kept entries es
is_placed other es = true
