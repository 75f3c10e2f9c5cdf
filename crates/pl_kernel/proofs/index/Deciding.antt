-- When the calls of a queue can make progress.
use Rattle.std.proofs.Common.{◌≡◌, ℕ, ℤ, pos, negsuc, zero, suc, ◌+◌, ◌-◌, ◌<◌, ◌≤◌, Bool, true, false, cond, List, [], ◌∷◌, length, map, Option, refl, sym, ◌∙◌, ap, nat_eq, nat_lt, nat_le, arith}
use Rattle.std.specs.Prelude.{not, ◌||◌, ◌&&◌, ◌==◌, min, option_map, option_and_then}
use Rattle.std.specs.List.{list_any}
use Rattle.std.specs.declared.option.Option.TheVariants.{None, Some}
use Rattle.std.proofs.lemmas.Bool.Decides.{nat_tests}
use Rattle.pl_model.specs.declared.calls.Call.{Call}
use Rattle.pl_model.specs.declared.calls.Call.TheVariants as call
use Rattle.pl_model.specs.declared.cases.ReadCase.{ReadCase}
use Rattle.pl_model.specs.declared.cases.WriteCase.{WriteCase}
use Rattle.pl_model.specs.declared.cases.MoveCase.{MoveCase}
use Rattle.pl_model.specs.declared.cases.Source.{Source}
use Rattle.pl_model.specs.declared.cases.Target.{Target}
use Rattle.pl_model.specs.declared.flags.PollMask.{PollMask}
use Rattle.pl_model.specs.declared.flags.SpliceFlags.{SpliceFlags}
use Rattle.pl_model.specs.declared.replies.Reply.TheVariants.{Fault}
use Rattle.pl_model.specs.declared.replies.Errno.TheVariants.{EINVAL}
use Rattle.pl_model.specs.Numbers.{pipe_buf}
use Rattle.pl_model.specs.Keys.{PipeNode, FileNode}
use Rattle.pl_model.specs.State.{Core, Pipe, Description, Open, Waiting, described}
use Rattle.pl_model.specs.Live.{readers, writers}
use Rattle.pl_model.specs.Packets.{front, is_byte_queue}
use Rattle.pl_model.specs.Trial.{Trial, Done, Wait, still, pipe_at}
use Rattle.pl_model.specs.Splice.{Side, side, is_packet_pipe, move_case, move_row, source_of, target_of, try_move}
use Rattle.pl_model.specs.Poll.{masks, is_ready, masks_reply, mask_at, try_poll}
use Rattle.pl_model.specs.Transfer.{room, read_row, write_row, read_case, write_case, read_pipe, write_pipe, read_node, write_node}
use Rattle.pl_model.specs.Step.{with_kept, with_both, kept_at, try}
use Rattle.pl_model.specs.Numbered.{numbers}
use Rattle.pl_model.specs.Waking.{gets_on, progresses}
use Rattle.pl_model.specs.Keys.{Keys}

module _ {A : Type 0} {K : Keys} (s : Core A K) (p : K.Pipe) where
  -- POSIX.1-2017, read: a read of the pipe gets bytes, or the end of the file.
  abbrev pub is_readable : Bool
  is_readable = nat_lt 0 (front (pipe_at s p)) || not (nat_lt 0 (writers s p))

  -- POSIX.1-2017, write: so many bytes fit at once, or nobody reads.
  abbrev pub has_room_for : ℕ → Bool
  has_room_for n = not (nat_lt 0 (readers s p)) || nat_le n (room (pipe_at s p))

module _ {A : Type 0} {K : Keys} (s : Core A K) where
  -- splice(2), tee(2): a try from a pipe to another comes to an end. It fails at once where one of them is a packet pipe.
  abbrev pub is_move_ended : (from to : K.Pipe) → Bool
  is_move_ended p q =
      (not (is_byte_queue (pipe_at s p)) || not (is_byte_queue (pipe_at s q)))
      || (not (nat_lt 0 (readers s q)) || ((length (pipe_at s p).bytes == 0 && not (nat_lt 0 (writers s p))) || (not (length (pipe_at s p).bytes == 0) && not (room (pipe_at s q) == 0))))

  -- The same of a splice from a pipe to a file.
  abbrev pub is_drained : (from : K.Pipe) → Bool
  is_drained p = not (is_byte_queue (pipe_at s p)) || (not (length (pipe_at s p).bytes == 0) || not (nat_lt 0 (writers s p)))

-- What a poll asks of which description that it keeps; of a descriptor that isn't open none. A negative descriptor asks nothing.
abbrev pub asked_at : {D : Type 0} → List (ℤ × PollMask) → List D → List (Option D × PollMask)
asked_at [] kept = []
asked_at ((negsuc n, mask) ∷ entries) kept = asked_at entries kept
asked_at ((pos fd, mask) ∷ entries) [] = (None, mask) ∷ asked_at entries []
asked_at ((pos fd, mask) ∷ entries) (d ∷ kept) = (Some d, mask) ∷ asked_at entries kept

-- POSIX.1-2017, poll: something is found of what it asks there.
abbrev pub is_found : {A : Type 0} → Core A numbers → Option ℕ × PollMask → Bool
is_found c asked = is_ready (mask_at c (option_and_then (described c) asked.0) asked.1)

-- The description is on the pipe, and the only one that the call keeps.
pub record WaitsAt {A : Type 0} (c : Core A numbers) (w : Waiting A numbers) (p : ℕ) : Type 0 where
  pub key : ℕ
  pub description : Description numbers
  pub kept : w.kept ≡ key ∷ []
  pub here : c.descriptions key ≡ Some description
  pub on : description.node ≡ PipeNode p

module _ {A : Type 0} (c : Core A numbers) where
  -- a read gets on if there is something to get, or the end of the file
  read-gets_on : (p : ℕ) (pipe : Pipe) (n held : ℕ) (has_writer : Bool) → gets_on {A = A} 0 (read_row c p pipe (read_case n held has_writer)) ≡ (nat_lt 0 held || not has_writer)
  read-gets_on p pipe n held has_writer = by (nat_lt 0 held) has_writer
    where
      by : (some writer : Bool) → gets_on {A = A} 0 (read_row c p pipe (cond some (ReadCase.Gives (min n held)) (cond (not writer) ReadCase.EndOfFile ReadCase.Waits))) ≡ (some || not writer)
      by true writer = refl
      by false true = refl
      by false false = refl

  -- what a call tries on the only description that it keeps
  tried-on : (w : Waiting A numbers) (p : ℕ) (h : WaitsAt c w p) (next : Open numbers → Trial A numbers) → with_kept c (kept_at c w.kept 0) next ≡ next (record { key = h.key; description = h.description })
  tried-on w p h next =
      ap (λ kept. with_kept c (kept_at c kept 0) next) h.kept
      ∙ ap (λ o. with_kept c (option_map (λ x. record { key = h.key; description = x }) o) next) h.here

  pub reads-decide : (w : Waiting A numbers) (p n : ℕ) (fd : ℤ) → WaitsAt c w p → w.call ≡ call.Read fd n → w.taken ≡ 0 → progresses c (Some w) ≡ is_readable c p
  unfolding try read_pipe
  reads-decide w p n fd h is none =
      ap (λ (x : Call A). gets_on w.taken (try c w x true)) is
      ∙ ap (gets_on w.taken) (tried-on w p h (λ o. read_node c o.key o.description o.description.node n))
      ∙ ap (λ node. gets_on w.taken (read_node c h.key h.description node n)) h.on
      ∙ ap (λ t. gets_on t (read_row c p (pipe_at c p) (read_case n (front (pipe_at c p)) (nat_lt 0 (writers c p))))) none
      ∙ read-gets_on p (pipe_at c p) n (front (pipe_at c p)) (nat_lt 0 (writers c p))

  -- a write of at most PIPE_BUF bytes gets on if all fit, or nobody reads
  small-row : (p : ℕ) (bytes : List ℕ) (n : ℕ) (rest : WriteCase) (reader few fits : Bool) → few ≡ true →
      gets_on {A = A} 0 (write_row c p bytes 0 (cond (not reader && true) WriteCase.Broken (cond (not reader) WriteCase.CutShort (cond (few && fits) (WriteCase.Ends 0 n) (cond few (WriteCase.Waits 0 0) rest)))))
      ≡ (not reader || fits)
  small-row p bytes n rest false few fits e = refl
  small-row p bytes n rest true true true e = refl
  small-row p bytes n rest true true false e = refl
  small-row p bytes n rest true false fits e = absurd (cc)

  within : (a b : ℕ) → a ≤ b → nat_le a b ≡ true
  within a b l = grind (arith, nat_tests)

  -- a number grows by what is added, if that is not 0
  more : (t left : ℕ) → not (nat_eq (t + left) t) ≡ nat_le 1 left
  more t zero = ap not (let e : nat_eq (t + 0) t ≡ true = grind (arith, nat_tests) in e)
  more t (suc left) = ap not (let e : nat_eq (t + suc left) t ≡ false = grind (arith, nat_tests) in e) ∙ sym (within 1 (suc left) (omega arith))

  -- a larger one if a byte fits, or nobody reads
  large-row : (p : ℕ) (bytes : List ℕ) (n t left : ℕ) (first second third : WriteCase) (reader untaken few all fits : Bool) → few ≡ false → (fits ≡ true → 1 ≤ left) →
      gets_on {A = A} t (write_row c p bytes t (cond (not reader && untaken) WriteCase.Broken (cond (not reader) WriteCase.CutShort (cond (few && all) first (cond few second (cond fits (WriteCase.Ends t n) (WriteCase.Waits t (t + left))))))))
      ≡ (not reader || nat_le 1 left)
  large-row p bytes n t left first second third false true few all fits e f = refl
  large-row p bytes n t left first second third false false few all fits e f = refl
  large-row p bytes n t left first second third true untaken true all fits e f = absurd (cc)
  large-row p bytes n t left first second third true untaken false all true e f = sym (within 1 left (f refl))
  large-row p bytes n t left first second third true untaken false all false e f = more t left

  writes : (w : Waiting A numbers) (p : ℕ) (fd : ℤ) (bytes : List ℕ) → WaitsAt c w p → w.call ≡ call.Write fd bytes →
      progresses c (Some w) ≡ gets_on {A = A} w.taken (write_row c p bytes w.taken (write_case (length bytes) w.taken (room (pipe_at c p)) (nat_lt 0 (readers c p)) true))
  unfolding try write_pipe
  writes w p fd bytes h is =
      ap (λ (x : Call A). gets_on w.taken (try c w x true)) is
      ∙ ap (gets_on w.taken) (tried-on w p h (λ o. write_node c o.key o.description o.description.node bytes w.taken true))
      ∙ ap (λ node. gets_on w.taken (write_node c h.key h.description node bytes w.taken true)) h.on

  pub small-decide : (w : Waiting A numbers) (p : ℕ) (fd : ℤ) (bytes : List ℕ) → WaitsAt c w p → w.call ≡ call.Write fd bytes → w.taken ≡ 0 → length bytes ≤ pipe_buf → progresses c (Some w) ≡ has_room_for c p (length bytes)
  small-decide w p fd bytes h is none few =
      writes w p fd bytes h is
      ∙ ap (λ t. gets_on t (write_row c p bytes t (write_case (length bytes) t (room (pipe_at c p)) (nat_lt 0 (readers c p)) true))) none
      ∙ small-row p bytes (length bytes) _ (nat_lt 0 (readers c p)) (nat_le (length bytes) pipe_buf) (nat_le (length bytes) (room (pipe_at c p))) (within (length bytes) pipe_buf few)

  pub large-decide : (w : Waiting A numbers) (p : ℕ) (fd : ℤ) (bytes : List ℕ) → WaitsAt c w p → w.call ≡ call.Write fd bytes → pipe_buf < length bytes → w.taken < length bytes → progresses c (Some w) ≡ has_room_for c p 1
  large-decide w p fd bytes h is many left =
      writes w p fd bytes h is
      ∙ large-row p bytes (length bytes) w.taken (room (pipe_at c p)) _ _ WriteCase.Broken (nat_lt 0 (readers c p)) (w.taken == 0) (nat_le (length bytes) pipe_buf) (nat_le (length bytes) (room (pipe_at c p))) (nat_le (length bytes - w.taken) (room (pipe_at c p)))
      (above (length bytes) pipe_buf many) (λ fits. some (length bytes - w.taken) (room (pipe_at c p)) (omega (arith, left)) fits)
    where
      above : (a b : ℕ) → b < a → nat_le a b ≡ false
      above a b l = grind (arith, nat_tests)

      some : (a b : ℕ) → 1 ≤ a → nat_le a b ≡ true → 1 ≤ b
      some a b l fits = grind (arith, nat_tests)

-- The two descriptions that the call keeps.
pub record WaitsBetween {A : Type 0} (c : Core A numbers) (w : Waiting A numbers) : Type 0 where
  pub from_key : ℕ
  pub to_key : ℕ
  pub from : Description numbers
  pub to : Description numbers
  pub kept : w.kept ≡ from_key ∷ to_key ∷ []
  pub from_here : c.descriptions from_key ≡ Some from
  pub to_here : c.descriptions to_key ≡ Some to

module _ {A : Type 0} (c : Core A numbers) where
  -- a move comes to an end but where it waits
  between-gets_on : (from to : Side numbers) (is_tee packets has_reader has_writer : Bool) (held free len : ℕ) →
      gets_on {A = A} 0 (cond packets (Done c still (Fault EINVAL)) (move_row c from to is_tee (move_case (Source.Pipe held has_writer) (Target.Pipe free has_reader) len)))
      ≡ (packets || (not has_reader || ((held == 0 && not has_writer) || (not (held == 0) && not (free == 0)))))
  between-gets_on from to is_tee true has_reader has_writer held free len = refl
  between-gets_on from to is_tee false false has_writer held free len = refl
  between-gets_on from to is_tee false true has_writer held free len = by (held == 0) has_writer (free == 0)
    where
      by : (none writer full : Bool) → gets_on {A = A} 0 (move_row c from to is_tee (cond (none && not writer) MoveCase.EndOfInput (cond none MoveCase.Waits (cond full MoveCase.Waits (cond full MoveCase.TooBig (MoveCase.Moves (min len (min held free))))))))
          ≡ ((none && not writer) || (not none && not full))
      by true true full = refl
      by true false full = refl
      by false writer true = refl
      by false writer false = refl

  -- one to a file waits where nothing is held, and somebody may write
  drained-gets_on : (from to : Side numbers) (is_tee packets has_writer : Bool) (held free len : ℕ) →
      gets_on {A = A} 0 (cond packets (Done c still (Fault EINVAL)) (move_row c from to is_tee (move_case (Source.Pipe held has_writer) (Target.File free) len))) ≡ (packets || (not (held == 0) || not has_writer))
  drained-gets_on from to is_tee true has_writer held free len = refl
  drained-gets_on from to is_tee false has_writer held free len = by (held == 0) has_writer (free == 0)
    where
      by : (none writer full : Bool) → gets_on {A = A} 0 (move_row c from to is_tee (cond (none && not writer) MoveCase.EndOfInput (cond none MoveCase.Waits (cond full MoveCase.TooBig (MoveCase.Moves (min len (min held free)))))))
          ≡ (not none || not writer)
      by true true full = refl
      by true false full = refl
      by false writer true = refl
      by false writer false = refl

  module _ (w : Waiting A numbers) (h : WaitsBetween c w) (from_offset to_offset : Option ℕ) (len : ℕ) (is_tee : Bool) where
    abbrev a : Side numbers
    a = side (record { key = h.from_key; description = h.from }) from_offset

    abbrev b : Side numbers
    b = side (record { key = h.to_key; description = h.to }) to_offset

    both-on : (next : Open numbers → Open numbers → Trial A numbers) → with_both c w.kept next ≡ next (record { key = h.from_key; description = h.from }) (record { key = h.to_key; description = h.to })
    both-on next =
        ap (λ kept. with_both c kept next) h.kept
        ∙ ap (λ o. with_kept c (option_map (λ x. record { key = h.from_key; description = x }) o) (λ a. with_kept c (described c h.to_key) (next a))) h.from_here
        ∙ ap (λ o. with_kept c (option_map (λ x. record { key = h.to_key; description = x }) o) (next (record { key = h.from_key; description = h.from }))) h.to_here

    abbrev tries : Trial A numbers
    tries = with_both c w.kept (λ a b. try_move c (side a from_offset) (side b to_offset) len is_tee)

    between : (p q : ℕ) → h.from.node ≡ PipeNode p → h.to.node ≡ PipeNode q → gets_on {A = A} 0 tries ≡ is_move_ended c p q
    unfolding try_move
    between p q from_on to_on =
        ap (gets_on 0) (both-on (λ a b. try_move c (side a from_offset) (side b to_offset) len is_tee))
        ∙ (λ i. gets_on {A = A} 0 (cond (is_packet_pipe c (from_on i) || is_packet_pipe c (to_on i)) (Done c still (Fault EINVAL)) (move_row c a b is_tee (move_case (source_of c a (from_on i)) (target_of c b (to_on i)) len))))
        ∙ between-gets_on a b is_tee (is_packet_pipe c (PipeNode p) || is_packet_pipe c (PipeNode q)) (nat_lt 0 (readers c q)) (nat_lt 0 (writers c p)) (length (pipe_at c p).bytes) (room (pipe_at c q)) len

    no-more : (x : Bool) → (x || false) ≡ x
    no-more true = refl
    no-more false = refl

    drained : (p f : ℕ) → h.from.node ≡ PipeNode p → h.to.node ≡ FileNode f → gets_on {A = A} 0 tries ≡ is_drained c p
    unfolding try_move
    drained p f from_on to_on =
        ap (gets_on 0) (both-on (λ a b. try_move c (side a from_offset) (side b to_offset) len is_tee))
        ∙ (λ i. gets_on {A = A} 0 (cond (is_packet_pipe c (from_on i) || is_packet_pipe c (to_on i)) (Done c still (Fault EINVAL)) (move_row c a b is_tee (move_case (source_of c a (from_on i)) (target_of c b (to_on i)) len))))
        ∙ (λ i. gets_on {A = A} 0 (cond (no-more (is_packet_pipe c (PipeNode p)) i) (Done c still (Fault EINVAL)) (move_row c a b is_tee (move_case (source_of c a (PipeNode p)) (target_of c b (FileNode f)) len))))
        ∙ drained-gets_on a b is_tee (is_packet_pipe c (PipeNode p)) (nat_lt 0 (writers c p)) (length (pipe_at c p).bytes) _ len

  pub splice-between : (w : Waiting A numbers) (p q : ℕ) (from to : ℤ) (from_offset to_offset : Option ℕ) (len : ℕ) (flags : SpliceFlags) (h : WaitsBetween c w) → h.from.node ≡ PipeNode p → h.to.node ≡ PipeNode q →
      w.call ≡ call.Splice from from_offset to to_offset len flags → w.taken ≡ 0 → progresses c (Some w) ≡ is_move_ended c p q
  unfolding try
  splice-between w p q from to from_offset to_offset len flags h from_on to_on is none = (λ i. gets_on (none i) (try c w (is i) true)) ∙ between w h from_offset to_offset len false p q from_on to_on

  pub tee-between : (w : Waiting A numbers) (p q : ℕ) (from to : ℤ) (len : ℕ) (flags : SpliceFlags) (h : WaitsBetween c w) → h.from.node ≡ PipeNode p → h.to.node ≡ PipeNode q →
      w.call ≡ call.Tee from to len flags → w.taken ≡ 0 → progresses c (Some w) ≡ is_move_ended c p q
  unfolding try
  tee-between w p q from to len flags h from_on to_on is none = (λ i. gets_on (none i) (try c w (is i) true)) ∙ between w h None None len true p q from_on to_on

  pub splice-drained : (w : Waiting A numbers) (p f : ℕ) (from to : ℤ) (from_offset to_offset : Option ℕ) (len : ℕ) (flags : SpliceFlags) (h : WaitsBetween c w) → h.from.node ≡ PipeNode p → h.to.node ≡ FileNode f →
      w.call ≡ call.Splice from from_offset to to_offset len flags → w.taken ≡ 0 → progresses c (Some w) ≡ is_drained c p
  unfolding try
  splice-drained w p f from to from_offset to_offset len flags h from_on to_on is none = (λ i. gets_on (none i) (try c w (is i) true)) ∙ drained w h from_offset to_offset len false p f from_on to_on

  pub tee-drained : (w : Waiting A numbers) (p f : ℕ) (from to : ℤ) (len : ℕ) (flags : SpliceFlags) (h : WaitsBetween c w) → h.from.node ≡ PipeNode p → h.to.node ≡ FileNode f →
      w.call ≡ call.Tee from to len flags → w.taken ≡ 0 → progresses c (Some w) ≡ is_drained c p
  unfolding try
  tee-drained w p f from to len flags h from_on to_on is none = (λ i. gets_on (none i) (try c w (is i) true)) ∙ drained w h None None len true p f from_on to_on

  -- a poll gets on if something is found of an entry
  found-in : (entries : List (ℤ × PollMask)) (kept : List ℕ) → list_any is_ready (masks c entries (map (described c) kept)) ≡ list_any (is_found c) (asked_at entries kept)
  found-in [] kept = refl
  found-in ((negsuc n, mask) ∷ entries) kept = found-in entries kept
  found-in ((pos fd, mask) ∷ entries) [] = ap (λ b. is_found c (None, mask) || b) (found-in entries [])
  found-in ((pos fd, mask) ∷ entries) (d ∷ kept) = ap (λ b. is_found c (Some d, mask) || b) (found-in entries kept)

  polled : (entries : List (ℤ × PollMask)) (kept : List ℕ) → gets_on {A = A} 0 (try_poll c entries kept true) ≡ list_any is_ready (masks c entries (map (described c) kept))
  unfolding try_poll
  polled entries kept = by (list_any is_ready (masks c entries (map (described c) kept)))
    where
      by : (b : Bool) → gets_on {A = A} 0 (cond (b || not true) (Done c still (masks_reply (masks c entries (map (described c) kept)))) (Wait c still 0)) ≡ b
      by true = refl
      by false = refl

  pub polls-decide : (w : Waiting A numbers) (entries : List (ℤ × PollMask)) (wait : Bool) → w.call ≡ call.Poll entries wait → w.taken ≡ 0 → progresses c (Some w) ≡ list_any (is_found c) (asked_at entries w.kept)
  unfolding try
  polls-decide w entries wait is none = (λ i. gets_on (none i) (try c w (is i) true)) ∙ polled entries w.kept ∙ found-in entries w.kept
