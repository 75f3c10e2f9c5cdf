-- What a resume of a read or a write, and an interrupt, come to at the kernel's keys.
use Rattle.std.proofs.Common.{◌≡◌, ℕ, ◌<◌, true, false, List, [], Some, None, refl, sym, ◌∙◌, ap, nat_eq, nat_lt, length, take, arith}
use Rattle.std.specs.Prelude.{if◌then◌else◌, ◌≤◌, ℤ, slice_range}
use Rattle.pl_model.specs.declared.calls.Call.TheVariants.{Read, Write}
use Rattle.pl_model.specs.declared.calls.Step.TheVariants.{Resume, Interrupt}
use Rattle.pl_model.specs.declared.cases.ReadCase.{ReadCase}
use Rattle.pl_model.specs.declared.cases.WriteCase.{WriteCase}
use Rattle.pl_model.specs.declared.replies.Reply.{Reply}
use Rattle.pl_model.specs.declared.replies.Reply.TheVariants.{Bytes, Count, Fault, Parked, NoCall}
use Rattle.pl_model.specs.declared.replies.Errno.TheVariants.{EPIPE, EINTR}
use Rattle.pl_model.specs.Map.{get, put, change_at}
use Rattle.pl_model.specs.Keys.{Plain}
use Rattle.pl_model.specs.State.{Core, Pipe, set_pipe}
use Rattle.pl_model.specs.Settle.{settle}
use Rattle.pl_model.specs.Trial.{Done, Wait, Flow, loses, gains, flowed}
use Rattle.pl_model.specs.Transfer.{room, count, read_row, read_case, write_row, write_case}
use Rattle.pl_model.specs.Step.{core_step, happen, ended, stepped, interrupted, try, without_call, parked_again}
use Rattle.pl_model.specs.Numbered.{numbers}
use Rattle.pl_model.proofs.settling.FromSettled.{settle-before, had-writer-put}
use Rattle.pl_model.specs.Packets.{lose, gain, spent, front}
use Rattle.pl_parked.specs.declared.call.ParkedCall.{ParkedCall}
use Rattle.pl_desc.specs.Rows.{at}
use Rattle.pl_state.specs.Contents.{Contents, Nodes, with_pipes, waiting_of, core_of}
use Rattle.pl_state.specs.LastHold.{has_reader, has_writer}
use Rattle.pl_state.specs.Sound.{IsSound, MayWait}
use Rattle.pl_state.specs.Makes.{MakesAtKeys, MayWantAtKeys}
use Rattle.pl_state.proofs.Known.{CallOnPipe}
use Rattle.pl_state.proofs.by_call.Begun.{does_plain, does_same, wants_plain}
use Rattle.pl_state.proofs.by_call.Resumed.{parked-is, came, ends_still, waits_still}
use Rattle.pl_state.proofs.by_call.Moving.{changed_is, flowed-out, flowed-in}
use Rattle.pl_transfers.proofs.by_call.Trying.{read-tries, write-tries}
use Rattle.pl_transfers.proofs.by_call.Again.{again_moves}

pub some_taken : (n : ℕ) → 0 < n → nat_lt 0 n ≡ true
some_taken n l = grind arith

pub none_taken : (n : ℕ) → n ≤ 0 → nat_lt 0 n ≡ false
none_taken n l = grind arith

module _ {A : Type 0} (k : Contents A) (sound : IsSound A k) (n : ℕ) where
  abbrev c : Core A numbers
  c = core_of k

  pub interrupt-none : get nat_eq k.calls.calls n ≡ None → MakesAtKeys {A = A} k (Interrupt n) NoCall k
  unfolding core_step happen
  interrupt-none none = does_same k sound (Interrupt n) (stepped c NoCall) NoCall (ap (λ o. Plain (ended c (interrupted c n o))) (parked-is k sound n None none)) refl refl

  module _ (w : ParkedCall A) (here : get nat_eq k.calls.calls n ≡ Some w) where
    pub interrupt-ends : (new : Contents A) → core_of new ≡ settle c (without_call c n) → MakesAtKeys k (Interrupt n) (if nat_lt 0 w.taken then Count w.taken false else Fault EINTR) new
    unfolding core_step happen
    interrupt-ends new is = does_plain k new (Interrupt n) _ _ (ap (λ o. Plain (ended c (interrupted c n o))) (parked-is k sound n (Some w) here)) refl is

    -- a try that moved bytes ends the call
    module _ (p : ℕ) (x : Pipe) (is : at k.nodes.pipes p ≡ Some x) (y : Pipe) (same_hung : y.hung ≡ x.hung) where
      abbrev moved : Core A numbers
      moved = set_pipe c p y

      pipe_is : c.pipes p ≡ Some x
      unfolding core_of
      pipe_is = is

      ends_moved : (flow : Flow numbers) (reply : Reply A) (between new : Contents A) → try c (waiting_of w) w.call true ≡ Done c flow reply → flowed c flow ≡ moved
          → core_of between ≡ moved → core_of new ≡ settle (core_of between) (without_call (core_of between) n) → MakesAtKeys k (Resume n) reply new
      ends_moved flow reply between new e f between_is new_is = does_plain k new (Resume n) _ reply (came k sound n w here (Done c flow reply) e) refl
          (new_is ∙ ap (λ z. settle z (without_call z n)) between_is ∙ before is ∙ ap (λ z. settle c (without_call z n)) (sym f))
        where
          before : at k.nodes.pipes p ≡ Some x → settle moved (without_call moved n) ≡ settle c (without_call moved n)
          before is = settle-before moved c (without_call moved n) (had-writer-put c p x y same_hung pipe_is)

module _ {A : Type 0} (k : Contents A) (o : CallOnPipe k) where
  open o use {sound, number as n, call as w, here, key as d, kept, pipe as p, on, held as y, there as is}

  abbrev state : Core A numbers
  state = core_of k

  module _ (fd : ℤ) (m : ℕ) (asked : w.call ≡ Read fd m) where
    abbrev read : ReadCase
    read = read_case m (front y) (has_writer k.opened p)

    pub tries_read : (row : ReadCase) → read ≡ row → try state (waiting_of w) w.call true ≡ read_row state p y row
    tries_read row r = ap (λ z. try state (waiting_of w) z true) asked ∙ read-tries k sound d p on y is (waiting_of w) kept fd m true ∙ ap (read_row state p y) r

    pub resume-read-end : (new : Contents A) → read ≡ ReadCase.EndOfFile → core_of new ≡ settle state (without_call state n) → MakesAtKeys k (Resume n) (Bytes []) new
    resume-read-end new r new_is = ends_still k sound n w here (Bytes []) new (came k sound n w here _ (tries_read ReadCase.EndOfFile r)) new_is

    pub resume-read-waits : read ≡ ReadCase.Waits → w.taken ≡ 0 → MakesAtKeys k (Resume n) (Parked n) k
    resume-read-waits r none = waits_still k sound n w here 0 none (came k sound n w here _ (tries_read ReadCase.Waits r))

    module _ (count_of : ℕ) (r : read ≡ ReadCase.Gives count_of) where
      pub resume-read-gives : (bytes : List ℕ) → bytes ≡ take count_of y.bytes → (pipes : Nodes) → at pipes.pipes ≡ change_at p (λ x. lose (spent x count_of) x) (at k.nodes.pipes)
          → (new : Contents A) → core_of new ≡ settle (core_of (with_pipes k pipes)) (without_call (core_of (with_pipes k pipes)) n) → MakesAtKeys k (Resume n) (Bytes bytes) new
      resume-read-gives bytes b pipes after new new_is =
          ends_moved k sound n w here p y is (lose (spent y count_of) y) refl (loses p (spent y count_of)) (Bytes bytes) (with_pipes k pipes) new
          (tries_read (ReadCase.Gives count_of) r ∙ ap (λ z. Done state (loses p (spent y count_of)) (Bytes z)) (sym b))
          (flowed-out k p y is (spent y count_of))
          (changed_is k sound d p on y is pipes (λ x. lose (spent x count_of) x) refl after) new_is

      pub resume-read-wants : MayWantAtKeys k (Resume n)
      resume-read-wants = wants_plain k k (Resume n) _ (came k sound n w here _ (tries_read (ReadCase.Gives count_of) r)) refl

  module _ (fd : ℤ) (bytes : List ℕ) (asked : w.call ≡ Write fd bytes) where
    abbrev pub Comes_to : WriteCase → Type 0
    Comes_to row = write_case (length bytes) w.taken (room y) (has_reader k.opened p) true ≡ row

    pub tries_write : (row : WriteCase) → Comes_to row → try state (waiting_of w) w.call true ≡ write_row state p bytes w.taken row
    tries_write row r = ap (λ z. try state (waiting_of w) z true) asked ∙ write-tries k sound d p on y is (waiting_of w) kept fd bytes true ∙ ap (write_row state p bytes w.taken) r

    pub resume-write-broken : (new : Contents A) → Comes_to WriteCase.Broken → core_of new ≡ settle state (without_call state n) → MakesAtKeys k (Resume n) (Fault EPIPE) new
    resume-write-broken new r new_is = ends_still k sound n w here (Fault EPIPE) new (came k sound n w here _ (tries_write WriteCase.Broken r)) new_is

    pub resume-write-cut : (new : Contents A) → Comes_to WriteCase.CutShort → core_of new ≡ settle state (without_call state n) → MakesAtKeys k (Resume n) (Count w.taken true) new
    resume-write-cut new r new_is = ends_still k sound n w here (Count w.taken true) new (came k sound n w here _ (tries_write WriteCase.CutShort r)) new_is

    module _ (from to : ℕ) (part : List ℕ) (is_part : part ≡ slice_range bytes from to) (pipes : Nodes) (after : at pipes.pipes ≡ change_at p (gain part) (at k.nodes.pipes)) where
      pub resume-write-ends : Comes_to (WriteCase.Ends from to) → (new : Contents A) → core_of new ≡ settle (core_of (with_pipes k pipes)) (without_call (core_of (with_pipes k pipes)) n) → MakesAtKeys k (Resume n) (Count to false) new
      resume-write-ends r new new_is =
          ends_moved k sound n w here p y is (gain part y) refl (gains p part) (Count to false) (with_pipes k pipes) new
          (tries_write (WriteCase.Ends from to) r ∙ ap (λ z. Done state (gains p z) (count to)) (sym is_part))
          (flowed-in k p y is part)
          (changed_is k sound d p on y is pipes (gain part) refl after) new_is

      pub resume-write-waits : Comes_to (WriteCase.Waits from to) → MayWait w.call to → MakesAtKeys k (Resume n) (Parked n) (record (with_pipes k pipes) { calls = record k.calls { calls = put nat_eq k.calls.calls n (record w { taken = to }) } })
      resume-write-waits r may = does_plain k _ (Resume n) _ (Parked n)
          (came k sound n w here (Wait state (gains p part) to) (tries_write (WriteCase.Waits from to) r ∙ ap (λ z. Wait state (gains p z) to) (sym is_part))) refl
          (again_moves k o to may part pipes after ∙ ap (λ z. settle state (parked_again z n (waiting_of (record w { taken = to })))) (sym (flowed-in k p y is part)))

    pub resume-write-ends-wants : (from to : ℕ) → Comes_to (WriteCase.Ends from to) → MayWantAtKeys k (Resume n)
    resume-write-ends-wants from to r = wants_plain k k (Resume n) _ (came k sound n w here _ (tries_write (WriteCase.Ends from to) r)) refl

    pub resume-write-waits-wants : (from to : ℕ) → Comes_to (WriteCase.Waits from to) → MayWantAtKeys k (Resume n)
    resume-write-waits-wants from to r = wants_plain k k (Resume n) _ (came k sound n w here _ (tries_write (WriteCase.Waits from to) r)) refl
