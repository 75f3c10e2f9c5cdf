-- The stream law of whole runs: what is proved of the bytes that go through a pipe, and of those of each call.
use Rattle.std.specs.Prelude.{◌≡◌, ℕ, ℤ, ◌<◌, ◌≤◌, Bool, true, false, nat_eq, List, [], ◌∷◌, ◌++◌, length, take, slice_range, Option, IfSome, if◌then◌else◌}
use Rattle.std.specs.declared.option.Option.TheVariants.{None, Some}
use Rattle.std.specs.List.{concat}
use Rattle.pl_model.specs.declared.calls.Call.{Call}
use Rattle.pl_model.specs.declared.calls.Step.{Step}
use Rattle.pl_model.specs.declared.calls.Step.TheVariants.{Begin}
use Rattle.pl_model.specs.declared.flags.PollMask.{PollMask}
use Rattle.pl_model.specs.declared.flags.SpliceFlags.{SpliceFlags}
use Rattle.pl_model.specs.Numbers.{pipe_buf}
use Rattle.pl_model.specs.Modes.{reads, writes}
use Rattle.pl_model.specs.Map.{get}
use Rattle.pl_model.specs.Keys.{Node, PipeNode}
use Rattle.pl_model.specs.State.{Open, Waiting}
use Rattle.pl_model.specs.Packets.{is_byte_queue}
use Rattle.pl_model.specs.Trial.{pipe_at}
use Rattle.pl_model.specs.Begin.{open_for, may_block}
use Rattle.pl_model.specs.OnNodes.{Keeps, KeepsBoth, OpensBoth}
use Rattle.pl_model.specs.Numbered.{numbers, State, step}
use Rattle.pl_model.specs.Run.{after}
use Rattle.pl_model.specs.InOrder.{AreInOrder}
use Rattle.pl_model.specs.StandsFor.{IsBelowCounters}
use Rattle.pl_model.specs.Stream.{held}
use Rattle.pl_model.specs.Streams.{added}
use Rattle.pl_model.specs.Chunks.{chunks, outs, joined, of, OfCall, tag_of}
use Rattle.pl_model.specs.Carried.{Carries, IsSpliceOrTee, TriesToCarry, AddsFirstBytes, EachAddsFirst}
use Rattle.pl_model.specs.Fates.{Fate, Answered, fate, fate_begun, answers_count, bytes_answered}
use Rattle.pl_model.specs.Transfer.{count}

-- whether a call on what was found open may wait
abbrev pub may_wait : Option (Open numbers) → Bool
may_wait None = false
may_wait (Some o) = may_block o.description

-- a call has no chunks of a pipe, and no outs
abbrev pub MovesNothing : (chunks outs : List (List ℕ)) → Type 0
MovesNothing chunks outs = (chunks ≡ []) × (outs ≡ [])

module _ {A : Type 0} where
  -- What a write of these bytes adds to its pipe, in these chunks, where t of them were taken before.
  pub record Adds (may_wait : Bool) (bytes : List ℕ) (t : ℕ) (chunks : List (List ℕ)) (end : Fate A) : Type 0 where
    -- joined in order, the chunks are the bytes from those taken before to those taken at the last try
    pub stream : concat chunks ≡ slice_range bytes t end.taken
    pub from : t ≤ end.taken
    pub within : end.taken ≤ length bytes
    -- At most PIPE_BUF bytes are one whole chunk where their count was answered, and no chunk where it was not.
    pub whole : 0 < length bytes → length bytes ≤ pipe_buf → chunks ≡ (if answers_count end.ending (length bytes) then bytes ∷ [] else [])
    -- a write that may wait answers the count of all its bytes, where it isn't interrupted and a reader is left
    pub all : (n : ℕ) → may_wait ≡ true → end.ending ≡ Answered (count n) → n ≡ length bytes

-- what was answered is the front of what went out, and none was answered where nothing went out
abbrev pub FrontOf : (outs answered : List (List ℕ)) → Type 0
FrontOf [] answered = answered ≡ []
FrontOf (out ∷ []) (bytes ∷ []) = bytes ≡ take (length bytes) out
FrontOf outs answered = ⊥

-- What a read of n bytes takes out of a pipe, of which this is answered. The rest of a packet goes out too (pipe(2), O_DIRECT).
pub record Reads (n : ℕ) (is_byte_queue : Bool) (outs answered : List (List ℕ)) : Type 0 where
  -- at most one piece goes out, of which the front is answered
  pub front : 0 < n → FrontOf outs answered
  -- what goes out of a byte queue is what is answered
  pub whole : is_byte_queue ≡ true → outs ≡ answered

-- The stream law of one run, for each pipe.
pub record StreamLaw {A : Type 0} (s : State A) (xs : List (Step A × Bool)) : Type 0 where
  -- what it held and gained is what it lost and holds
  pub stream : (p : ℕ) → held s.core p ++ joined (chunks s xs p) ≡ joined (outs s xs p) ++ held (after s xs).core p
  -- a write or a read that is parked as the run begins
  pub waiting_write : (p c : ℕ) (w : Waiting A numbers) (fd : ℤ) (bytes : List ℕ) →
      get nat_eq s.core.parked c ≡ Some w → w.call ≡ Call.Write fd bytes → Keeps s.core w.kept 0 (PipeNode p) →
      Adds true bytes w.taken (of (OfCall c) (chunks s xs p)) (fate s xs c)
  pub waiting_read : (p c : ℕ) (w : Waiting A numbers) (fd : ℤ) (n : ℕ) →
      get nat_eq s.core.parked c ≡ Some w → w.call ≡ Call.Read fd n → Keeps s.core w.kept 0 (PipeNode p) →
      Reads n (is_byte_queue (pipe_at s.core p)) (of (OfCall c) (outs s xs p)) (bytes_answered (fate s xs c).ending)
  -- one that begins in it, after the steps `before`
  pub begun_write : (before rest : List (Step A × Bool)) (p pid : ℕ) (fd : ℤ) (bytes : List ℕ) →
      let now = after s before in
      let write = Begin pid (Call.Write fd bytes) in
      let o = open_for writes now.core pid fd in
      xs ≡ before ++ (write, false) ∷ rest → IfSome o (λ o. o.description.node ≡ PipeNode p) →
      Adds (may_wait o) bytes 0 (of (tag_of (length before) write (step now write).reply) (chunks s xs p)) (fate_begun now write rest)
  pub begun_read : (before rest : List (Step A × Bool)) (p pid : ℕ) (fd : ℤ) (n : ℕ) →
      let now = after s before in
      let read = Begin pid (Call.Read fd n) in
      let tag = tag_of (length before) read (step now read).reply in
      xs ≡ before ++ (read, false) ∷ rest → IfSome (open_for reads now.core pid fd) (λ o. o.description.node ≡ PipeNode p) →
      Reads n (is_byte_queue (pipe_at now.core p)) (of tag (outs s xs p)) (bytes_answered (fate_begun now read rest).ending)
  -- a splice or a tee that is parked as the run begins
  pub waiting_splice : (from to : Node numbers) (p q c : ℕ) (w : Waiting A numbers) (from_fd to_fd : ℤ) (from_offset to_offset : Option ℕ) (len : ℕ) (flags : SpliceFlags) →
      get nat_eq s.core.parked c ≡ Some w → w.call ≡ Call.Splice from_fd from_offset to_fd to_offset len flags → KeepsBoth s.core w.kept from to →
      Carries false from to p q (of (OfCall c) (chunks s xs q)) (of (OfCall c) (outs s xs p)) (fate s xs c).ending
  pub waiting_tee : (from to : Node numbers) (p q c : ℕ) (w : Waiting A numbers) (from_fd to_fd : ℤ) (len : ℕ) (flags : SpliceFlags) →
      get nat_eq s.core.parked c ≡ Some w → w.call ≡ Call.Tee from_fd to_fd len flags → KeepsBoth s.core w.kept from to →
      Carries true from to p q (of (OfCall c) (chunks s xs q)) (of (OfCall c) (outs s xs p)) (fate s xs c).ending
  -- one that begins in it, after the steps `before`
  pub begun_splice : (before rest : List (Step A × Bool)) (from to : Node numbers) (p q pid : ℕ) (from_fd to_fd : ℤ) (from_offset to_offset : Option ℕ) (len : ℕ) (flags : SpliceFlags) →
      let now = after s before in
      let splice = Begin pid (Call.Splice from_fd from_offset to_fd to_offset len flags) in
      let tag = tag_of (length before) splice (step now splice).reply in
      xs ≡ before ++ (splice, false) ∷ rest → OpensBoth now.core pid from_fd to_fd from to →
      Carries false from to p q (of tag (chunks s xs q)) (of tag (outs s xs p)) (fate_begun now splice rest).ending
  pub begun_tee : (before rest : List (Step A × Bool)) (from to : Node numbers) (p q pid : ℕ) (from_fd to_fd : ℤ) (len : ℕ) (flags : SpliceFlags) →
      let now = after s before in
      let tee = Begin pid (Call.Tee from_fd to_fd len flags) in
      let tag = tag_of (length before) tee (step now tee).reply in
      xs ≡ before ++ (tee, false) ∷ rest → OpensBoth now.core pid from_fd to_fd from to →
      Carries true from to p q (of tag (chunks s xs q)) (of tag (outs s xs p)) (fate_begun now tee rest).ending
  -- a try of one from a pipe to another adds the first of the bytes that its source then holds
  pub tried_move : (before rest : List (Step A × Bool)) (x : Step A) (p q : ℕ) →
      let now = after s before in
      xs ≡ before ++ (x, false) ∷ rest → TriesToCarry now.core x (PipeNode p) (PipeNode q) → AddsFirstBytes (held now.core p) (added now x q)
  -- and so does each step under its tag, where it is parked as the run begins, and where it begins in it
  pub waiting_move : (p q c : ℕ) (w : Waiting A numbers) →
      get nat_eq s.core.parked c ≡ Some w → IsSpliceOrTee w.call → KeepsBoth s.core w.kept (PipeNode p) (PipeNode q) → EachAddsFirst s xs (OfCall c) p q
  pub begun_move : (before rest : List (Step A × Bool)) (p q pid : ℕ) (call : Call A) →
      let now = after s before in
      let move = Begin pid call in
      xs ≡ before ++ (move, false) ∷ rest → TriesToCarry now.core move (PipeNode p) (PipeNode q) →
      EachAddsFirst s xs (tag_of (length before) move (step now move).reply) p q
  -- a poll moves nothing, where it is parked as the run begins, and where it begins in it
  pub waiting_poll : (p c : ℕ) (w : Waiting A numbers) (entries : List (ℤ × PollMask)) (wait : Bool) →
      get nat_eq s.core.parked c ≡ Some w → w.call ≡ Call.Poll entries wait → MovesNothing (of (OfCall c) (chunks s xs p)) (of (OfCall c) (outs s xs p))
  pub begun_poll : (before rest : List (Step A × Bool)) (p pid : ℕ) (entries : List (ℤ × PollMask)) (wait : Bool) →
      let now = after s before in
      let poll = Begin pid (Call.Poll entries wait) in
      let tag = tag_of (length before) poll (step now poll).reply in
      xs ≡ before ++ (poll, false) ∷ rest → MovesNothing (of tag (chunks s xs p)) (of tag (outs s xs p))

-- Each run keeps the law.
abbrev pub RunsKeepTheStreamLaw : Type 0 → Type 0
RunsKeepTheStreamLaw A = (s : State A) (xs : List (Step A × Bool)) → IsBelowCounters s → AreInOrder s.core → StreamLaw s xs
