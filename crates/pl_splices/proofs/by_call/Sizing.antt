-- What a side has to give, and has room for, at the kernel's keys.
use Rattle.std.proofs.Common.{◌≡◌, ℕ, Bool, true, false, not, List, [], Option, Some, None, IfSome, refl, sym, ◌∙◌, ap, subst, length, take}
use Rattle.std.specs.Prelude.{◌-◌, ◌≤◌, ◌||◌, nat_lt, unwrap_or, is_none, is_some}
use Rattle.pl_model.specs.declared.node.Node.{Node}
use Rattle.pl_model.specs.declared.node.Node.TheVariants as node
use Rattle.pl_model.specs.declared.cases.MoveCase.{MoveCase}
use Rattle.pl_model.specs.declared.cases.Source.{Source}
use Rattle.pl_model.specs.declared.cases.Target.{Target}
use Rattle.pl_model.specs.declared.replies.Reply.{Reply}
use Rattle.pl_model.specs.declared.replies.Reply.TheVariants.{Fault}
use Rattle.pl_model.specs.declared.replies.Errno.TheVariants.{EINVAL}
use Rattle.pl_model.specs.Packets.{is_byte_queue}
use Rattle.pl_model.specs.State.{Core, Pipe, empty_pipe}
use Rattle.pl_model.specs.Live.{readers, writers}
use Rattle.pl_model.specs.Modes.{reads, writes as writes_mode}
use Rattle.pl_model.specs.Trial.{Done, Wait, still}
use Rattle.pl_model.specs.Transfer.{room, count}
use Rattle.pl_model.specs.Splice.{Side as MachineSide, source_of, target_of, to_be_had, room_of, is_packet_pipe, move_case, move_row, moved, bytes_from, leaves, enters, source_advanced, target_put}
use Rattle.pl_model.specs.Numbered.{numbers}
use Rattle.pl_model.proofs.settling.WhoIsLive.{readers-is, writers-is}
use Rattle.pl_desc.specs.Rows.{at}
use Rattle.pl_desc.specs.Descs.{ends_on}
use Rattle.pl_state.specs.Contents.{Contents, node_of, core_of}
use Rattle.pl_state.specs.Opens.{OpenOn}
use Rattle.pl_state.specs.Sound.{IsWhole}
use Rattle.pl_state.proofs.by_call.Begun.{ends-is, pipe_there, file_there}
use Rattle.pl_state.proofs.by_call.Moving.{flowed-still}
use Rattle.pl_splices.specs.declared.sides.Side.{Side}
use Rattle.pl_splices.specs.Sides.{side_of, either_is_packets}
use Rattle.pl_splices.specs.Moves.{Goes, Fits, GoesOver, Ends, StillWaits, WouldMove, trial}
use Rattle.pl_splices.proofs.by_call.Trying.{of_one, say_one, of_both, source_side, target_side, trial-is, packets-refused}
use Rattle.pl_splices.proofs.Resembling.{resembles-refl}

-- what is said of what is there, or else of another, holds where it is there
pub said_of : {X : Type 0} (o : Option X) (other : X) (P : X → Type 0) → P (unwrap_or o other) → IfSome o P
said_of None other P h = tt
said_of (Some x) other P h = h

module _ {A : Type 0} (k now : Contents A) (whole : IsWhole A k) (view : k ≡ now) (s : Side) (on : OpenOn now s.key s.node) where
  abbrev core : Core A numbers
  core = core_of k

  abbrev on_old : OpenOn k s.key s.node
  on_old = subst (λ (z : Contents A). OpenOn z s.key s.node) (sym view) on

  abbrev at_side : MachineSide numbers
  at_side = side_of s on_old.opened

  said_source : (x : Source) → x ≡ source_of core at_side (node_of s.node) → IfSome (at now.opened s.key) (λ o. x ≡ source_of (core_of now) (side_of s o) (node_of s.node))
  said_source x is = subst (λ (z : Contents A). IfSome (at z.opened s.key) (λ o. x ≡ source_of (core_of z) (side_of s o) (node_of s.node))) view
      (say_one (at k.opened s.key) on_old.opened (λ o. x ≡ source_of core (side_of s o) (node_of s.node)) on_old.here is)

  said_target : (x : Target) → x ≡ target_of core at_side (node_of s.node) → IfSome (at now.opened s.key) (λ o. x ≡ target_of (core_of now) (side_of s o) (node_of s.node))
  said_target x is = subst (λ (z : Contents A). IfSome (at z.opened s.key) (λ o. x ≡ target_of (core_of z) (side_of s o) (node_of s.node))) view
      (say_one (at k.opened s.key) on_old.opened (λ o. x ≡ target_of core (side_of s o) (node_of s.node)) on_old.here is)

  -- where a file begins
  start_is : (start : ℕ) → IfSome (at now.opened s.key) (λ o. start ≡ unwrap_or s.given o.offset) → start ≡ unwrap_or s.given on_old.opened.offset
  start_is start h = of_one (at k.opened s.key) on_old.opened (λ o. start ≡ unwrap_or s.given o.offset) on_old.here
      (subst (λ (z : Contents A). IfSome (at z.opened s.key) (λ o. start ≡ unwrap_or s.given o.offset)) (sym view) h)

  -- a pipe
  module _ (p : ℕ) (is : s.node ≡ node.Pipe p) where
    abbrev there : (y : Pipe) × (at k.nodes.pipes p ≡ Some y)
    there = pipe_there k whole s.key p (subst (OpenOn k s.key) is on_old)

    pub pipe_source : (held many : ℕ) → IfSome (at k.nodes.pipes p) (λ x. held ≡ length x.bytes) → many ≡ ends_on writes_mode k.opened s.node
        → IfSome (at now.opened s.key) (λ o. Source.Pipe held (nat_lt 0 many) ≡ source_of (core_of now) (side_of s o) (node_of s.node))
    unfolding core_of
    pipe_source held many h w = said_source (Source.Pipe held (nat_lt 0 many)) (
        ap (λ n. Source.Pipe n (nat_lt 0 many)) (of_one (at k.nodes.pipes p) there.0 (λ x. held ≡ length x.bytes) there.1 h)
        ∙ ap (λ n. Source.Pipe (length there.0.bytes) (nat_lt 0 n)) (w ∙ ap (ends_on writes_mode k.opened) is)
        ∙ sym (ap (λ n. source_of core at_side (node_of n)) is
        ∙ ap (λ z. Source.Pipe (length (unwrap_or z empty_pipe).bytes) (nat_lt 0 (writers core p))) there.1
        ∙ ap (λ b. Source.Pipe (length there.0.bytes) b) (writers-is core p ∙ ends-is k whole writes_mode (node.Pipe p))))

    pub pipe_target : (free many : ℕ) → IfSome (at k.nodes.pipes p) (λ x. free ≡ room x) → many ≡ ends_on reads k.opened s.node
        → IfSome (at now.opened s.key) (λ o. Target.Pipe free (nat_lt 0 many) ≡ target_of (core_of now) (side_of s o) (node_of s.node))
    unfolding core_of
    pipe_target free many h r = said_target (Target.Pipe free (nat_lt 0 many)) (
        ap (λ n. Target.Pipe n (nat_lt 0 many)) (of_one (at k.nodes.pipes p) there.0 (λ x. free ≡ room x) there.1 h)
        ∙ ap (λ n. Target.Pipe (room there.0) (nat_lt 0 n)) (r ∙ ap (ends_on reads k.opened) is)
        ∙ sym (ap (λ n. target_of core at_side (node_of n)) is
        ∙ ap (λ z. Target.Pipe (room (unwrap_or z empty_pipe)) (nat_lt 0 (readers core p))) there.1
        ∙ ap (λ b. Target.Pipe (room there.0) b) (readers-is core p ∙ ends-is k whole reads (node.Pipe p))))

    pub packet_told : (b : Bool) → IfSome (at k.nodes.pipes p) (λ x. b ≡ is_some x.packets) → b ≡ is_packet_pipe (core_of now) (node_of s.node)
    unfolding core_of
    packet_told b h = subst (λ (z : Contents A). b ≡ is_packet_pipe (core_of z) (node_of s.node)) view (
        of_one (at k.nodes.pipes p) there.0 (λ x. b ≡ is_some x.packets) there.1 h
        ∙ kind there.0.packets
        ∙ sym (ap (λ n. is_packet_pipe core (node_of n)) is ∙ ap (λ z. not (is_byte_queue (unwrap_or z empty_pipe))) there.1))
      where
        kind : (o : Option (List ℕ)) → is_some o ≡ not (is_none o)
        kind None = refl
        kind (Some ls) = refl

  -- a file
  module _ (f : ℕ) (is : s.node ≡ node.File f) (start : ℕ) (starts : IfSome (at now.opened s.key) (λ o. start ≡ unwrap_or s.given o.offset)) where
    abbrev file : (y : List ℕ) × (at k.nodes.files f ≡ Some y)
    file = file_there k whole s.key f (subst (OpenOn k s.key) is on_old)

    pub file_source : (len left : ℕ) → IfSome (at k.nodes.files f) (λ bytes. len ≡ length bytes) → left ≡ len - start
        → IfSome (at now.opened s.key) (λ o. Source.File left ≡ source_of (core_of now) (side_of s o) (node_of s.node))
    unfolding core_of
    file_source len left h l = said_source (Source.File left) (
        ap (λ n. Source.File n) l
        ∙ ap (λ n. Source.File (n - start)) (of_one (at k.nodes.files f) file.0 (λ bytes. len ≡ length bytes) file.1 h)
        ∙ ap (λ n. Source.File (length file.0 - n)) (start_is start starts)
        ∙ sym (ap (λ n. source_of core at_side (node_of n)) is
        ∙ ap (λ z. Source.File (length (unwrap_or z []) - unwrap_or s.given on_old.opened.offset)) file.1))

    pub file_target : (left : ℕ) → left ≡ k.limits.file_max - start
        → IfSome (at now.opened s.key) (λ o. Target.File left ≡ target_of (core_of now) (side_of s o) (node_of s.node))
    unfolding core_of
    file_target left l = said_target (Target.File left) (
        ap (λ n. Target.File n) l
        ∙ ap (λ n. Target.File (k.limits.file_max - n)) (start_is start starts)
        ∙ sym (ap (λ n. target_of core at_side (node_of n)) is))

-- bytes that fit are there, and there is room for them
module _ {A : Type 0} (k : Contents A) (from to : Side) (is_tee : Bool) (goes : Goes k from to is_tee) (many : ℕ) (fits : Fits k from to many) where
  abbrev both : (many ≤ to_be_had (source_of (core_of k) (source_side k from to is_tee goes) (node_of from.node))) × (many ≤ room_of (target_of (core_of k) (target_side k from to is_tee goes) (node_of to.node)))
  both = of_both k from to is_tee goes (λ a b. (many ≤ to_be_had (source_of (core_of k) a (node_of from.node))) × (many ≤ room_of (target_of (core_of k) b (node_of to.node)))) fits

  had : (n : Node) → from.node ≡ n → many ≤ to_be_had (source_of (core_of k) (source_side k from to is_tee goes) (node_of n))
  had n is = subst (λ n. many ≤ to_be_had (source_of (core_of k) (source_side k from to is_tee goes) (node_of n))) is both.0

  free : (n : Node) → to.node ≡ n → many ≤ room_of (target_of (core_of k) (target_side k from to is_tee goes) (node_of n))
  free n is = subst (λ n. many ≤ room_of (target_of (core_of k) (target_side k from to is_tee goes) (node_of n))) is both.1

  pub pipe_held : (p : ℕ) → from.node ≡ node.Pipe p → IfSome (at k.nodes.pipes p) (λ x. many ≤ length x.bytes)
  unfolding core_of
  pipe_held p is = said_of (at k.nodes.pipes p) empty_pipe (λ x. many ≤ length x.bytes) (had (node.Pipe p) is)

  pub pipe_room : (p : ℕ) → to.node ≡ node.Pipe p → IfSome (at k.nodes.pipes p) (λ x. many ≤ room x)
  unfolding core_of
  pipe_room p is = said_of (at k.nodes.pipes p) empty_pipe (λ x. many ≤ room x) (free (node.Pipe p) is)

  pub file_left : (f : ℕ) → from.node ≡ node.File f → IfSome (at k.opened from.key) (λ o. IfSome (at k.nodes.files f) (λ bytes. many ≤ length bytes - unwrap_or from.given o.offset))
  unfolding core_of
  file_left f is = say_one (at k.opened from.key) goes.source.opened (λ o. IfSome (at k.nodes.files f) (λ bytes. many ≤ length bytes - unwrap_or from.given o.offset)) goes.source.here
      (said_of (at k.nodes.files f) [] (λ bytes. many ≤ length bytes - unwrap_or from.given goes.source.opened.offset) (had (node.File f) is))

  pub file_room : (f : ℕ) → to.node ≡ node.File f → IfSome (at k.opened to.key) (λ o. many ≤ k.limits.file_max - unwrap_or to.given o.offset)
  unfolding core_of
  file_room f is = say_one (at k.opened to.key) goes.target.opened (λ o. many ≤ k.limits.file_max - unwrap_or to.given o.offset) goes.target.here (free (node.File f) is)

-- a packet pipe is refused, and nothing moves
pub packets_end : {A : Type 0} (k : Contents A) (from to : Side) (is_tee : Bool) (goes : Goes k from to is_tee) (len : ℕ) → either_is_packets k from.node to.node ≡ true → Ends k from to len is_tee (Fault EINVAL) k
packets_end k from to is_tee goes len some = record {
  state = core_of k;
  flow = still;
  came = packets-refused k from to is_tee goes len some;
  leaves = record { left = sym (flowed-still k); like = resembles-refl (core_of k); calls = refl };
}

-- both sides are byte queues, where they are pipes
module _ {A : Type 0} (k : Contents A) (from to : Node) (none : either_is_packets k from to ≡ false) where
  neither : (a b : Bool) → (a || b) ≡ false → (a ≡ false) × (b ≡ false)
  neither true b h = absurd (cc)
  neither false b h = (refl, h)

  is_bytes : (o : Option Pipe) → not (is_byte_queue (unwrap_or o empty_pipe)) ≡ false → IfSome o (λ x. x.packets ≡ None)
  is_bytes None h = tt
  is_bytes (Some x) h = at x.packets h
    where
      at : (ls : Option (List ℕ)) → not (is_none ls) ≡ false → ls ≡ None
      at None h = refl
      at (Some l) h = absurd (cc)

  bytes_on : (n : Node) (p : ℕ) → n ≡ node.Pipe p → is_packet_pipe (core_of k) (node_of n) ≡ false → IfSome (at k.nodes.pipes p) (λ x. x.packets ≡ None)
  unfolding core_of
  bytes_on n p is h = is_bytes (at k.nodes.pipes p) (subst (λ z. is_packet_pipe (core_of k) (node_of z) ≡ false) is h)

  pub from_is_bytes : (p : ℕ) → from ≡ node.Pipe p → IfSome (at k.nodes.pipes p) (λ x. x.packets ≡ None)
  from_is_bytes p is = bytes_on from p is (neither _ _ none).0

  pub to_is_bytes : (p : ℕ) → to ≡ node.Pipe p → IfSome (at k.nodes.pipes p) (λ x. x.packets ≡ None)
  to_is_bytes p is = bytes_on to p is (neither _ _ none).1

-- what was decided of both sides is what the machine decides
module _ {A : Type 0} (k : Contents A) (from to : Side) (is_tee : Bool) (goes : Goes k from to is_tee) (len : ℕ) (source : Source) (target : Target)
    (gives : IfSome (at k.opened from.key) (λ o. source ≡ source_of (core_of k) (side_of from o) (node_of from.node)))
    (takes : IfSome (at k.opened to.key) (λ o. target ≡ target_of (core_of k) (side_of to o) (node_of to.node)))
    (row : MoveCase) (decided : row ≡ move_case source target len) (none : either_is_packets k from.node to.node ≡ false) where
  abbrev a : MachineSide numbers
  a = source_side k from to is_tee goes

  abbrev b : MachineSide numbers
  b = target_side k from to is_tee goes

  source_is : source ≡ source_of (core_of k) a (node_of from.node)
  source_is = of_one (at k.opened from.key) goes.source.opened (λ o. source ≡ source_of (core_of k) (side_of from o) (node_of from.node)) goes.source.here gives

  target_is : target ≡ target_of (core_of k) b (node_of to.node)
  target_is = of_one (at k.opened to.key) goes.target.opened (λ o. target ≡ target_of (core_of k) (side_of to o) (node_of to.node)) goes.target.here takes

  pub decided-is : trial k from to len is_tee ≡ move_row (core_of k) a b is_tee row
  decided-is = trial-is k from to is_tee goes len none row (sym (decided ∙ (λ i. move_case (source_is i) (target_is i) len)))

  -- a row that moves nothing
  pub ends_still : (reply : Reply A) → move_row (core_of k) a b is_tee row ≡ Done (core_of k) still reply → Ends k from to len is_tee reply k
  ends_still reply is = record {
    state = core_of k;
    flow = still;
    came = decided-is ∙ is;
    leaves = record { left = sym (flowed-still k); like = resembles-refl (core_of k); calls = refl };
  }

  pub waits_still : move_row (core_of k) a b is_tee row ≡ Wait (core_of k) still 0 → StillWaits k from to len is_tee k
  waits_still is = record { came = decided-is ∙ is; same = refl }

  -- one that moves some bytes
  module _ (many : ℕ) (is : row ≡ MoveCase.Moves many) where
    abbrev bytes : List ℕ
    bytes = take many (bytes_from (core_of k) a a.description.node)

    moves : trial k from to len is_tee ≡ moved (core_of k) a b is_tee bytes
    moves = decided-is ∙ ap (move_row (core_of k) a b is_tee) is

    pub would_move : WouldMove k from to len is_tee
    would_move = record {
      state = target_put (source_advanced (core_of k) a a.description.node (length bytes)) b b.description.node bytes;
      flow = record { out = leaves is_tee a.description.node (length bytes); into = enters b.description.node bytes };
      many = length bytes;
      came = moves;
    }

    pub ends_over : (new : Contents A) → GoesOver k from to is_tee many new → Ends k from to len is_tee (count many) new
    ends_over new o = record {
      state = o.state;
      flow = o.flow;
      came = moves ∙ of_both k from to is_tee goes (λ a b. moved (core_of k) a b is_tee (take many (bytes_from (core_of k) a a.description.node)) ≡ Done o.state o.flow (count many)) o.came;
      leaves = o.leaves;
    }
