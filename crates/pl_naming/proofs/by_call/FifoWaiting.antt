-- What an open of a FIFO that waits leaves at the kernel's keys.
use Rattle.std.proofs.Common.{◌≡◌, ◌≢◌, ℕ, ◌+◌, ◌==◌, Bool, true, false, cond, List, [], ◌∷◌, ◌++◌, length, Option, Some, IfSome, IsSome, refl, sym, ◌∙◌, ap, subst, nat_eq, arith}
use Rattle.std.specs.Prelude.{IsTrue, option_map, ◌&&◌, ◌||◌, not}
use Rattle.std.specs.Option.{option_eq}
use Rattle.std.specs.Cmp.Lexicographic.{pointwise}
use Rattle.std.proofs.lemmas.Bool.{eq-eqb, ne_eqb}
use Rattle.pl_model.specs.declared.calls.Call.{Call}
use Rattle.pl_model.specs.declared.calls.Mode.{Mode}
use Rattle.pl_model.specs.declared.calls.Mode.TheVariants as mode
use Rattle.pl_model.specs.declared.calls.Step.TheVariants.{Begin}
use Rattle.pl_model.specs.declared.flags.OpenFlags.{OpenFlags}
use Rattle.pl_model.specs.declared.node.Node.TheVariants as node
use Rattle.pl_model.specs.declared.replies.Reply.TheVariants.{Fault, Parked, CallsSpent}
use Rattle.pl_model.specs.declared.replies.Errno.TheVariants.{EAGAIN}
use Rattle.pl_model.specs.Numbers.{last_call}
use Rattle.pl_model.specs.Flags.{status_flags}
use Rattle.pl_model.specs.Modes.{lacks_end_of}
use Rattle.pl_model.specs.Map.{Map, EachOnce, change_at}
use Rattle.pl_model.specs.Keys.{NewKeys, Drawing, Plain, Draws, PipeNode, drawn}
use Rattle.pl_model.specs.State.{Core, Pipe, Waiting, set_pipe}
use Rattle.pl_model.specs.Settle.{settle}
use Rattle.pl_model.specs.Tables.{describe}
use Rattle.pl_model.specs.Trial.{Begun, Begins, Tried, Wait, still as moves_none, flowed, tried}
use Rattle.pl_model.specs.Fifo.{meet}
use Rattle.pl_model.specs.Memory.{is_refusal}
use Rattle.pl_model.specs.Step.{Stepped, begin, begun, core_step, ended, first_tried, stepped, parked, try, waiting}
use Rattle.pl_model.specs.Numbered.{numbers}
use Rattle.pl_model.specs.StandsFor.{Comes}
use Rattle.pl_model.proofs.settling.Meeting.{wait_fifo-settled}
use Rattle.pl_parked.specs.declared.call.ParkedCall.{ParkedCall}
use Rattle.pl_parked.specs.Calls.{Calls}
use Rattle.pl_parked.specs.Meeting.{marked, all_marked}
use Rattle.pl_numbered.proofs.Rising.{Rise-push}
use Rattle.pl_desc.specs.Rows.{at, is_pid, row_at, count_at}
use Rattle.pl_desc.specs.Descs.{Opened, Descs, fresh}
use Rattle.pl_nodes.proofs.Keyed.{change_at-is}
use Rattle.pl_state.specs.Contents.{Contents, Nodes, contents, description_of, waiting_of, core_of, lets_wait}
use Rattle.pl_state.specs.Sound.{IsSound, IsWaiting, AreCounted, AreThere, MayKeep, OnNode, KeepsNodes, WaitOnNodes, times}
use Rattle.pl_state.specs.Makes.{MakesAtKeys, MayWantAtKeys}
use Rattle.pl_state.proofs.Known.{Caller}
use Rattle.pl_state.proofs.holders.There.{settled_after, there-added, there-still, map-set_at}
use Rattle.pl_state.proofs.holders.Belonging.{belong-same}
use Rattle.pl_state.proofs.holders.Holding.{keeping_more, held_once}
use Rattle.pl_state.proofs.holders.OnNodes.{keeps-one, wait-beside}
use Rattle.pl_state.proofs.by_call.Begun.{does_same, step-draws, step-tried, can_wait-is}
use Rattle.pl_state.proofs.by_call.Piping.{none_kept, past_end}
use Rattle.pl_state.proofs.waiting.Calls.{get_more, more-each, more-parked}
use Rattle.pl_state.proofs.waiting.Marking.{marked-is}
use Rattle.pl_state.proofs.waiting.Met.{met_calls, met_sound, met_held}
use Rattle.pl_state.proofs.waiting.ParkedCalls.{not_last}
use Rattle.pl_naming.specs.Waits.{Awaits, Waits, open_on}
use Rattle.pl_naming.proofs.by_call.FifoOpening.{still, unhung}
use Rattle.pl_naming.proofs.by_call.Unused.{keys, are_unused, unused}
use Rattle.pl_naming.proofs.by_call.Unlinking.{keyed}

-- a mode lacks no end that it has
lacks_none : (own : Mode) → lacks_end_of own own ≡ false
lacks_none mode.Read = refl
lacks_none mode.Write = refl
lacks_none mode.Both = refl

module _ {A : Type 0} (m : Caller A) (name : List ℕ) (mode : Mode) (flags : OpenFlags) (p : ℕ) (waits : Waits (contents m.descs m.nodes m.calls m.limits) m.pid name p mode flags) where
  open m use {kernel, descs, nodes, calls, limits, sound, are, pid, process}

  abbrev k : Contents A
  k = contents descs nodes calls limits

  abbrev c : Core A numbers
  c = core_of k

  abbrev call : Call A
  call = Call.OpenName name mode flags

  abbrev described_by : ℕ → Core A numbers
  described_by d = describe (meet c p mode) d (PipeNode p) mode (status_flags flags)

  abbrev begins : NewKeys numbers → Begun A numbers
  begins new = Tried (described_by new.description) (new.description ∷ []) false true

  -- whether it is refused, as no number is left for it or too many calls wait
  abbrev awaits_if : Bool → Begins A numbers
  awaits_if refused = cond refused (tried c [] false true) (Draws begins)

  refused-is : (spent can : Bool) → (calls.next == last_call) ≡ spent → lets_wait k pid ≡ can → begin c pid call ≡ awaits_if (spent || not can)
  unfolding core_of
  refused-is spent can is may = waits.begun ∙ (λ i. awaits_if (is i || not ((can_wait-is k pid ∙ may) i)))

  or_true : (b : Bool) → (b || true) ≡ true
  or_true true = refl
  or_true false = refl

  -- what becomes of it where it is refused
  abbrev tried_if : Bool → Stepped A numbers
  tried_if can = first_tried c (waiting pid call [] false) can (Wait c moves_none 0)

  tries_none : (spent can : Bool) → (spent || not can) ≡ true → (calls.next == last_call) ≡ spent → lets_wait k pid ≡ can → core_step c (Begin pid call) ≡ Plain (ended c (tried_if can))
  unfolding try
  tries_none spent can refused is may =
      step-tried k pid call process [] false true (Wait c moves_none 0) (refused-is spent can is may ∙ ap awaits_if refused) refl
      ∙ ap (λ b. Plain (ended c (tried_if b))) (can_wait-is k pid ∙ may)

  -- too many calls wait
  pub wait-crowded : lets_wait k pid ≡ false → MakesAtKeys k (Begin pid call) (Fault EAGAIN) k
  wait-crowded full = does_same k sound (Begin pid call) _ (Fault EAGAIN) (tries_none (calls.next == last_call) false (or_true (calls.next == last_call)) refl full) refl refl

  -- no number is left for it
  pub wait-spent : lets_wait k pid ≡ true → calls.next ≡ last_call → MakesAtKeys k (Begin pid call) CallsSpent k
  unfolding core_of
  wait-spent can last =
      let is : (calls.next == last_call) ≡ true = eq-eqb calls.next last_call last in
      does_same k sound (Begin pid call) _ CallsSpent (tries_none true true refl is can ∙ ap (λ b. Plain (ended c (cond b (stepped c CallsSpent) (record { state = parked (flowed c moves_none) (waiting pid call [] false); reply = Parked calls.next; flow = moves_none })))) is) refl refl

  module _ (can : lets_wait k pid ≡ true) (left : calls.next ≢ last_call) where
    one_left : (calls.next == last_call) ≡ false
    one_left = ne_eqb calls.next last_call left

    not_refused : begin c pid call ≡ Draws begins
    not_refused = refused-is false true one_left can

    -- what the first try of it comes to
    abbrev comes : ℕ → Stepped A numbers
    comes d = record { state = parked (described_by d) (waiting pid call (d ∷ []) false); reply = Parked calls.next; flow = moves_none }

    tries : (d : ℕ) → begun c pid call (begins (record { description = d; other_description = d; pipe = d; file = d })) ≡ comes d
    unfolding try flowed core_of
    tries d =
        ap (λ b. first_tried c (waiting pid call (d ∷ []) false) b (Wait (described_by d) moves_none 0)) (can_wait-is k pid ∙ can)
        ∙ ap (λ b. cond b (stepped c CallsSpent) (comes d)) one_left

    pub wait-wants : MayWantAtKeys k (Begin pid call)
    wait-wants = λ new. ap (λ (a : Drawing numbers (Stepped A numbers)). is_refusal (drawn {X = Stepped A numbers} new a).reply) (step-draws k pid call process begins not_refused) ∙ ap (λ (h : Stepped A numbers). is_refusal h.reply) (tries new.description)

    -- it is parked, with a description of its own
    module _ (x : Pipe) (was : at nodes.pipes p ≡ Some x) (d : ℕ) (descs' : Descs) (calls' : Calls A) (nodes' : Nodes)
        (awaits : Awaits descs calls descs' calls' d (open_on d pid p call) (fresh (node.Pipe p) mode (status_flags flags))) (pipes_are : at nodes'.pipes ≡ change_at p (unhung mode) (at nodes.pipes))
        (files_are : at nodes'.files ≡ at nodes.files) (names_are : nodes'.names ≡ nodes.names) (limits_are : nodes'.limits ≡ nodes.limits) where
      abbrev w : ParkedCall A
      w = open_on d pid p call

      abbrev met : Calls A
      met = met_calls kernel p mode

      abbrev more : Calls A
      more = record { calls = met.calls ++ (calls.next, w) ∷ []; next = calls.next + 1 }

      -- it doesn't meet itself
      alone : marked p mode w ≡ w
      alone = ap (λ b. cond b (record w { met = true }) w) (none (option_eq nat_eq (Some p) (Some p)) (lacks_end_of mode mode) (lacks_none mode))
        where
          none : (a b : Bool) → b ≡ false → (a && b) ≡ false
          none true b is = is
          none false b is = refl

      marked_more : record calls' { calls = all_marked p mode calls'.calls } ≡ more
      marked_more =
          ap (λ (z : Calls A). record z { calls = all_marked p mode z.calls }) awaits.parked
          ∙ ap (λ es. record { calls = es; next = calls.next + 1 }) (more-each (marked p mode) calls.calls calls.next w ∙ ap (λ v. met.calls ++ (calls.next, v) ∷ []) alone)

      abbrev new : Contents A
      new = contents descs' nodes' more limits

      abbrev left_is : Core A numbers
      left_is = parked (describe (set_pipe (meet c p mode) p (unhung mode x)) d (PipeNode p) mode (status_flags flags)) (waiting_of w)

      new_is : core_of new ≡ left_is
      unfolding core_of
      new_is = λ i. record {
        processes = is_pid (awaits.tables i);
        rows = row_at (awaits.tables i);
        descriptions = (ap (λ (z : ℕ → Option Opened). λ q. option_map description_of (z q)) awaits.opened ∙ map-set_at description_of (at descs.opened) d (Some (fresh (node.Pipe p) mode (status_flags flags)))) i;
        pipes = (pipes_are ∙ change_at-is p (unhung mode) (at nodes.pipes) x was) i;
        files = files_are i;
        names = keyed (names_are i);
        parked = (more-parked met.calls calls.next w ∙ ap (λ (ps : Map ℕ (Waiting A numbers)). ps ++ (calls.next, waiting_of w) ∷ []) (marked-is kernel p mode)) i;
        next_call = calls.next + 1;
        limits = limits;
      }

      waits_core : core_of new ≡ settle c (parked (described_by d) (waiting_of w))
      unfolding core_of
      waits_core = new_is ∙ sym (wait_fifo-settled (core_of k) sound.settled p d (unused m.kernel d awaits.vacant) mode (status_flags flags) x was (waiting_of w) refl)

      there : IsSome (at nodes'.pipes p)
      there = still mode p nodes nodes' pipes_are files_are (node.Pipe p) (subst (λ o. IsSome o) (sym was) refl)

      on_node : KeepsNodes (at descs'.opened) w
      on_node = keeps-one (at descs'.opened) w d refl (subst (λ (z : ℕ → Option Opened). OnNode z w d) (sym awaits.opened) (by (nat_eq d d) (eq-eqb d d refl)))
        where
          by : (b : Bool) → b ≡ true → IfSome (cond b (Some (fresh (node.Pipe p) mode (status_flags flags))) (at descs.opened d)) (λ o. MayKeep w o.node)
          by true is = refl
          by false is = absurd (cc)

      is_waiting : IsWaiting A w
      is_waiting = record { few = omega arith; keeps = (d, refl); may = refl }

      waits_sound : IsSound A new
      waits_sound = (let s = met_sound kernel p mode in record {
        whole = record {
          rise = Rise-push 0 calls.next met.calls w s.rise;
          numbered = not_last calls.next sound.numbered left;
          there = subst (λ z. AreThere z nodes') (sym awaits.opened) (there-added (at descs.opened) nodes' (there-still (at descs.opened) nodes nodes' names_are (still mode p nodes nodes' pipes_are files_are) sound.there) d (fresh (node.Pipe p) mode (status_flags flags)) there);
          limit = limits_are ∙ sound.limit;
          once = subst (EachOnce (pointwise nat_eq)) (sym names_are) sound.once;
          settled = settled_after (core_of new) c (parked (described_by d) (waiting_of w)) waits_core;
        };
        waiting = λ n. get_more met.calls calls.next w (IsWaiting A) is_waiting n (s.waiting n);
        belong = λ n. get_more met.calls calls.next w (λ y. IsTrue (is_pid descs'.tables y.pid)) (ap (λ t. is_pid t pid) awaits.tables ∙ process) n (belong-same met.calls (is_pid descs.tables) (is_pid descs'.tables) s.belong (ap is_pid awaits.tables) n);
        on_nodes = λ n. get_more met.calls calls.next w (KeepsNodes (at descs'.opened)) on_node n
            (subst (WaitOnNodes met.calls) (sym awaits.opened) (wait-beside d met.calls (at descs.opened) (fresh (node.Pipe p) mode (status_flags flags))
            (none_kept (record { descs = descs; nodes = nodes; calls = met; limits = limits; sound = s; are = met_held kernel p mode }) d awaits.vacant) s.on_nodes) n);
      })

      waits_held : AreCounted A limits descs' more.calls
      waits_held = record {
        tidy = awaits.tidy;
        bounds = awaits.limits ∙ are.bounds;
        counted = λ q. held_once d (count_at descs.loose) (count_at descs'.loose) awaits.loose q ∙ ap (λ n. n + times (d ∷ []) q) ((met_held kernel p mode).counted q) ∙ sym (keeping_more met.calls calls.next w q);
      }

      waits_makes : MakesAtKeys k (Begin pid call) (Parked calls.next) new
      waits_makes =
          subst (λ a. Comes c a (Parked calls.next) (core_of new)) (sym (step-draws k pid call process begins not_refused)) (
            keys m.kernel d (length nodes.pipes) (length nodes.files),
            are_unused m.kernel d (length nodes.pipes) (length nodes.files) awaits.vacant (past_end nodes.pipes) (past_end nodes.files),
            sym (ap (λ (h : Stepped A numbers). h.reply) (tries d)),
            waits_core ∙ sym (ap (λ (h : Stepped A numbers). settle c h.state) (tries d)),
          )

      -- all of it, where the opens that wait for this end are met
      pub wait-leaves : (calls'' : Calls A) → calls'' ≡ record calls' { calls = all_marked p mode calls'.calls }
          → (IsSound A (contents descs' nodes' calls'' limits)) × (AreCounted A limits descs' calls''.calls) × MakesAtKeys k (Begin pid call) (Parked calls.next) (contents descs' nodes' calls'' limits)
      wait-leaves calls'' marks = subst (λ (z : Calls A). (IsSound A (contents descs' nodes' z limits)) × (AreCounted A limits descs' z.calls) × MakesAtKeys k (Begin pid call) (Parked calls.next) (contents descs' nodes' z limits))
          (sym (marks ∙ marked_more)) (waits_sound, waits_held, waits_makes)
