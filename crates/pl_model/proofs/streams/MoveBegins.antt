-- A splice or a tee that begins in a run, and each try of one.
use Rattle.std.proofs.Common.{◌≡◌, ◌≢◌, ℕ, ℤ, ◌+◌, ◌≤◌, Bool, true, false, cond, Option, List, [], ◌∷◌, refl, sym, ◌∙◌, subst, nat_eq, arith}
use Rattle.std.specs.Prelude.{◌==◌, IfSome, All, ◌&&◌}
use Rattle.std.specs.declared.option.Option.TheVariants.{None, Some}
use Rattle.std.proofs.lemmas.List.Elements.{All-cons, All-nil}
use Rattle.pl_model.specs.declared.calls.Call.{Call}
use Rattle.pl_model.specs.declared.calls.Step.{Step}
use Rattle.pl_model.specs.declared.calls.Step.TheVariants.{Begin, Resume}
use Rattle.pl_model.specs.declared.flags.SpliceFlags.{SpliceFlags}
use Rattle.pl_model.specs.declared.replies.Reply.{Reply}
use Rattle.pl_model.specs.declared.replies.Reply.TheVariants.{Fault, Parked, NoProcess, CallsSpent}
use Rattle.pl_model.specs.declared.replies.Errno.TheVariants.{EAGAIN}
use Rattle.pl_model.specs.Numbers.{last_call}
use Rattle.pl_model.specs.Modes.{reads, writes}
use Rattle.pl_model.specs.Map.{get}
use Rattle.pl_model.specs.Keys.{Node, PipeNode, Plain, Draws, drawn, drawing_map}
use Rattle.pl_model.specs.State.{Core, Open, Waiting, can_wait}
use Rattle.pl_model.specs.Trial.{Trial, Done, Wait, Flow, still, flowed, Begun, Begins, Refused, Answered as Answers_now, Tried, answered, tried as tried_with}
use Rattle.pl_model.specs.Transfer.{count}
use Rattle.pl_model.specs.Begin.{open_fd, open_for, begin_splice, begin_tee}
use Rattle.pl_model.specs.Step.{Stepped, try, begin, begun, happen, first_tried, parked, resumed, tried_again, stepped, waiting}
use Rattle.pl_model.specs.Numbered.{numbers, State, next_numbers}
use Rattle.pl_model.specs.StandsFor.{IsBelowCounters}
use Rattle.pl_model.specs.Stream.{held, into_pipe}
use Rattle.pl_model.specs.Streams.{added}
use Rattle.pl_model.specs.Fates.{Fate, Answered}
use Rattle.pl_model.specs.InOrder.{AreInOrder}
use Rattle.pl_model.specs.OnNodes.{KeepsBoth, OpensBoth}
use Rattle.pl_model.specs.Carried.{counted, Carries, IsSpliceOrTee, TriesToCarry, AddsFirstBytes}
use Rattle.pl_model.proofs.by_call.Ways.{LeadsTo, Refusable, begun_found, begun_past, begun_if}
use Rattle.pl_model.proofs.by_call.Keeps.{try-keeps, node_of, open_node}
use Rattle.pl_model.proofs.streams.Writes.{says_parked}
use Rattle.pl_model.proofs.streams.Does.{try_fine, has_none, among_same, among_changes}
use Rattle.pl_model.proofs.streams.Courses.{StepTo, step_to}
use Rattle.pl_model.proofs.streams.MoveRuns.{MoveTry, carries, carries_none, carries_later, IsMove, MoveSays, move_course, splice_moves, tee_moves}
use Rattle.pl_model.proofs.streams.BegunRuns.{BegunWhole, FirstSays, begin_to, first_says, quiet_says, opened, there, given}

module _ {A : Type 0} (s : State A) (from to : Node numbers) where
  -- what the checks of a splice or a tee lead to
  abbrev pub IsTried : Begun A numbers → Type 0
  IsTried (Refused errno) = Unit {0}
  IsTried (Answers_now u reply) = (u ≡ s.core) × (reply ≡ count 0)
  IsTried (Tried u kept met may_wait) = (u ≡ s.core) × KeepsBoth s.core kept from to × All (λ k. k ≢ s.next_description) kept × All (λ k. k ≢ s.next_description + 1) kept

  may_refuse : Refusable IsTried
  may_refuse = record { refused = λ errno. tt }

  answered_so : LeadsTo (next_numbers s) IsTried (answered s.core (count 0))
  unfolding LeadsTo
  answered_so = (refl, refl)

  module _ (pid : ℕ) (from_fd to_fd : ℤ) (below : IsBelowCounters s) (on : OpensBoth s.core pid from_fd to_fd from to) where
    tried_so : (source target : Open numbers) (may_wait : Bool) → open_for reads s.core pid from_fd ≡ Some source → open_for writes s.core pid to_fd ≡ Some target →
        LeadsTo (next_numbers s) IsTried (tried_with s.core (source.key ∷ target.key ∷ []) false may_wait)
    unfolding LeadsTo
    tried_so source target may_wait e f =
        let a : node_of s.core source.key ≡ Some source.description.node = open_node s.core pid from_fd source (opened reads (open_fd s.core pid from_fd) source e) in
        let b : node_of s.core target.key ≡ Some target.description.node = open_node s.core pid to_fd target (opened writes (open_fd s.core pid to_fd) target f) in (
          refl,
          (
            there s.core source.key source.description.node from a (subst (λ o. IfSome o (λ (x : Open numbers). x.description.node ≡ from)) e on.0),
            there s.core target.key target.description.node to b (subst (λ o. IfSome o (λ (x : Open numbers). x.description.node ≡ to)) f on.1),
          ),
          unused s.next_description source.key target.key source.description.node target.description.node a b (omega arith),
          unused (s.next_description + 1) source.key target.key source.description.node target.description.node a b (omega arith),
        )
      where
        unused : (n d e : ℕ) (a b : Node numbers) → node_of s.core d ≡ Some a → node_of s.core e ≡ Some b → s.next_description ≤ n → All (λ k. k ≢ n) (d ∷ e ∷ [])
        unused n d e a b f g le = All-cons (λ k. k ≢ n) d (e ∷ []) (given s d n a below f le) (All-cons (λ k. k ≢ n) e [] (given s e n b below g le) (All-nil (λ k. k ≢ n)))

    splice_tried : (from_offset to_offset : Option ℕ) (len : ℕ) (flags : SpliceFlags) → LeadsTo (next_numbers s) IsTried (begin_splice s.core pid from_fd from_offset to_fd to_offset len flags)
    unfolding begin_splice
    splice_tried from_offset to_offset len flags = search (begun_found, begun_past, begun_if, may_refuse, answered_so, tried_so) depth 16

    tee_tried : (len : ℕ) (flags : SpliceFlags) → LeadsTo (next_numbers s) IsTried (begin_tee s.core pid from_fd to_fd len flags)
    unfolding begin_tee
    tee_tried len flags = search (begun_found, begun_past, begun_if, may_refuse, answered_so, tried_so) depth 16

  -- the checks of a call lead there
  abbrev pub BeginsSo : ℕ → Call A → Type 0
  BeginsSo pid call = LeadsTo (next_numbers s) IsTried (begin s.core pid call)

  pub splice_begins : (pid : ℕ) (from_fd to_fd : ℤ) (from_offset to_offset : Option ℕ) (len : ℕ) (flags : SpliceFlags) → IsBelowCounters s → OpensBoth s.core pid from_fd to_fd from to →
      BeginsSo pid (Call.Splice from_fd from_offset to_fd to_offset len flags)
  unfolding begin
  splice_begins pid from_fd to_fd from_offset to_offset len flags below on = splice_tried pid from_fd to_fd below on from_offset to_offset len flags

  pub tee_begins : (pid : ℕ) (from_fd to_fd : ℤ) (len : ℕ) (flags : SpliceFlags) → IsBelowCounters s → OpensBoth s.core pid from_fd to_fd from to → BeginsSo pid (Call.Tee from_fd to_fd len flags)
  unfolding begin
  tee_begins pid from_fd to_fd len flags below on = tee_tried pid from_fd to_fd below on len flags

module _ {A : Type 0} (p q : ℕ) (is_tee : Bool) (from to : Node numbers) (call : Call A)
    (tries : (s : Core A numbers) (w : Waiting A numbers) (may_wait : Bool) → KeepsBoth s w.kept from to → MoveTry p q is_tee from to s (try s w call may_wait)) where
  abbrev pub FirstCarries : List (List ℕ) → List (List ℕ) → Fate A → Type 0
  FirstCarries ins outs end = Carries is_tee from to p q ins outs end.ending

  -- one that begins
  pub begun_move : (place : ℕ) (s : State A) (xs : List (Step A × Bool)) (pid : ℕ) → IsBelowCounters s → AreInOrder s.core → BeginsSo s from to pid call → BegunWhole p q place s xs pid call FirstCarries
  unfolding LeadsTo
  begun_move place s xs pid below order leads = process (s.core.processes pid) (begin_to p q place s xs pid below order call)
    where
      quiet : (reply : Reply A) → StepTo s (Begin pid call) (stepped s.core reply) → says_parked reply ≡ false → counted (Answered reply) ≡ 0 → BegunWhole p q place s xs pid call FirstCarries
      quiet reply to_it not none = quiet_says p q place s xs pid call FirstCarries reply to_it not (carries_none p q is_tee from to (Answered reply) none)

      first : (w : Waiting A numbers) (may_wait : Bool) (t : Trial A numbers) → w.call ≡ call → KeepsBoth s.core w.kept from to → MoveTry p q is_tee from to s.core t →
          FirstSays p q place s xs pid call FirstCarries (IsMove p q is_tee from to call tries) (MoveSays p q is_tee from to call tries) (move_course p q is_tee from to call tries) w may_wait t
      first w may_wait (Done u flow reply) is on m = carries p q is_tee from to s.core flow (Answered reply) m
      first w may_wait (Wait u flow t) is on e = ((is, on), (λ ins outs end rest. carries_later p q is_tee from to call tries s.core flow ins outs end.ending e rest))

      tried : (kept : List ℕ) (met may_wait : Bool) → KeepsBoth s.core kept from to → All (λ k. k ≢ s.next_description) kept → All (λ k. k ≢ s.next_description + 1) kept →
          StepTo s (Begin pid call) (first_tried s.core (waiting pid call kept met) (may_wait && can_wait s.core pid) (try s.core (waiting pid call kept met) call may_wait)) → BegunWhole p q place s xs pid call FirstCarries
      tried kept met may_wait on apart other to_it =
          let w : Waiting A numbers = waiting pid call kept met in
          first_says p q place s xs pid call FirstCarries (IsMove p q is_tee from to call tries) (MoveSays p q is_tee from to call tries) (move_course p q is_tee from to call tries) w (may_wait && can_wait s.core pid)
          (try s.core w call may_wait) below order apart other
          (try-keeps (among_changes (next_numbers s) s.core) s.core w call may_wait (among_same s.core order.once))
          (try_fine s.core w call may_wait (has_none call) (λ h. refl))
          (first w (may_wait && can_wait s.core pid) (try s.core w call may_wait) refl on (tries s.core w may_wait on))
          (carries_none p q is_tee from to (Answered (Fault EAGAIN)) refl) (carries_none p q is_tee from to (Answered CallsSpent) refl)
          to_it

      at : (b : Begun A numbers) → IsTried s from to b → StepTo s (Begin pid call) (begun s.core pid call b) → BegunWhole p q place s xs pid call FirstCarries
      at (Refused errno) k to_it = quiet (Fault errno) to_it refl refl
      at (Answers_now u reply) k to_it =
          quiet (count 0) (subst (λ v. StepTo s (Begin pid call) (stepped v (count 0))) k.0 (subst (λ r. StepTo s (Begin pid call) (stepped u r)) k.1 to_it)) refl refl
      at (Tried u kept met may_wait) k to_it =
          tried kept met may_wait k.1 k.2 k.3
          (subst (λ v. StepTo s (Begin pid call) (first_tried s.core (waiting pid call kept met) (may_wait && can_wait s.core pid) (try v (waiting pid call kept met) call may_wait))) k.0 to_it)

      drawn_at : (b : Begins A numbers) → IsTried s from to (drawn (next_numbers s) b) → StepTo s (Begin pid call) (drawn (next_numbers s) (drawing_map (begun s.core pid call) b)) → BegunWhole p q place s xs pid call FirstCarries
      drawn_at (Plain b) k to_it = at b k to_it
      drawn_at (Draws f) k to_it = at (f (next_numbers s)) k to_it

      process : (b : Bool) → StepTo s (Begin pid call) (drawn (next_numbers s) (cond b (drawing_map (begun s.core pid call) (begin s.core pid call)) (Plain (stepped s.core NoProcess)))) →
          BegunWhole p q place s xs pid call FirstCarries
      process true to_it = drawn_at (begin s.core pid call) leads to_it
      process false to_it = quiet NoProcess to_it refl refl

module _ {A : Type 0} (p q : ℕ) (s : Core A numbers) where
  -- what happens adds the first bytes that the source holds
  abbrev AddsFirst : Flow numbers → Type 0
  AddsFirst flow = AddsFirstBytes (held s p) (into_pipe numbers flow.into q)

  adds_nothing : AddsFirst still
  adds_nothing = record { count = 0; first = refl }

  module _ (is_tee : Bool) where
    abbrev MovesFrom : Trial A numbers → Type 0
    MovesFrom t = MoveTry p q is_tee (PipeNode p) (PipeNode q) s t

    first_adds : (before : Core A numbers) (w : Waiting A numbers) (may_wait : Bool) (t : Trial A numbers) → MovesFrom t → AddsFirst (first_tried before w may_wait t).flow
    first_adds before w may_wait (Done u flow reply) m = record { count = counted (Answered reply); first = m.chunk refl ∙ m.first refl }
    first_adds before w false (Wait u flow t) e = adds_nothing
    first_adds before w true (Wait u flow t) e = at (before.next_call == last_call) where
      at : (b : Bool) → AddsFirst (cond b (stepped before CallsSpent) (record { state = parked (flowed u flow) (record w { taken = t }); reply = Parked before.next_call; flow = flow })).flow
      at true = adds_nothing
      at false = subst AddsFirst (sym e) adds_nothing

    again_adds : (c : ℕ) (w : Waiting A numbers) (t : Trial A numbers) → MovesFrom t → AddsFirst (tried_again c w t).flow
    again_adds c w (Done u flow reply) m = record { count = counted (Answered reply); first = m.chunk refl ∙ m.first refl }
    again_adds c w (Wait u flow t) e = subst AddsFirst (sym e) adds_nothing

    call_adds : (before : Core A numbers) (pid : ℕ) (call : Call A) (kept : List ℕ) (met may_wait : Bool) → MovesFrom (try s (waiting pid call kept met) call may_wait) →
        AddsFirst (begun before pid call (Tried s kept met may_wait)).flow
    call_adds before pid call kept met may_wait m = first_adds before (waiting pid call kept met) (may_wait && can_wait before pid) (try s (waiting pid call kept met) call may_wait) m

  resumed_adds : (c : ℕ) (w : Waiting A numbers) (call : Call A) → IsSpliceOrTee call → KeepsBoth s w.kept (PipeNode p) (PipeNode q) → AddsFirst (tried_again c w (try s w call true)).flow
  resumed_adds c w (Call.Splice from_fd from_offset to_fd to_offset len flags) is on = again_adds false c w _ (splice_moves p q (PipeNode p) (PipeNode q) from_fd to_fd len flags from_offset to_offset s w true on)
  resumed_adds c w (Call.Tee from_fd to_fd len flags) is on = again_adds true c w _ (tee_moves p q (PipeNode p) (PipeNode q) from_fd to_fd len flags s w true on)
  resumed_adds c w call is on = absurd is

module _ {A : Type 0} (p q : ℕ) (s : State A) (below : IsBelowCounters s) where
  -- the step does so
  abbrev pub StepAdds : Step A → Type 0
  StepAdds x = AddsFirstBytes (held s.core p) (added s x q)

  so_adds : (x : Step A) (h : Stepped A numbers) → StepTo s x h → AddsFirst p q s.core h.flow → StepAdds x
  unfolding added
  so_adds x h to_it adds = subst (AddsFirst p q s.core) (sym to_it.flow) adds

  begun_adds : (is_tee : Bool) (pid : ℕ) (call : Call A) →
      ((w : Waiting A numbers) (may_wait : Bool) → KeepsBoth s.core w.kept (PipeNode p) (PipeNode q) → MoveTry p q is_tee (PipeNode p) (PipeNode q) s.core (try s.core w call may_wait)) →
      BeginsSo s (PipeNode p) (PipeNode q) pid call → StepAdds (Begin pid call)
  unfolding happen LeadsTo
  begun_adds is_tee pid call tries leads = so_adds (Begin pid call) _ (step_to s (Begin pid call)) (process (s.core.processes pid))
    where
      at : (b : Begun A numbers) → IsTried s (PipeNode p) (PipeNode q) b → AddsFirst p q s.core (begun s.core pid call b).flow
      at (Refused errno) k = adds_nothing p q s.core
      at (Answers_now u reply) k = adds_nothing p q s.core
      at (Tried u kept met may_wait) k =
          subst (λ v. AddsFirst p q s.core (begun s.core pid call (Tried v kept met may_wait)).flow) (sym k.0)
          (call_adds p q s.core is_tee s.core pid call kept met may_wait (tries (waiting pid call kept met) may_wait k.1))

      drawn_at : (b : Begins A numbers) → IsTried s (PipeNode p) (PipeNode q) (drawn (next_numbers s) b) → AddsFirst p q s.core (drawn (next_numbers s) (drawing_map (begun s.core pid call) b)).flow
      drawn_at (Plain b) k = at b k
      drawn_at (Draws f) k = at (f (next_numbers s)) k

      process : (b : Bool) → AddsFirst p q s.core (drawn (next_numbers s) (cond b (drawing_map (begun s.core pid call) (begin s.core pid call)) (Plain (stepped s.core NoProcess)))).flow
      process true = drawn_at (begin s.core pid call) leads
      process false = adds_nothing p q s.core

  resume_adds : (c : ℕ) → TriesToCarry s.core (Resume c) (PipeNode p) (PipeNode q) → StepAdds (Resume c)
  unfolding happen
  resume_adds c on = so_adds (Resume c) _ (step_to s (Resume c)) (at (get nat_eq s.core.parked c) on)
    where
      at : (o : Option (Waiting A numbers)) → IfSome o (λ w. IsSpliceOrTee w.call × KeepsBoth s.core w.kept (PipeNode p) (PipeNode q)) → AddsFirst p q s.core (resumed s.core c o).flow
      at None on = adds_nothing p q s.core
      at (Some w) on = resumed_adds p q s.core c w w.call on.0 on.1

  -- each try of a splice or a tee between two pipes adds the first bytes that its source holds
  pub step_adds : (x : Step A) → TriesToCarry s.core x (PipeNode p) (PipeNode q) → StepAdds x
  step_adds (Begin pid (Call.Splice from_fd from_offset to_fd to_offset len flags)) on =
      begun_adds false pid (Call.Splice from_fd from_offset to_fd to_offset len flags) (splice_moves p q (PipeNode p) (PipeNode q) from_fd to_fd len flags from_offset to_offset s.core)
      (splice_begins s (PipeNode p) (PipeNode q) pid from_fd to_fd from_offset to_offset len flags below on)
  step_adds (Begin pid (Call.Tee from_fd to_fd len flags)) on =
      begun_adds true pid (Call.Tee from_fd to_fd len flags) (tee_moves p q (PipeNode p) (PipeNode q) from_fd to_fd len flags s.core)
      (tee_begins s (PipeNode p) (PipeNode q) pid from_fd to_fd len flags below on)
  step_adds (Resume c) on = resume_adds c on
  step_adds x on = absurd on

module _ {A : Type 0} (s : State A) (p q pid : ℕ) where
  -- a call that begins as a splice or a tee between two pipes
  pub carries_begins : (call : Call A) → IsBelowCounters s → TriesToCarry s.core (Begin pid call) (PipeNode p) (PipeNode q) → IsSpliceOrTee call × BeginsSo s (PipeNode p) (PipeNode q) pid call
  carries_begins (Call.Splice from_fd from_offset to_fd to_offset len flags) below on = (tt, splice_begins s (PipeNode p) (PipeNode q) pid from_fd to_fd from_offset to_offset len flags below on)
  carries_begins (Call.Tee from_fd to_fd len flags) below on = (tt, tee_begins s (PipeNode p) (PipeNode q) pid from_fd to_fd len flags below on)
  carries_begins call below on = absurd on
