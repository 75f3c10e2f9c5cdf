-- Polls over a run: they move no byte.
use Rattle.std.proofs.Common.{◌≡◌, ◌≢◌, ℕ, ℤ, ◌+◌, ◌≤◌, Bool, true, false, cond, Option, List, [], ◌++◌, length, refl, sym, ◌∙◌, ap, subst, nat_eq, arith}
use Rattle.std.specs.Prelude.{◌||◌, not, nat_lt, map, is_none, All, IsSome, option_map, ◌&&◌}
use Rattle.std.specs.List.{list_any}
use Rattle.std.specs.declared.option.Option.TheVariants.{None, Some}
use Rattle.std.proofs.lemmas.List.Elements.{All-weaker}
use Rattle.pl_model.specs.declared.calls.Call.{Call}
use Rattle.pl_model.specs.declared.calls.Step.{Step}
use Rattle.pl_model.specs.declared.calls.Step.TheVariants.{Begin}
use Rattle.pl_model.specs.declared.flags.PollMask.{PollMask}
use Rattle.pl_model.specs.declared.replies.Reply.{Reply}
use Rattle.pl_model.specs.declared.replies.Reply.TheVariants.{Fault, NoProcess}
use Rattle.pl_model.specs.declared.replies.Errno.TheVariants.{EINVAL}
use Rattle.pl_model.specs.Tables.{entry_limit}
use Rattle.pl_model.specs.Map.{get}
use Rattle.pl_model.specs.Keys.{Plain, drawn, drawing_map}
use Rattle.pl_model.specs.State.{Core, Description, Open, Waiting, described, can_wait}
use Rattle.pl_model.specs.Trial.{Trial, Done, Wait, Flow, still, answered, tried as tried_with, refuse_if}
use Rattle.pl_model.specs.Poll.{masks, masks_reply, is_ready, try_poll}
use Rattle.pl_model.specs.Begin.{named_by, begin_poll}
use Rattle.pl_model.specs.Step.{try, begin, begun, first_tried, stepped, waiting}
use Rattle.pl_model.specs.Numbered.{numbers, State, next_numbers}
use Rattle.pl_model.specs.StandsFor.{IsBelowCounters}
use Rattle.pl_model.specs.Stream.{held, into_pipe, out_of_pipe}
use Rattle.pl_model.specs.Chunks.{OfCall, unless_empty, of, piece_added, pieces_left, pieces_from}
use Rattle.pl_model.specs.Fates.{Fate}
use Rattle.pl_model.specs.InOrder.{AreInOrder}
use Rattle.pl_model.specs.StreamLaw.{MovesNothing}
use Rattle.pl_model.proofs.by_call.Keeps.{try-keeps}
use Rattle.pl_model.proofs.by_call.Polls.{kept_now, found_now, kept-described}
use Rattle.pl_model.proofs.streams.Does.{try_fine, among_same, among_changes}
use Rattle.pl_model.proofs.streams.Courses.{StepTo}
use Rattle.pl_model.proofs.streams.CallRuns.{Course, TrySays, course_run}
use Rattle.pl_model.proofs.streams.BegunRuns.{BegunWhole, FirstSays, begin_to, first_says, quiet_says}

module _ (p q : ℕ) where
  no_ins : (flow : Flow numbers) → flow ≡ still → unless_empty (into_pipe numbers flow.into q) ≡ []
  no_ins flow e = ap (λ (f : Flow numbers). unless_empty (into_pipe numbers f.into q)) e

  no_outs : (before : List ℕ) (flow : Flow numbers) → flow ≡ still → unless_empty (out_of_pipe numbers before flow.out p) ≡ []
  no_outs before flow e = ap (λ (f : Flow numbers). unless_empty (out_of_pipe numbers before f.out p)) e

  -- what moved nothing, before what moves nothing
  then_nothing : (before : List ℕ) (flow : Flow numbers) (ins outs : List (List ℕ)) → flow ≡ still → MovesNothing ins outs →
      MovesNothing (unless_empty (into_pipe numbers flow.into q) ++ ins) (unless_empty (out_of_pipe numbers before flow.out p) ++ outs)
  then_nothing before flow ins outs e rest = ((λ i. no_ins flow e i ++ rest.0 i), (λ i. no_outs before flow e i ++ rest.1 i))

module _ {A : Type 0} (p q : ℕ) (entries : List (ℤ × PollMask)) (wait : Bool) where
  abbrev poll : Call A
  poll = Call.Poll entries wait

  -- a parked poll
  abbrev pub IsPoll : Core A numbers → Waiting A numbers → Type 0
  IsPoll s w = w.call ≡ poll

  abbrev pub PollSays : Waiting A numbers → List (List ℕ) → List (List ℕ) → Fate A → Type 0
  PollSays w ins outs end = MovesNothing ins outs

  -- no try moves a byte
  abbrev PollTry : Trial A numbers → Type 0
  PollTry (Done u flow reply) = flow ≡ still
  PollTry (Wait u flow t) = flow ≡ still

  poll_try : (s : Core A numbers) (w : Waiting A numbers) (may_wait : Bool) → PollTry (try s w poll may_wait)
  unfolding try try_poll
  poll_try s w may_wait = at (list_any is_ready found || not may_wait) where
    found : List PollMask
    found = masks s entries (map (described s) w.kept)

    at : (b : Bool) → PollTry (cond b (Done s still (masks_reply found)) (Wait s still 0))
    at true = refl
    at false = refl

  tried_poll : (s : Core A numbers) (w : Waiting A numbers) (t : Trial A numbers) → IsPoll s w → PollTry t → TrySays p q IsPoll PollSays s w t
  tried_poll s w (Done u flow reply) is e = (no_ins p q flow e, no_outs p q (held s p) flow e)
  tried_poll s w (Wait u flow t) is e = (is, (λ ins outs end rest. then_nothing p q (held s p) flow ins outs e rest))

  poll_course : Course p q IsPoll PollSays
  poll_course =
      record {
        stays = λ s x w below first second is. is;
        met = λ s w met is. is;
        says_met = λ w met ins outs end says. says;
        waits = λ s w is. (refl, refl);
        drops = λ s w is. (refl, refl);
        interrupted = λ s w is. (refl, refl);
        tries = λ s w is. tried_poll s w (try s w w.call true) is (subst (λ z. PollTry (try s w z true)) (sym is) (poll_try s w true));
      }

  pub poll_run : (place : ℕ) (s : State A) (xs : List (Step A × Bool)) (c : ℕ) (w : Waiting A numbers) → IsBelowCounters s → AreInOrder s.core → get nat_eq s.core.parked c ≡ Some w → IsPoll s.core w →
      MovesNothing (of (OfCall c) (pieces_from (piece_added q) place s xs)) (of (OfCall c) (pieces_from (pieces_left p) place s xs))
  poll_run place s xs c w below order here is = course_run p q IsPoll PollSays poll_course place s xs c w below order here is

  -- one that begins
  module _ (place : ℕ) (s : State A) (xs : List (Step A × Bool)) (pid : ℕ) (below : IsBelowCounters s) (order : AreInOrder s.core) where
    abbrev pub PollFirst : List (List ℕ) → List (List ℕ) → Fate A → Type 0
    PollFirst ins outs end = MovesNothing ins outs

    abbrev kept : List ℕ
    kept = kept_now s.core pid entries

    abbrev reply : Reply A
    reply = masks_reply (found_now s.core pid entries)

    first : (w : Waiting A numbers) (may : Bool) (t : Trial A numbers) → w.call ≡ poll → PollTry t → FirstSays p q place s xs pid poll PollFirst IsPoll PollSays poll_course w may t
    first w may (Done u flow answer) is e = (no_ins p q flow e, no_outs p q (held s.core p) flow e)
    first w may (Wait u flow t) is e = (is, (λ ins outs end rest. then_nothing p q (held s.core p) flow ins outs e rest))

    -- what is kept has no number above all that were given
    old : (n : ℕ) → s.next_description ≤ n → All (λ d. d ≢ n) kept
    old n le = All-weaker (λ d. IsSome (described s.core d)) (λ d. d ≢ n) not_new kept (kept-described s.core pid entries) where
      not_new : (d : ℕ) → IsSome (described s.core d) → d ≢ n
      not_new d there same = at (s.core.descriptions d) there (ap s.core.descriptions same ∙ (below.descriptions n le).descriptions) where
        at : (o : Option (Description numbers)) → IsSome {T = Open numbers} (option_map (λ x. record { key = d; description = x }) o) → o ≡ None → ⊥
        at None there e = cc
        at (Some x) there e = cc

    pub begun_poll : BegunWhole p q place s xs pid poll PollFirst
    unfolding begin begin_poll
    begun_poll = process (s.core.processes pid) (begin_to p q place s xs pid below order poll)
      where
        tried : StepTo s (Begin pid poll) (first_tried s.core (waiting pid poll kept false) (wait && can_wait s.core pid) (try s.core (waiting pid poll kept false) poll wait)) → BegunWhole p q place s xs pid poll PollFirst
        tried to =
            let w : Waiting A numbers = waiting pid poll kept false in
            first_says p q place s xs pid poll PollFirst IsPoll PollSays poll_course w (wait && can_wait s.core pid) (try s.core w poll wait) below order
            (old s.next_description (omega arith)) (old (s.next_description + 1) (omega arith))
            (try-keeps (among_changes (next_numbers s) s.core) s.core w poll wait (among_same s.core order.once))
            (try_fine s.core w poll wait tt (λ h. refl))
            (first w (wait && can_wait s.core pid) (try s.core w poll wait) refl (poll_try s.core w wait))
            (refl, refl) (refl, refl) to

        named : (b : Bool) → StepTo s (Begin pid poll) (drawn (next_numbers s) (drawing_map (begun s.core pid poll) (cond b (answered s.core reply) (tried_with s.core kept false wait)))) → BegunWhole p q place s xs pid poll PollFirst
        named true to = quiet_says p q place s xs pid poll PollFirst reply to refl (refl, refl)
        named false to = tried to

        sized : (b : Bool) → StepTo s (Begin pid poll) (drawn (next_numbers s) (drawing_map (begun s.core pid poll) (refuse_if b EINVAL (cond (list_any is_none (named_by s.core pid entries)) (answered s.core reply) (tried_with s.core kept false wait))))) →
            BegunWhole p q place s xs pid poll PollFirst
        sized true to = quiet_says p q place s xs pid poll PollFirst (Fault EINVAL) to refl (refl, refl)
        sized false to = named (list_any is_none (named_by s.core pid entries)) to

        process : (b : Bool) → StepTo s (Begin pid poll) (drawn (next_numbers s) (cond b (drawing_map (begun s.core pid poll) (begin s.core pid poll)) (Plain (stepped s.core NoProcess)))) → BegunWhole p q place s xs pid poll PollFirst
        process true to = sized (nat_lt (entry_limit s.core.limits) (length entries)) to
        process false to = quiet_says p q place s xs pid poll PollFirst NoProcess to refl (refl, refl)
