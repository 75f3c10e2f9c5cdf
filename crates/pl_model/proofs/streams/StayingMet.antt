-- What holds of a parked call stays, where it doesn't hang on what a write took, nor on whether an open met; so an open that met stays met.
use Rattle.std.proofs.lemmas.Bool.{eqb-true}
use Rattle.std.proofs.Common.{◌≡◌, ◌≢◌, ℕ, ◌<◌, Bool, true, false, not, cond, Option, List, [], ◌∷◌, inl, inr, refl, sym, ◌∙◌, ap, subst, nat_eq, arith}
use Rattle.std.specs.Prelude.{◌==◌, option_map, ◌&&◌}
use Rattle.std.specs.declared.option.Option.TheVariants.{None, Some}
use Rattle.std.specs.List.{filter}
use Rattle.std.proofs.lemmas.Bool.Decides.{eqb_tells}
use Rattle.pl_model.specs.declared.calls.Call.{Call}
use Rattle.pl_model.specs.declared.calls.Mode.{Mode}
use Rattle.pl_model.specs.declared.calls.Step.{Step}
use Rattle.pl_model.specs.declared.calls.Step.TheVariants.{Start, Begin, Resume, Interrupt}
use Rattle.pl_model.specs.declared.replies.Reply.TheVariants.{NoProcess, CallsSpent, Parked}
use Rattle.pl_model.specs.Numbers.{last_call}
use Rattle.pl_model.specs.Map.{Map, get, put, EachOnce}
use Rattle.pl_model.specs.Keys.{NewKeys, Plain, Draws, drawn, drawing_map}
use Rattle.pl_model.specs.State.{Core, Waiting, can_wait}
use Rattle.pl_model.specs.Trial.{Trial, Flow, Done, Wait, Begun, Begins, Refused, Answered, Tried, flowed}
use Rattle.pl_model.specs.Tables.{lowest_pid}
use Rattle.pl_model.specs.Fifo.{meet, meets}
use Rattle.pl_model.specs.Step.{begin, happen, begun, first_tried, resumed, tried_again, interrupted, started, waiting, stepped, parked}
use Rattle.pl_model.specs.Numbered.{numbers, State, next_numbers, step}
use Rattle.pl_model.specs.Run.{after}
use Rattle.pl_model.specs.InOrder.{AreInOrder}
use Rattle.pl_model.specs.Meeting.{StaysMet, RunsStayMet}
use Rattle.pl_model.proofs.by_call.Ways.{BegunAll, LeadsTo, TrialAll}
use Rattle.pl_model.proofs.by_call.Keeps.{Changes, begin-keeps, try-keeps}
use Rattle.pl_model.proofs.settling.Meeting.{met_by, meet-get}
use Rattle.pl_model.proofs.streams.Maps.{put_same, put_other, append_other, filter_from}
use Rattle.pl_model.proofs.streams.Does.{Among, among_same, among_changes, among_flowed, flowed_parked}
use Rattle.pl_model.proofs.streams.Courses.{step_to, step_order, step_rises}

-- What holds of a call holds however many bytes it took, and once it met its other end.
pub record IsOfCall {A : Type 0} (Q : Waiting A numbers → Type 0) : Type 0 where
  pub taken : (w : Waiting A numbers) (t : ℕ) → Q w → Q (record w { taken = t })
  pub met : (w : Waiting A numbers) → Q w → Q (record w { met = true })

module _ {A : Type 0} (n : ℕ) (Q : Waiting A numbers → Type 0) (stays : IsOfCall Q) where
  -- it holds of the call of the number, if one is parked
  abbrev pub HoldsIn : Map ℕ (Waiting A numbers) → Type 0
  HoldsIn calls = (w : Waiting A numbers) → get nat_eq calls n ≡ Some w → Q w

  filtered : (t : ℕ × Waiting A numbers → Bool) (calls : Map ℕ (Waiting A numbers)) → EachOnce nat_eq calls → HoldsIn calls → HoldsIn (filter t calls)
  filtered t calls once h w g = h w (filter_from t calls n w once g)

  flows : (u : Core A numbers) (flow : Flow numbers) → HoldsIn u.parked → HoldsIn (flowed u flow).parked
  flows u flow h w g = h w (ap (λ calls. get nat_eq calls n) (sym (flowed_parked u flow)) ∙ g)

  met_more : (u : Core A numbers) (p : ℕ) (mode : Mode) → HoldsIn u.parked → HoldsIn (meet u p mode).parked
  met_more u p mode h w g = by (get nat_eq u.parked n) refl (sym (meet-get u p mode n) ∙ g)
    where
      more : (v : Waiting A numbers) (b : Bool) → Q v → Q (cond b (record v { met = true }) v)
      more v true q = stays.met v q
      more v false q = q

      by : (o : Option (Waiting A numbers)) → get nat_eq u.parked n ≡ o → option_map (met_by u p mode) o ≡ Some w → Q w
      by None e g = absurd (cc)
      by (Some v) e g =
          let same : met_by u p mode v ≡ w = cc in
          subst Q same (more v (meets u p mode v) (h v e))

  -- a call that was given its number before is in no step but its own
  module _ (new : NewKeys numbers) (s : Core A numbers) (order : AreInOrder s) (given : n < s.next_call) (before : HoldsIn s.parked) where
    abbrev Met : Core A numbers → Type 0
    Met u = Among s u × HoldsIn u.parked

    at_first : Met s
    at_first = (among_same s order.once, before)

    met_changes : Changes new Met
    met_changes =
        record {
          one = eqb-true;
          install = λ u pid fd d h. h;
          close_row = λ u pid fd h. h;
          describe_other = λ u node mode flags h. h;
          describe = λ u node mode flags h. h;
          set_description = λ u d x on h. h;
          new_pipe = λ u direct h. h;
          set_capacity = λ u p size h. h;
          set_file = λ u f bytes h. h;
          create_file = λ u name h. h;
          create_fifo = λ u name h. h;
          meet = λ u p mode h. ((among_changes new s).meet u p mode h.0, met_more u p mode h.1);
          forget_name = λ u name h. h;
          fork = λ u pid child h. h;
          exit = λ u pid h. ((among_changes new s).exit u pid h.0, filtered (λ c. not (nat_eq c.1.pid pid)) u.parked h.0.once h.1);
        }

    first_met : (w : Waiting A numbers) (may_wait : Bool) (t : Trial A numbers) → TrialAll Met t → HoldsIn (first_tried s w may_wait t).state.parked
    first_met w may_wait (Done u flow reply) k = flows u flow k.1
    first_met w false (Wait u flow taken) k = before
    first_met w true (Wait u flow taken) k = spent (s.next_call == last_call)
      where
        apart : (flowed u flow).next_call ≢ n
        apart e = omega (arith, given, e, (among_flowed s u flow k.0).next)

        spent : (b : Bool) → HoldsIn (cond b (stepped s CallsSpent) (record { state = parked (flowed u flow) (record w { taken = taken }); reply = Parked s.next_call; flow = flow })).state.parked
        spent true = before
        spent false = λ v g. flows u flow k.1 v (sym (append_other (flowed u flow).parked (flowed u flow).next_call n (record w { taken = taken }) apart) ∙ g)

    begun_met : (pid : ℕ) (call : Call A) (b : Begun A numbers) → BegunAll Met b → HoldsIn (begun s pid call b).state.parked
    begun_met pid call (Refused errno) k = before
    begun_met pid call (Answered u reply) k = k.1
    begun_met pid call (Tried u kept met may_wait) k = first_met (waiting pid call kept met) (may_wait && can_wait s pid) _ (try-keeps met_changes u (waiting pid call kept met) call may_wait k)

    again_met : (c : ℕ) (w : Waiting A numbers) (t : Trial A numbers) → get nat_eq s.parked c ≡ Some w → TrialAll Met t → HoldsIn (tried_again c w t).state.parked
    again_met c w (Done u flow reply) here k v g = filtered (λ e. not (nat_eq c e.0)) (flowed u flow).parked (among_flowed s u flow k.0).once (flows u flow k.1) v g
    again_met c w (Wait u flow taken) here k v g = elim (eqb_tells c n) as (λ _. Q v) [
      | inl t ↦
          let now = record w { taken = taken } in
          let is : Some now ≡ Some v = sym (put_same (flowed u flow).parked c now) ∙ ap (get nat_eq (put nat_eq (flowed u flow).parked c now)) t.1 ∙ g in
          let same : now ≡ v = cc in
          subst Q same (stays.taken w taken (before w (ap (get nat_eq s.parked) (sym t.1) ∙ here)))
      | inr t ↦ flows u flow k.1 v (sym (put_other (flowed u flow).parked c n (record w { taken = taken }) t.1) ∙ g)
    ]

    resumed_met : (c : ℕ) (o : Option (Waiting A numbers)) → get nat_eq s.parked c ≡ o → HoldsIn (resumed s c o).state.parked
    resumed_met c None here = before
    resumed_met c (Some w) here = again_met c w _ here (try-keeps met_changes s w w.call true at_first)

    interrupted_met : (c : ℕ) (o : Option (Waiting A numbers)) → HoldsIn (interrupted s c o).state.parked
    interrupted_met c None = before
    interrupted_met c (Some w) = filtered (λ e. not (nat_eq c e.0)) s.parked order.once before

    started_met : (pid : Option ℕ) → HoldsIn (started s pid).state.parked
    started_met None = before
    started_met (Some pid) = before

    pub happen_met : (x : Step A) → HoldsIn (drawn new (happen s x)).state.parked
    unfolding happen LeadsTo
    happen_met Start = started_met (lowest_pid s)
    happen_met (Begin pid call) = found (s.processes pid)
      where
        drawn_met : (b : Begins A numbers) → LeadsTo new (BegunAll Met) b → HoldsIn (drawn new (drawing_map (begun s pid call) b)).state.parked
        drawn_met (Plain b) k = begun_met pid call b k
        drawn_met (Draws f) k = begun_met pid call (f new) k

        found : (b : Bool) → HoldsIn (drawn new (cond b (drawing_map (begun s pid call) (begin s pid call)) (Plain (stepped s NoProcess)))).state.parked
        found true = drawn_met (begin s pid call) (begin-keeps met_changes s pid call at_first)
        found false = before
    happen_met (Resume c) = resumed_met c (get nat_eq s.parked c) refl
    happen_met (Interrupt c) = interrupted_met c (get nat_eq s.parked c)

  step_met : (s : State A) (x : Step A) → AreInOrder s.core → n < s.core.next_call → HoldsIn s.core.parked → HoldsIn (step s x).state.core.parked
  step_met s x order given h w g = happen_met (next_numbers s) s.core order given h x w (ap (λ calls. get nat_eq calls n) (sym (step_to s x).parked) ∙ g)

  run_met : (s : State A) (xs : List (Step A × Bool)) → AreInOrder s.core → n < s.core.next_call → HoldsIn s.core.parked → HoldsIn (after s xs).core.parked
  run_met s [] order given h = h
  run_met s ((x, true) ∷ xs) order given h = run_met s xs order given h
  run_met s ((x, false) ∷ xs) order given h = run_met (step s x).state xs (step_order s x order) (omega (arith, given, step_rises s x order)) (step_met s x order given h)

module _ {A : Type 0} where
  one_call : {v z : Waiting A numbers} → Some v ≡ Some z → v ≡ z
  one_call e = cc

  -- what holds of the call of a number holds of all that may be parked under it
  pub holds_at_first : (Q : Waiting A numbers → Type 0) (stays : IsOfCall Q) (calls : Map ℕ (Waiting A numbers)) (n : ℕ) (w : Waiting A numbers) → get nat_eq calls n ≡ Some w → Q w → HoldsIn n Q stays calls
  holds_at_first Q stays calls n w here q v g = subst Q (one_call (sym here ∙ g)) q

  abbrev has_met : Waiting A numbers → Type 0
  has_met w = w.met ≡ true

  has_met_stays : IsOfCall has_met
  has_met_stays = record { taken = λ w t m. m; met = λ w m. refl }

  pub stays_met : StaysMet A
  stays_met s x n order is = step_met n has_met has_met_stays s x order (order.below n is.call is.parked) (holds_at_first has_met has_met_stays s.core.parked n is.call is.parked is.met)

  pub runs_stay_met : RunsStayMet A
  runs_stay_met s xs n order is = run_met n has_met has_met_stays s xs order (order.below n is.call is.parked) (holds_at_first has_met has_met_stays s.core.parked n is.call is.parked is.met)
