-- What happens at once leaves what it doesn't touch.
use Rattle.std.proofs.Common.{◌≡◌, ℕ, ◌<◌, Bool, true, false, cond, [], ◌∷◌, ◌++◌, Option, length, nat_eq, refl, ◌∙◌, ap}
use Rattle.std.specs.Prelude.{◌==◌, ◌||◌, ◌&&◌, IsSome, get_or}
use Rattle.std.specs.List.{list_any}
use Rattle.std.specs.Set.{is_member}
use Rattle.std.specs.declared.option.Option.TheVariants.{None, Some}
use Rattle.std.proofs.lemmas.Bool.{false_from_ne_true, eqb-true}
use Rattle.std.proofs.lemmas.List.Folds.{list_any-append, list_any_at}
use Rattle.pl_model.specs.declared.calls.Call.{Call}
use Rattle.pl_model.specs.declared.calls.Step.{Step}
use Rattle.pl_model.specs.declared.calls.Step.TheVariants.{Start, Begin, Resume, Interrupt}
use Rattle.pl_model.specs.declared.replies.Reply.TheVariants.{NoProcess, CallsSpent, Parked}
use Rattle.pl_model.specs.Numbers.{last_call}
use Rattle.pl_model.specs.Map.{Map, get, put, without}
use Rattle.pl_model.specs.Keys.{Node, NewKeys, Plain, Draws, drawn, drawing_map}
use Rattle.pl_model.specs.State.{Core, Description, Waiting, can_wait}
use Rattle.pl_model.specs.Live.{is_live}
use Rattle.pl_model.specs.Trial.{Trial, Done, Wait, Begun, Begins, Refused, Answered, Tried, flowed}
use Rattle.pl_model.specs.Tables.{lowest_pid}
use Rattle.pl_model.specs.Step.{begin, happen, begun, first_tried, resumed, tried_again, interrupted, started, waiting, stepped, parked, without_call}
use Rattle.pl_model.specs.Touching.{keeps_at, waits_at, has_at, touches, touches_by, is_exit, is_of_call}
use Rattle.pl_model.specs.Numbered.{numbers}
use Rattle.pl_model.specs.StandsFor.{AreUnused}
use Rattle.pl_model.proofs.by_call.Ways.{BegunAll, LeadsTo, TrialAll}
use Rattle.pl_model.proofs.settling.Members.{or_left, or_right}
use Rattle.pl_model.proofs.settling.WhoIsLive.{is_on}
use Rattle.pl_model.proofs.settling.Parking.{keeps, keeps_put}
use Rattle.pl_model.proofs.settling.Opening.{same_refl}
use Rattle.pl_model.proofs.streams.Does.{flowed_parked}
use Rattle.pl_model.proofs.touching.SameAt.{SameAt, IsFit}
use Rattle.pl_model.proofs.touching.Changing.{Leaves, leaves_same, leaves_ends, no_two, calls_set, start_leaves, without_keeps}
use Rattle.pl_model.proofs.touching.Trying.{TryLeaves, try_leaves}
use Rattle.pl_model.proofs.touching.Calls.{Fine, begin_fine}
use Rattle.pl_model.proofs.touching.Staying.{AsParked, Stays, try_parked, begin_stays, begun_stays, end_stays, again_stays}

module _ {A : Type 0} (c : Core A numbers) (fit : IsFit c) (node : Node numbers) where
  same : Leaves c c node
  same = leaves_same c node

  first_leaves : (w : Waiting A numbers) (may_wait : Bool) (t : Trial A numbers) → TryLeaves c node t → Leaves c (first_tried c w may_wait t).state node
  first_leaves w may_wait (Done u flow reply) l = l
  first_leaves w false (Wait u flow taken) l = same
  first_leaves w true (Wait u flow taken) l = spent (c.next_call == last_call)
    where
      now : Waiting A numbers
      now = record w { taken = taken }

      more : (d : ℕ) → is_on node (c.descriptions d) ≡ true → keeps c.parked d ≡ true → keeps ((flowed u flow).parked ++ ((flowed u flow).next_call, now) ∷ []) d ≡ true
      more d on k = list_any-append (λ (e : ℕ × Waiting A numbers). is_member nat_eq e.1.kept d) (flowed u flow).parked (((flowed u flow).next_call, now) ∷ []) ∙ or_left _ _ (l.calls d on k)

      spent : (b : Bool) → Leaves c (cond b (stepped c CallsSpent) (record { state = parked (flowed u flow) (record w { taken = taken }); reply = Parked c.next_call; flow = flow })).state node
      spent true = same
      spent false = calls_set c node (flowed u flow) l _ _ more

  begun_leaves : (pid : ℕ) (call : Call A) (b : Begun A numbers) → Fine c node pid call b → Leaves c (begun c pid call b).state node
  begun_leaves pid call (Refused errno) k = same
  begun_leaves pid call (Answered u reply) k = k
  begun_leaves pid call (Tried u kept met may_wait) k = first_leaves (waiting pid call kept met) (may_wait && can_wait c pid) _ k

  module _ (n : ℕ) (w : Waiting A numbers) (here : get nat_eq c.parked n ≡ Some w) (off : keeps_at c node w ≡ false) where
    -- the call ends
    ends : (u : Core A numbers) → Leaves c u node → u.parked ≡ c.parked → Leaves c (without_call u n) node
    ends u l is = calls_set c node u l _ _ (λ d on k. ap (λ es. keeps (without nat_eq es n) d) is ∙ without_keeps c node n w fit.once here off d on k)

    again_leaves : (t : Trial A numbers) → TryLeaves c node t → TrialAll (AsParked c) t → Leaves c (tried_again n w t).state node
    again_leaves (Done u flow reply) l is = ends (flowed u flow) l (flowed_parked u flow ∙ is)
    again_leaves (Wait u flow taken) l is =
        let now = record w { taken = taken } in
        calls_set c node (flowed u flow) l _ _ (λ d on k. ap (λ es. keeps (put nat_eq es n now) d) (flowed_parked u flow ∙ is) ∙ keeps_put c.parked n w now d here refl ∙ k)

  resumed_leaves : (n : ℕ) (o : Option (Waiting A numbers)) → get nat_eq c.parked n ≡ o → waits_at c node o ≡ false → Leaves c (resumed c n o).state node
  resumed_leaves n None here off = same
  resumed_leaves n (Some w) here off = again_leaves n w here off _ (try_leaves c node w off w.call true) (try_parked c w w.call true)

  interrupted_leaves : (n : ℕ) (o : Option (Waiting A numbers)) → get nat_eq c.parked n ≡ o → waits_at c node o ≡ false → Leaves c (interrupted c n o).state node
  interrupted_leaves n None here off = same
  interrupted_leaves n (Some w) here off = ends n w here off c same refl

  started_leaves : (pid : Option ℕ) → Leaves c (started c pid).state node
  started_leaves None = same
  started_leaves (Some pid) = start_leaves c node pid

  module _ (new : NewKeys numbers) (unused : AreUnused c new) (d : ℕ) (on : is_on node (c.descriptions d) ≡ true) where
    happen_leaves : (x : Step A) → touches c x node ≡ false → Leaves c (drawn new (happen c x)).state node
    unfolding happen LeadsTo touches
    happen_leaves Start off = started_leaves (lowest_pid c)
    happen_leaves (Begin pid call) off = found (c.processes pid)
      where
        drawn_leaves : (b : Begins A numbers) → LeadsTo new (Fine c node pid call) b → Leaves c (drawn new (drawing_map (begun c pid call) b)).state node
        drawn_leaves (Plain b) k = begun_leaves pid call b k
        drawn_leaves (Draws f) k = begun_leaves pid call (f new) k

        found : (b : Bool) → Leaves c (drawn new (cond b (drawing_map (begun c pid call) (begin c pid call)) (Plain (stepped c NoProcess)))).state node
        found true = drawn_leaves (begin c pid call) (begin_fine c node new unused d on pid call off)
        found false = same
    happen_leaves (Resume n) off = resumed_leaves n (get nat_eq c.parked n) refl off
    happen_leaves (Interrupt n) off = interrupted_leaves n (get nat_eq c.parked n) refl off

module _ {A : Type 0} where
  -- A node that a step doesn't touch, and on which a description is, has the same ends after what happens at once, and holds the same.
  pub happened : (c : Core A numbers) (x : Step A) (new : NewKeys numbers) → AreUnused c new → IsFit c → (node : Node numbers) → (d : ℕ) → is_live c d ≡ true → is_on node (c.descriptions d) ≡ true →
      touches c x node ≡ false → SameAt c (drawn new (happen c x)).state node
  happened c x new unused fit node d live on off = leaves_ends c _ node fit.settled (happen_leaves c fit node new unused d on x off)

-- A call that is parked, and of which the step isn't.
module _ {A : Type 0} (c : Core A numbers) (new : NewKeys numbers) (number : ℕ) (w : Waiting A numbers) (here : get nat_eq c.parked number ≡ Some w) where
  resumed_stays : (k : ℕ) → nat_eq k number ≡ false → (o : Option (Waiting A numbers)) → Stays c new number w here (resumed c k o).state
  resumed_stays k other None = here
  resumed_stays k other (Some v) = again_stays c new number w here k v _ other (try_parked c v v.call true)

  interrupted_stays : (k : ℕ) → nat_eq k number ≡ false → (o : Option (Waiting A numbers)) → Stays c new number w here (interrupted c k o).state
  interrupted_stays k other None = here
  interrupted_stays k other (Some v) = end_stays c new number w here c k other here

  started_stays : (pid : Option ℕ) → Stays c new number w here (started c pid).state
  started_stays None = here
  started_stays (Some pid) = here

  happen_stays : (x : Step A) → is_of_call x number w ≡ false → ((node : Node numbers) → keeps_at c node w ≡ true → touches c x node ≡ false) → Stays c new number w here (drawn new (happen c x)).state
  unfolding happen LeadsTo touches
  happen_stays Start other off = started_stays (lowest_pid c)
  happen_stays (Begin pid call) other off = found (c.processes pid)
    where
      drawn_stays : (b : Begins A numbers) → LeadsTo new (BegunAll (Stays c new number w here)) b → Stays c new number w here (drawn new (drawing_map (begun c pid call) b)).state
      drawn_stays (Plain b) k = begun_stays c new number w here pid call b k
      drawn_stays (Draws f) k = begun_stays c new number w here pid call (f new) k

      found : (b : Bool) → Stays c new number w here (drawn new (cond b (drawing_map (begun c pid call) (begin c pid call)) (Plain (stepped c NoProcess)))).state
      found true = drawn_stays (begin c pid call) (begin_stays c new number w here pid call other off)
      found false = here
  happen_stays (Resume k) other off = resumed_stays k other (get nat_eq c.parked k)
  happen_stays (Interrupt k) other off = interrupted_stays k other (get nat_eq c.parked k)

module _ {A : Type 0} where
  -- A call that keeps descriptions on no node that the step touches is parked as it was after what happens at once, unless the step is of the
  -- call itself: a poll that keeps nothing is at no node.
  pub call_stays : (c : Core A numbers) (x : Step A) (new : NewKeys numbers) → AreUnused c new → IsFit c → (number : ℕ) (w : Waiting A numbers) → get nat_eq c.parked number ≡ Some w →
      is_of_call x number w ≡ false → ((node : Node numbers) → keeps_at c node w ≡ true → touches c x node ≡ false) → get nat_eq (drawn new (happen c x)).state.parked number ≡ Some w
  call_stays c x new unused fit number w here other off = happen_stays c new number w here x other off

-- A call that keeps something is at a node, which each step of the call touches.
module _ {A : Type 0} (c : Core A numbers) (fit : IsFit c) (number : ℕ) (w : Waiting A numbers) (here : get nat_eq c.parked number ≡ Some w) (some : 0 < length w.kept) where
  kept_node : (node : Node numbers) × (keeps_at c node w ≡ true)
  kept_node = at (c.descriptions (get_or w.kept 0 0)) refl (fit.kept number w here 0 0 some)
    where
      at : (o : Option (Description numbers)) → c.descriptions (get_or w.kept 0 0) ≡ o → IsSome o → (node : Node numbers) × (keeps_at c node w ≡ true)
      at None e is = absurd (cc)
      at (Some x) e is = (x.node, list_any_at (λ d. is_on x.node (c.descriptions d)) w.kept 0 0 some (ap (is_on x.node) e ∙ (λ i. same_refl x.node i && true)))

  any_parked : (t : Waiting A numbers → Bool) (es : Map ℕ (Waiting A numbers)) → get nat_eq es number ≡ Some w → t w ≡ true → list_any (λ (e : ℕ × Waiting A numbers). t e.1) es ≡ true
  any_parked t [] there passes = absurd (cc)
  any_parked t (e ∷ es) there passes = at (nat_eq e.0 number) there (any_parked t es)
    where
      at : (b : Bool) → cond b (Some e.1) (get nat_eq es number) ≡ Some w → (get nat_eq es number ≡ Some w → t w ≡ true → list_any (λ (e : ℕ × Waiting A numbers). t e.1) es ≡ true) →
          (t e.1 || list_any (λ (e : ℕ × Waiting A numbers). t e.1) es) ≡ true
      at true there rest = (let same : e.1 ≡ w = cc in or_left (t e.1) _ (ap t same ∙ passes))
      at false there rest = or_right (t e.1) _ (rest there passes)

  waits_here : (node : Node numbers) → keeps_at c node w ≡ true → (k : ℕ) → nat_eq k number ≡ true → waits_at c node (get nat_eq c.parked k) ≡ true
  waits_here node at k is = ap (waits_at c node) (ap (get nat_eq c.parked) (eqb-true k number is) ∙ here) ∙ at

  exits_here : (node : Node numbers) → keeps_at c node w ≡ true → (pid : ℕ) → nat_eq w.pid pid ≡ true → has_at c node pid ≡ true
  exits_here node at pid is = or_right _ _ (any_parked (λ v. nat_eq v.pid pid && keeps_at c node v) c.parked here (λ i. is i && at i))

  touched : (node : Node numbers) → keeps_at c node w ≡ true → (x : Step A) → is_of_call x number w ≡ true → touches c x node ≡ true
  unfolding touches touches_by
  touched node at Start is = absurd (cc)
  touched node at (Begin pid call) is = exits call is
    where
      exits : (call : Call A) → (is_exit call && nat_eq w.pid pid) ≡ true → touches_by c node pid call ≡ true
      exits Call.Exit is = exits_here node at pid is
      exits call is = absurd (cc)
  touched node at (Resume k) is = waits_here node at k is
  touched node at (Interrupt k) is = waits_here node at k is

  -- so a step that touches no node of it is of another call
  pub of_another : (x : Step A) → ((node : Node numbers) → keeps_at c node w ≡ true → touches c x node ≡ false) → is_of_call x number w ≡ false
  of_another x off = false_from_ne_true _ (λ is. no_two (touched kept_node.0 kept_node.1 x is) (off kept_node.0 kept_node.1))

module _ {A : Type 0} where
  -- So one that keeps something is parked as it was, whatever the step.
  pub kept_call_stays : (c : Core A numbers) (x : Step A) (new : NewKeys numbers) → AreUnused c new → IsFit c → (number : ℕ) (w : Waiting A numbers) → get nat_eq c.parked number ≡ Some w →
      0 < length w.kept → ((node : Node numbers) → keeps_at c node w ≡ true → touches c x node ≡ false) → get nat_eq (drawn new (happen c x)).state.parked number ≡ Some w
  kept_call_stays c x new unused fit number w here some off = call_stays c x new unused fit number w here (of_another c fit number w here some x off) off
