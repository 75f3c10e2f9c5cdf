-- A splice or a tee adds the bytes that its source holds at the moment.
use Rattle.std.proofs.Common.{◌≡◌, ◌≢◌, ◌⊎◌, inl, inr, ℕ, ◌+◌, ◌<◌, ◌≤◌, Bool, true, false, cond, Option, List, [], ◌∷◌, ◌++◌, length, refl, sym, ◌∙◌, ap, subst, nat_eq, length-append, arith}
use Rattle.std.specs.Prelude.{◌==◌, IfSome, All, ◌&&◌}
use Rattle.std.specs.declared.option.Option.TheVariants.{None, Some}
use Rattle.std.proofs.lemmas.Bool.Decides.{eqb_tells}
use Rattle.pl_model.specs.declared.calls.Call.{Call}
use Rattle.pl_model.specs.declared.calls.Step.{Step}
use Rattle.pl_model.specs.declared.calls.Step.TheVariants.{Start, Begin, Resume, Interrupt}
use Rattle.pl_model.specs.declared.replies.Reply.{Reply}
use Rattle.pl_model.specs.declared.replies.Reply.TheVariants.{Parked, NoProcess, CallsSpent}
use Rattle.pl_model.specs.Numbers.{last_call}
use Rattle.pl_model.specs.Map.{get}
use Rattle.pl_model.specs.Keys.{PipeNode, Plain, Draws, drawn, drawing_map}
use Rattle.pl_model.specs.State.{Core, Waiting, can_wait}
use Rattle.pl_model.specs.Trial.{Trial, Done, Wait, flowed, Begun, Begins, Refused, Answered as Answers_now, Tried}
use Rattle.pl_model.specs.Step.{Stepped, try, begin, begun, happen, first_tried, parked, stepped, waiting}
use Rattle.pl_model.specs.Numbered.{numbers, State, next_numbers, step}
use Rattle.pl_model.specs.Run.{after}
use Rattle.pl_model.specs.StandsFor.{IsBelowCounters}
use Rattle.pl_model.specs.Stream.{held}
use Rattle.pl_model.specs.Streams.{added}
use Rattle.pl_model.specs.Chunks.{OfCall, AtPlace, same_tag, tag_answered, tag_of, piece, unless_empty, of, piece_added}
use Rattle.pl_model.specs.InOrder.{AreInOrder}
use Rattle.pl_model.specs.OnNodes.{KeepsBoth}
use Rattle.pl_model.specs.Carried.{IsSpliceOrTee, TriesToCarry, AddsFirstBytes, EachAddsFirst}
use Rattle.pl_model.proofs.renaming.Simulates.{below_step}
use Rattle.pl_model.proofs.by_call.Ways.{LeadsTo, TrialAll}
use Rattle.pl_model.proofs.by_call.Keeps.{try-keeps}
use Rattle.pl_model.proofs.streams.Maps.{put_same, without_same, append_new}
use Rattle.pl_model.proofs.streams.Writes.{same_number}
use Rattle.pl_model.proofs.streams.Does.{Among, TrialFine, try_fine, has_none, at_its_place, among_same, among_changes, among_flowed}
use Rattle.pl_model.proofs.streams.Courses.{StepTo, step_to, step_order, step_rises, run_rises, run_order, StepApart, step_apart, nothing_there}
use Rattle.pl_model.proofs.streams.Pieces.{of_same, place_apart}
use Rattle.pl_model.proofs.streams.CallRuns.{resume_to, same_resumed, unused}
use Rattle.pl_model.proofs.streams.Nodes.{keeps_step}
use Rattle.pl_model.proofs.streams.BegunRuns.{run_below}
use Rattle.pl_model.proofs.streams.MoveBegins.{IsTried, BeginsSo, carries_begins, step_adds}

module _ {X : Type 0} where
  -- two places of one list: the same, or one before the other
  data Places (before before' : List X) (x y : X) : Type 0 where
    Same : before ≡ before' → x ≡ y → Places before before' x y
    Earlier : (mid : List X) → before ≡ before' ++ y ∷ mid → Places before before' x y
    Later : (mid : List X) → before' ≡ before ++ x ∷ mid → Places before before' x y

  places : (before before' rest rest' : List X) (x y : X) → before ++ x ∷ rest ≡ before' ++ y ∷ rest' → Places before before' x y
  places [] [] rest rest' x y e = Same refl (first e) where
    first : x ∷ rest ≡ y ∷ rest' → x ≡ y
    first e = cc
  places [] (b ∷ bs) rest rest' x y e = Later bs (ap (λ z. z ∷ bs) (first e)) where
    first : x ∷ rest ≡ b ∷ (bs ++ y ∷ rest') → b ≡ x
    first e = cc
  places (a ∷ us) [] rest rest' x y e = Earlier us (ap (λ z. z ∷ us) (first e)) where
    first : a ∷ (us ++ x ∷ rest) ≡ y ∷ rest' → a ≡ y
    first e = cc
  places (a ∷ us) (b ∷ bs) rest rest' x y e = further (places us bs rest rest' x y (others e))
    where
      others : a ∷ (us ++ x ∷ rest) ≡ b ∷ (bs ++ y ∷ rest') → us ++ x ∷ rest ≡ bs ++ y ∷ rest'
      others e = cc

      first : a ∷ (us ++ x ∷ rest) ≡ b ∷ (bs ++ y ∷ rest') → a ≡ b
      first e = cc

      further : Places us bs x y → Places (a ∷ us) (b ∷ bs) x y
      further (Same f g) = Same (λ i. first e i ∷ f i) g
      further (Earlier mid f) = Earlier mid (λ i. first e i ∷ f i)
      further (Later mid f) = Later mid (λ i. sym (first e) i ∷ f i)

-- no piece, no byte
no_bytes : (bytes : List ℕ) → unless_empty bytes ≡ [] → bytes ≡ []
no_bytes [] e = refl
no_bytes (b ∷ bs) e = absurd (cc)

module _ {A : Type 0} where
  after_append : (s : State A) (xs ys : List (Step A × Bool)) → after s (xs ++ ys) ≡ after (after s xs) ys
  after_append s [] ys = refl
  after_append s ((x, true) ∷ xs) ys = after_append s xs ys
  after_append s ((x, false) ∷ xs) ys = after_append (step s x).state xs ys

  is_that_resume : (x : Step A) (d c : ℕ) → x ≡ Resume d → ((nat_eq d c ≡ true) × (d ≡ c)) ⊎ ((nat_eq d c ≡ false) × (d ≢ c)) → (x ≡ Resume c) ⊎ (x ≢ Resume c)
  is_that_resume x d c e (inl y) = inl (e ∙ ap Resume y.1)
  is_that_resume x d c e (inr y) = inr (λ f. y.1 (same_resumed d c x e f))

  is_resume : (x : Step A) (c : ℕ) → (x ≡ Resume c) ⊎ (x ≢ Resume c)
  is_resume Start c = inr (λ e. cc)
  is_resume (Begin pid call) c = inr (λ e. cc)
  is_resume (Interrupt d) c = inr (λ e. cc)
  is_resume (Resume d) c = is_that_resume (Resume d) d c refl (eqb_tells d c)

  none_there : (o : Option (Waiting A numbers)) (w : Waiting A numbers) → o ≡ None → o ≡ Some w → ⊥
  none_there o w e f = cc

  nothing_added : (s : State A) (x : Step A) (place q c : ℕ) → tag_of place x (step s x).reply ≡ OfCall c → of (OfCall c) (piece_added q place s x) ≡ [] → added s x q ≡ []
  nothing_added s x place q c t none =
      no_bytes (added s x q) (sym (ap (λ z. of (OfCall c) (piece z (added s x q))) t ∙ of_same (OfCall c) (added s x q) (same_number c)) ∙ none)

module _ {A : Type 0} (p q : ℕ) where
  abbrev Adds : State A → Step A → Type 0
  Adds s x = AddsFirstBytes (held s.core p) (added s x q)

  adds_none : (s : State A) (x : Step A) → added s x q ≡ [] → Adds s x
  adds_none s x e = record { count = 0; first = e }

  -- if the number is that of a parked call, it is one from the pipe p to the pipe q; and it was given
  record Still (s : State A) (c : ℕ) : Type 0 where
    tries : TriesToCarry s.core (Resume c) (PipeNode p) (PipeNode q)
    given : c < s.core.next_call

  abbrev Carrying : Core A numbers → Waiting A numbers → Type 0
  Carrying s w = IsSpliceOrTee w.call × KeepsBoth s w.kept (PipeNode p) (PipeNode q)

  module _ (s : State A) (x : Step A) (c : ℕ) (below : IsBelowCounters s) (order : AreInOrder s.core) where
    stays : (w : Waiting A numbers) → All (λ k. k ≢ s.next_description) w.kept → All (λ k. k ≢ s.next_description + 1) w.kept → Carrying s.core w → Carrying (step s x).state.core w
    stays w first second is = (is.0, (keeps_step s x w.kept 0 (PipeNode p) first second is.1.0, keeps_step s x w.kept 1 (PipeNode q) first second is.1.1))

    there_still : (w : Waiting A numbers) → get nat_eq s.core.parked c ≡ Some w → Carrying s.core w → Carrying (step s x).state.core w
    there_still w here is = stays w (unused s c w s.next_description below here (omega arith)) (unused s c w (s.next_description + 1) below here (omega arith)) is

    -- a step of others
    others_still : StepApart s x c → Still s c → (v : Waiting A numbers) → get nat_eq (step s x).state.core.parked c ≡ Some v → Carrying (step s x).state.core v
    others_still a still v g =
        let f = a.from v g in
        there_still (record v { met = f.0 }) f.1 (subst (λ o. IfSome o (Carrying s.core)) f.1 still.tries)

  -- a try of its own
  own_still : (s : State A) (c : ℕ) (w v : Waiting A numbers) (t : Trial A numbers) → IsBelowCounters s → AreInOrder s.core → get nat_eq s.core.parked c ≡ Some w → try s.core w w.call true ≡ t →
      Carrying s.core w → get nat_eq (step s (Resume c)).state.core.parked c ≡ Some v → Carrying (step s (Resume c)).state.core v
  own_still s c w v (Done u flow reply) below order here e is g =
      absurd (none_there _ v (ap (λ m. get nat_eq m c) (resume_to s c w (Done u flow reply) here e).parked ∙ without_same (flowed u flow).parked c) g)
  own_still s c w v (Wait u flow t) below order here e is g =
      let now : Waiting A numbers = record w { taken = t } in
      let same : now ≡ v = known (sym (ap (λ m. get nat_eq m c) (resume_to s c w (Wait u flow t) here e).parked ∙ put_same (flowed u flow).parked c now) ∙ g) in
      subst (Carrying (step s (Resume c)).state.core) same (there_still s (Resume c) c below order w here is)
    where
      known : Some (record w { taken = t }) ≡ Some v → record w { taken = t } ≡ v
      known e = cc

  late : (s : State A) (c : ℕ) → c < s.core.next_call → s.core.next_call ≢ c
  late s c l j = omega (arith, l, j)

  step_still : (s : State A) (x : Step A) (c : ℕ) → IsBelowCounters s → AreInOrder s.core → Still s c → Still (step s x).state c
  step_still s x c below order still =
      record { tries = at (get nat_eq (step s x).state.core.parked c) refl; given = omega (arith, still.given, step_rises s x order) }
    where
      tried : (o : Option (Waiting A numbers)) → get nat_eq s.core.parked c ≡ o → x ≡ Resume c → (v : Waiting A numbers) → get nat_eq (step s x).state.core.parked c ≡ Some v → Carrying (step s x).state.core v
      tried None here e v g = others_still s x c below order (step_apart s x c order (λ w f h. none_there _ w here h) (λ f. late s c still.given)) still v g
      tried (Some w) here e v g =
          subst (λ y. get nat_eq (step s y).state.core.parked c ≡ Some v → Carrying (step s y).state.core v) (sym e)
          (λ h. own_still s c w v (try s.core w w.call true) below order here refl (subst (λ o. IfSome o (Carrying s.core)) here still.tries) h) g

      found : (x ≡ Resume c) ⊎ (x ≢ Resume c) → (v : Waiting A numbers) → get nat_eq (step s x).state.core.parked c ≡ Some v → Carrying (step s x).state.core v
      found (inl e) v g = tried (get nat_eq s.core.parked c) refl e v g
      found (inr ne) v g = others_still s x c below order (step_apart s x c order (λ w e h. ne e) (λ f. late s c still.given)) still v g

      at : (o : Option (Waiting A numbers)) → get nat_eq (step s x).state.core.parked c ≡ o → IfSome o (Carrying (step s x).state.core)
      at None g = tt
      at (Some v) g = found (is_resume x c) v g

  run_still : (s : State A) (xs : List (Step A × Bool)) (c : ℕ) → IsBelowCounters s → AreInOrder s.core → Still s c → Still (after s xs) c
  run_still s [] c below order still = still
  run_still s ((x, true) ∷ xs) c below order still = run_still s xs c below order still
  run_still s ((x, false) ∷ xs) c below order still = run_still (step s x).state xs c (below_step s x below) (step_order s x order) (step_still s x c below order still)

  -- a step of its tag, from then on
  still_adds : (s : State A) (x : Step A) (c place : ℕ) → IsBelowCounters s → AreInOrder s.core → Still s c → tag_of place x (step s x).reply ≡ OfCall c → Adds s x
  still_adds s x c place below order still t = at (is_resume x c)
    where
      at : (x ≡ Resume c) ⊎ (x ≢ Resume c) → Adds s x
      at (inl e) = step_adds p q s below x (subst (λ y. TriesToCarry s.core y (PipeNode p) (PipeNode q)) (sym e) still.tries)
      at (inr ne) = adds_none s x (nothing_added s x place q c t ((step_apart s x c order (λ w e h. ne e) (λ f. late s c still.given)).chunks place q))

  pub waiting_adds : (s : State A) (xs : List (Step A × Bool)) (c : ℕ) (w : Waiting A numbers) → IsBelowCounters s → AreInOrder s.core → get nat_eq s.core.parked c ≡ Some w →
      IsSpliceOrTee w.call → KeepsBoth s.core w.kept (PipeNode p) (PipeNode q) → EachAddsFirst s xs (OfCall c) p q
  waiting_adds s xs c w below order here is on before rest x e t =
      let still : Still s c = record { tries = subst (λ o. IfSome o (Carrying s.core)) (sym here) (is, on); given = order.below c w here } in
      still_adds (after s before) x c (length before) (run_below s before below) (run_order s before order) (run_still s before c below order still) t

  -- a splice or a tee that begins
  module _ (s : State A) (pid : ℕ) (call : Call A) (below : IsBelowCounters s) (order : AreInOrder s.core) (is : IsSpliceOrTee call) where
    -- it is parked under the next number
    record Parks (h : Stepped A numbers) : Type 0 where
      w : Waiting A numbers
      here : get nat_eq h.state.parked s.core.next_call ≡ Some w
      next : h.state.next_call ≡ s.core.next_call + 1
      carries : Carrying s.core w
      first : All (λ k. k ≢ s.next_description) w.kept
      second : All (λ k. k ≢ s.next_description + 1) w.kept
      reply : h.reply ≡ Parked s.core.next_call

    -- it is answered at once, or parked
    abbrev Goes : Stepped A numbers → Type 0
    Goes h = ((place : ℕ) → tag_answered place h.reply ≡ AtPlace place) ⊎ Parks h

    first_goes : (w : Waiting A numbers) (may_wait : Bool) (t : Trial A numbers) → Carrying s.core w → All (λ k. k ≢ s.next_description) w.kept → All (λ k. k ≢ s.next_description + 1) w.kept →
        TrialAll (Among s.core) t → TrialFine call t → Goes (first_tried s.core w may_wait t)
    first_goes w may_wait (Done u flow reply) carries f g k fine = inl (λ place. at_its_place place reply fine)
    first_goes w false (Wait u flow t) carries f g k fine = inl (λ place. refl)
    first_goes w true (Wait u flow t) carries f g k fine = at (s.core.next_call == last_call)
      where
        before : s.core.next_call < s.core.next_call → ⊥
        before l = omega (arith, l)

        at : (b : Bool) → Goes (cond b (stepped s.core CallsSpent) (record { state = parked (flowed u flow) (record w { taken = t }); reply = Parked s.core.next_call; flow = flow }))
        at true = inl (λ place. refl)
        at false =
            let a = among_flowed s.core u flow k in
            let free : get nat_eq (flowed u flow).parked s.core.next_call ≡ None = nothing_there _ (λ v e. let f = a.from s.core.next_call v e in before (order.below s.core.next_call (record v { met = f.0 }) f.1)) in
            inr (record {
              w = record w { taken = t };
              here =
                  append_new (flowed u flow).parked (flowed u flow).next_call s.core.next_call (record w { taken = t }) free
                  ∙ ap (λ b. cond b (Some (record w { taken = t })) None) (ap (λ n. nat_eq n s.core.next_call) a.next ∙ same_number s.core.next_call);
              next = ap (λ n. n + 1) a.next;
              carries = carries;
              first = f;
              second = g;
              reply = refl;
            })

    begun_goes : (b : Begun A numbers) → IsTried s (PipeNode p) (PipeNode q) b → Goes (begun s.core pid call b)
    begun_goes (Refused errno) k = inl (λ place. refl)
    begun_goes (Answers_now u reply) k = inl (λ place. ap (tag_answered place) k.1)
    begun_goes (Tried u kept met may_wait) k =
        subst (λ v. Goes (begun s.core pid call (Tried v kept met may_wait))) (sym k.0)
        (first_goes (waiting pid call kept met) (may_wait && can_wait s.core pid) (try s.core (waiting pid call kept met) call may_wait) (is, k.1) k.2 k.3
        (try-keeps (among_changes (next_numbers s) s.core) s.core (waiting pid call kept met) call may_wait (among_same s.core order.once))
        (try_fine s.core (waiting pid call kept met) call may_wait (has_none call) (λ h. refl)))

    goes : BeginsSo s (PipeNode p) (PipeNode q) pid call → Goes (drawn (next_numbers s) (happen s.core (Begin pid call)))
    unfolding happen LeadsTo
    goes leads = process (s.core.processes pid)
      where
        drawn_at : (b : Begins A numbers) → IsTried s (PipeNode p) (PipeNode q) (drawn (next_numbers s) b) → Goes (drawn (next_numbers s) (drawing_map (begun s.core pid call) b))
        drawn_at (Plain b) k = begun_goes b k
        drawn_at (Draws f) k = begun_goes (f (next_numbers s)) k

        process : (b : Bool) → Goes (drawn (next_numbers s) (cond b (drawing_map (begun s.core pid call) (begin s.core pid call)) (Plain (stepped s.core NoProcess))))
        process true = drawn_at (begin s.core pid call) leads
        process false = inl (λ place. refl)

    -- the same of the whole step
    abbrev Begins_so : Type 0
    Begins_so =
        ((place : ℕ) → tag_of place (Begin pid call) (step s (Begin pid call)).reply ≡ AtPlace place)
        ⊎ (Still (step s (Begin pid call)).state s.core.next_call × ((place : ℕ) → tag_of place (Begin pid call) (step s (Begin pid call)).reply ≡ OfCall s.core.next_call))

    goes_so : (h : Stepped A numbers) → StepTo s (Begin pid call) h → Goes h → Begins_so
    goes_so h to_it (inl f) = inl (λ place. ap (tag_answered place) to_it.reply ∙ f place)
    goes_so h to_it (inr k) =
        inr (
          record {
            tries = subst (λ o. IfSome o (Carrying (step s (Begin pid call)).state.core)) (sym (ap (λ m. get nat_eq m s.core.next_call) to_it.parked ∙ k.here))
                (stays s (Begin pid call) s.core.next_call below order k.w k.first k.second k.carries);
            given = omega (arith, to_it.next, k.next);
          },
          λ place. ap (tag_answered place) (to_it.reply ∙ k.reply),
        )

    begins_so : BeginsSo s (PipeNode p) (PipeNode q) pid call → Begins_so
    begins_so leads = goes_so _ (step_to s (Begin pid call)) (goes leads)

  wrong_place : (m n : ℕ) (x : Step A) (reply : Reply A) → m ≢ n → tag_of m x reply ≡ AtPlace n → ⊥
  wrong_place m n x reply ne e = no (same_tag (tag_of m x reply) (AtPlace n)) (place_apart m n x reply ne) (ap (λ t. same_tag t (AtPlace n)) e ∙ same_number n) where
    no : (b : Bool) → b ≡ false → b ≡ true → ⊥
    no b f g = cc

  longer : (xs ys zs : List (Step A × Bool)) (x : Step A × Bool) → xs ≡ ys ++ x ∷ zs → length ys < length xs
  longer xs ys zs x e = omega (arith, ap length e, length-append ys (x ∷ zs))

  module _ (s : State A) (xs before rest : List (Step A × Bool)) (pid : ℕ) (call : Call A) (below : IsBelowCounters s) (order : AreInOrder s.core) where
    abbrev now : State A
    now = after s before

    abbrev move : Step A
    move = Begin pid call

    -- a step before it, under its tag
    earlier_adds : (before' mid : List (Step A × Bool)) (y : Step A) → before ≡ before' ++ (y, false) ∷ mid → tag_of (length before') y (step (after s before') y).reply ≡ OfCall now.core.next_call → Adds (after s before') y
    earlier_adds before' mid y a t =
        adds_none u y (nothing_added u y (length before') q now.core.next_call t ((step_apart u y now.core.next_call (run_order s before' order) (λ w f h. none_there _ w none h) (λ f j. not_given f j)).chunks (length before') q))
      where
        u : State A
        u = after s before'

        same : now ≡ after (step u y).state mid
        same = ap (after s) a ∙ after_append s before' ((y, false) ∷ mid)

        at_most : (step u y).state.core.next_call ≤ now.core.next_call
        at_most = omega (arith, run_rises (step u y).state mid (step_order u y (run_order s before' order)), ap (λ (z : State A). z.core.next_call) same)

        none : get nat_eq u.core.parked now.core.next_call ≡ None
        none = nothing_there _ (λ v g. no ((run_order s before' order).below now.core.next_call v g))
          where
            no : now.core.next_call < u.core.next_call → ⊥
            no l = omega (arith, l, at_most, step_rises u y (run_order s before' order))

        not_given : (step u y).state.core.next_call ≡ u.core.next_call + 1 → u.core.next_call ≡ now.core.next_call → ⊥
        not_given f j = omega (arith, f, j, at_most)

    later_adds : (before' mid : List (Step A × Bool)) (y : Step A) → before' ≡ before ++ (move, false) ∷ mid → Still (step now move).state now.core.next_call →
        tag_of (length before') y (step (after s before') y).reply ≡ OfCall now.core.next_call → Adds (after s before') y
    later_adds before' mid y a still t =
        subst (λ u. tag_of (length before') y (step u y).reply ≡ OfCall now.core.next_call → Adds u y) (sym (ap (after s) a ∙ after_append s before ((move, false) ∷ mid)))
        (λ t. still_adds (after v mid) y now.core.next_call (length before') (run_below v mid below_v) (run_order v mid order_v) (run_still v mid now.core.next_call below_v order_v still) t) t
      where
        v : State A
        v = (step now move).state

        below_v : IsBelowCounters v
        below_v = below_step now move (run_below s before below)

        order_v : AreInOrder v.core
        order_v = step_order now move (run_order s before order)

    pub begun_adds : xs ≡ before ++ (move, false) ∷ rest → TriesToCarry now.core move (PipeNode p) (PipeNode q) → EachAddsFirst s xs (tag_of (length before) move (step now move).reply) p q
    begun_adds e tries before' rest' y e' t =
        let so = carries_begins now p q pid call (run_below s before below) tries in
        at (places before before' rest rest' (move, false) (y, false) (sym e ∙ e')) (begins_so now pid call (run_below s before below) (run_order s before order) so.0 so.1)
      where
        at : Places before before' (move, false) (y, false) → Begins_so now pid call (run_below s before below) (run_order s before order) (carries_begins now p q pid call (run_below s before below) tries).0 → Adds (after s before') y
        at (Same f g) so = subst (λ z. Adds (after s z) y) f (subst (λ z. Adds now z) (ap (λ (z : Step A × Bool). z.0) g) (step_adds p q now (run_below s before below) move tries))
        at (Earlier mid a) (inl f) = absurd (wrong_place (length before') (length before) y (step (after s before') y).reply (λ j. apart (longer before before' mid (y, false) a) j) (t ∙ f (length before)))
          where
            apart : length before' < length before → length before' ≡ length before → ⊥
            apart l j = omega (arith, l, j)
        at (Earlier mid a) (inr k) = earlier_adds before' mid y a (t ∙ k.1 (length before))
        at (Later mid a) (inl f) = absurd (wrong_place (length before') (length before) y (step (after s before') y).reply (λ j. apart (longer before' before mid (move, false) a) j) (t ∙ f (length before)))
          where
            apart : length before < length before' → length before' ≡ length before → ⊥
            apart l j = omega (arith, l, j)
        at (Later mid a) (inr k) = later_adds before' mid y a k.0 (t ∙ k.1 (length before))
