-- What holds of a parked call at its end holds over each run: from one step to the whole.
use Rattle.std.proofs.Common.{◌≡◌, ◌≢◌, ◌⊎◌, inl, inr, ℕ, ◌+◌, ◌<◌, ◌≤◌, Bool, true, false, cond, Option, List, [], ◌∷◌, ◌++◌, refl, sym, ◌∙◌, ap, subst, nat_eq, arith}
use Rattle.std.specs.declared.option.Option.TheVariants.{None, Some}
use Rattle.std.proofs.lemmas.Bool.Decides.{eqb_tells}
use Rattle.pl_model.specs.declared.calls.Step.{Step}
use Rattle.pl_model.specs.declared.calls.Step.TheVariants.{Resume}
use Rattle.pl_model.specs.Map.{Map, get, put, EachOnce}
use Rattle.pl_model.specs.Keys.{Drawing, Plain, Draws, drawn, drawing_map}
use Rattle.pl_model.specs.State.{Core, Waiting}
use Rattle.pl_model.specs.Settle.{settle}
use Rattle.pl_model.specs.Trial.{Flow, still}
use Rattle.pl_model.specs.Step.{Stepped, happen, core_step, ended}
use Rattle.pl_model.specs.Numbered.{numbers, State, next_numbers, step_of, step}
use Rattle.pl_model.specs.Stream.{held, into_pipe, out_of_pipe}
use Rattle.pl_model.specs.Streams.{added, taken_out}
use Rattle.pl_model.specs.Run.{after}
use Rattle.pl_model.specs.Chunks.{OfCall, same_tag, tag_of, piece, of, piece_added, pieces_left, pieces_from}
use Rattle.pl_model.specs.InOrder.{HasTaken, AreInOrder}
use Rattle.pl_model.proofs.streams.Maps.{differ, put_same, put_other, append_new, append_other, put_once, append_once}
use Rattle.pl_model.proofs.streams.Pieces.{of_none, of_left, of_other, of_empty}
use Rattle.pl_model.proofs.streams.Does.{Does, Quiet, Answers, Parks, Ends, Again, does}

pub nothing_there : {X : Type 0} (o : Option X) → ((x : X) → o ≡ Some x → ⊥) → o ≡ None
nothing_there None h = refl
nothing_there (Some x) h = absurd (h x refl)

module _ {A : Type 0} where
  -- the state, reply and flow of a step are these, but for what is settled
  pub record StepTo (s : State A) (x : Step A) (h : Stepped A numbers) : Type 0 where
    pub parked : (step s x).state.core.parked ≡ h.state.parked
    pub next : (step s x).state.core.next_call ≡ h.state.next_call
    pub reply : (step s x).reply ≡ h.reply
    pub flow : (step s x).flow ≡ h.flow

  pub step_to : (s : State A) (x : Step A) → StepTo s x (drawn (next_numbers s) (happen s.core x))
  unfolding step core_step settle
  step_to s x = record { parked = parked (happen s.core x); next = next (happen s.core x); reply = reply (happen s.core x); flow = flow (happen s.core x) }
    where
      parked : (d : Drawing numbers (Stepped A numbers)) → (step_of s (drawing_map (ended s.core) d)).state.core.parked ≡ (drawn (next_numbers s) d).state.parked
      parked (Plain h) = refl
      parked (Draws f) = refl

      next : (d : Drawing numbers (Stepped A numbers)) → (step_of s (drawing_map (ended s.core) d)).state.core.next_call ≡ (drawn (next_numbers s) d).state.next_call
      next (Plain h) = refl
      next (Draws f) = refl

      reply : (d : Drawing numbers (Stepped A numbers)) → (step_of s (drawing_map (ended s.core) d)).reply ≡ (drawn (next_numbers s) d).reply
      reply (Plain h) = refl
      reply (Draws f) = refl

      flow : (d : Drawing numbers (Stepped A numbers)) → (step_of s (drawing_map (ended s.core) d)).flow ≡ (drawn (next_numbers s) d).flow
      flow (Plain h) = refl
      flow (Draws f) = refl

  -- the parked calls and the next number are these
  in_order : (v : Core A numbers) (es : Map ℕ (Waiting A numbers)) (n : ℕ) → v.parked ≡ es → v.next_call ≡ n → EachOnce nat_eq es →
      ((c : ℕ) (w : Waiting A numbers) → get nat_eq es c ≡ Some w → (c < n) × HasTaken w.call w.taken) → AreInOrder v
  in_order v es n p q once all =
      record {
        once = subst (EachOnce nat_eq) (sym p) once;
        below = λ c w h. subst (λ m. c < m) (sym q) (all c w (ap (λ m. get nat_eq m c) (sym p) ∙ h)).0;
        taken = λ c w h. (all c w (ap (λ m. get nat_eq m c) (sym p) ∙ h)).1;
      }

  does_order : (s : Core A numbers) (x : Step A) (h : Stepped A numbers) → Does s x h → AreInOrder s → AreInOrder h.state
  does_order s x h (Quiet k e) o = in_order h.state h.state.parked s.next_call refl k.next k.once (λ c w g. let f = k.from c w g in (o.below c (record w { met = f.0 }) f.1, o.taken c (record w { met = f.0 }) f.1))
  does_order s x h (Answers k e) o = in_order h.state h.state.parked s.next_call refl k.next k.once (λ c w g. let f = k.from c w g in (o.below c (record w { met = f.0 }) f.1, o.taken c (record w { met = f.0 }) f.1))
  does_order s x h (Ends d w e here k) o = in_order h.state h.state.parked s.next_call refl k.next k.once (λ c w g. let f = k.from c w g in (o.below c (record w { met = f.0 }) f.1, o.taken c (record w { met = f.0 }) f.1))
  does_order s x h (Parks u w k e n has t) o =
      in_order h.state (u.parked ++ (s.next_call, w) ∷ []) (s.next_call + 1) e n (append_once u.parked s.next_call w k.once free) (λ c v g. at c v g (eqb_tells s.next_call c))
    where
      free : get nat_eq u.parked s.next_call ≡ None
      free = nothing_there _ (λ v g. let f = k.from s.next_call v g in late (o.below s.next_call (record v { met = f.0 }) f.1))
        where
          late : s.next_call < s.next_call → ⊥
          late l = omega (arith, l)

      at : (c : ℕ) (v : Waiting A numbers) → get nat_eq (u.parked ++ (s.next_call, w) ∷ []) c ≡ Some v →
          ((nat_eq s.next_call c ≡ true) × (s.next_call ≡ c)) ⊎ ((nat_eq s.next_call c ≡ false) × (s.next_call ≢ c)) → (c < s.next_call + 1) × HasTaken v.call v.taken
      at c v g (inl y) =
          let same : w ≡ v = some_same (sym (append_new u.parked s.next_call c w (ap (get nat_eq u.parked) (sym y.1) ∙ free) ∙ ap (λ b. cond b (Some w) None) y.0) ∙ g) in
          (omega (arith, y.1), subst (λ (z : Waiting A numbers). HasTaken z.call z.taken) same has)
        where
          some_same : Some w ≡ Some v → w ≡ v
          some_same z = cc
      at c v g (inr y) =
          let old = k.from c v (sym (append_other u.parked s.next_call c w y.1) ∙ g) in
          (omega (arith, o.below c (record v { met = old.0 }) old.1), o.taken c (record v { met = old.0 }) old.1)
  does_order s x h (Again d w now e here u k p n has) o =
      in_order h.state (put nat_eq u.parked d now) s.next_call p n (put_once u.parked d now k.once) (λ c v g. at c v g (eqb_tells d c))
    where
      at : (c : ℕ) (v : Waiting A numbers) → get nat_eq (put nat_eq u.parked d now) c ≡ Some v → ((nat_eq d c ≡ true) × (d ≡ c)) ⊎ ((nat_eq d c ≡ false) × (d ≢ c)) → (c < s.next_call) × HasTaken v.call v.taken
      at c v g (inl y) =
          let same : now ≡ v = some_same (sym (put_same u.parked d now) ∙ (ap (get nat_eq (put nat_eq u.parked d now)) y.1 ∙ g)) in
          (subst (λ z. z < s.next_call) y.1 (o.below d w here), subst (λ (z : Waiting A numbers). HasTaken z.call z.taken) same has)
        where
          some_same : Some now ≡ Some v → now ≡ v
          some_same z = cc
      at c v g (inr y) =
          let old = k.from c v (sym (put_other u.parked d c now y.1) ∙ g) in
          (o.below c (record v { met = old.0 }) old.1, o.taken c (record v { met = old.0 }) old.1)

  pub step_order : (s : State A) (x : Step A) → AreInOrder s.core → AreInOrder (step s x).state.core
  step_order s x o =
      let to = step_to s x in
      let h = does_order s.core x _ (does (next_numbers s) s.core o x) o in
      in_order (step s x).state.core (drawn (next_numbers s) (happen s.core x)).state.parked (drawn (next_numbers s) (happen s.core x)).state.next_call to.parked to.next h.once (λ c w g. (h.below c w g, h.taken c w g))

  -- a step of others: the call c has from it no new number and no bytes
  record Apart (s : Core A numbers) (x : Step A) (h : Stepped A numbers) (c : ℕ) : Type 0 where
    from : (w : Waiting A numbers) → get nat_eq h.state.parked c ≡ Some w → (met : Bool) × (get nat_eq s.parked c ≡ Some (record w { met = met }))
    quiet : (place : ℕ) → (same_tag (tag_of place x h.reply) (OfCall c) ≡ false) ⊎ (h.flow ≡ still)

  apart : (s : Core A numbers) (x : Step A) (h : Stepped A numbers) (c : ℕ) → Does s x h → ((w : Waiting A numbers) → x ≡ Resume c → get nat_eq s.parked c ≡ Some w → ⊥) →
      (h.state.next_call ≡ s.next_call + 1 → s.next_call ≢ c) → Apart s x h c
  apart s x h c (Quiet k e) not_it new = record { from = λ w g. k.from c w g; quiet = λ place. inr e }
  apart s x h c (Answers k t) not_it new = record { from = λ w g. k.from c w g; quiet = λ place. inl (ap (λ z. same_tag z (OfCall c)) (t place)) }
  apart s x h c (Parks u v k e n has t) not_it new =
      record {
        from = λ w g. k.from c w (sym (append_other u.parked s.next_call c v (new n)) ∙ (ap (λ m. get nat_eq m c) (sym e) ∙ g));
        quiet = λ place. inl (ap (λ z. same_tag z (OfCall c)) (t place) ∙ differ s.next_call c (new n));
      }
  apart s x h c (Ends d v e here k) not_it new =
      record {
        from = λ w g. k.from c w g;
        quiet = λ place. inl (ap (λ y. same_tag (tag_of place y h.reply) (OfCall c)) e ∙ differ d c (λ j. not_it v (e ∙ ap Resume j) (ap (get nat_eq s.parked) (sym j) ∙ here)));
      }
  apart s x h c (Again d v now e here u k p n has) not_it new =
      record {
        from = λ w g. k.from c w (sym (put_other u.parked d c now (λ j. not_it v (e ∙ ap Resume j) (ap (get nat_eq s.parked) (sym j) ∙ here))) ∙ (ap (λ m. get nat_eq m c) (sym p) ∙ g));
        quiet = λ place. inl (ap (λ y. same_tag (tag_of place y h.reply) (OfCall c)) e ∙ differ d c (λ j. not_it v (e ∙ ap Resume j) (ap (get nat_eq s.parked) (sym j) ∙ here)));
      }

  -- the number of the next call stays or rises by one
  rises : (s : Core A numbers) (x : Step A) (h : Stepped A numbers) → Does s x h → s.next_call ≤ h.state.next_call
  rises s x h (Quiet k e) = omega (arith, k.next)
  rises s x h (Answers k t) = omega (arith, k.next)
  rises s x h (Parks u v k e n has t) = omega (arith, n)
  rises s x h (Ends d v e here k) = omega (arith, k.next)
  rises s x h (Again d v now e here u k p n has) = omega (arith, n)

  pub step_rises : (s : State A) (x : Step A) → AreInOrder s.core → s.core.next_call ≤ (step s x).state.core.next_call
  step_rises s x o = let r = rises s.core x _ (does (next_numbers s) s.core o x) in omega (arith, r, (step_to s x).next)

  pub run_rises : (s : State A) (xs : List (Step A × Bool)) → AreInOrder s.core → s.core.next_call ≤ (after s xs).core.next_call
  run_rises s [] o = omega arith
  run_rises s ((x, true) ∷ xs) o = run_rises s xs o
  run_rises s ((x, false) ∷ xs) o = omega (arith, step_rises s x o, run_rises (step s x).state xs (step_order s x o))

  pub run_order : (s : State A) (xs : List (Step A × Bool)) → AreInOrder s.core → AreInOrder (after s xs).core
  run_order s [] o = o
  run_order s ((x, true) ∷ xs) o = run_order s xs o
  run_order s ((x, false) ∷ xs) o = run_order (step s x).state xs (step_order s x o)

  -- the same of a whole step
  pub record StepApart (s : State A) (x : Step A) (c : ℕ) : Type 0 where
    pub from : (w : Waiting A numbers) → get nat_eq (step s x).state.core.parked c ≡ Some w → (met : Bool) × (get nat_eq s.core.parked c ≡ Some (record w { met = met }))
    pub chunks : (place q : ℕ) → of (OfCall c) (piece_added q place s x) ≡ []
    pub outs : (place p : ℕ) → of (OfCall c) (pieces_left p place s x) ≡ []

  pub step_apart : (s : State A) (x : Step A) (c : ℕ) → AreInOrder s.core → ((w : Waiting A numbers) → x ≡ Resume c → get nat_eq s.core.parked c ≡ Some w → ⊥) →
      ((step s x).state.core.next_call ≡ s.core.next_call + 1 → s.core.next_call ≢ c) → StepApart s x c
  unfolding added taken_out
  step_apart s x c o not_it new =
      record {
        from = λ w g. a.from w (ap (λ m. get nat_eq m c) (sym to.parked) ∙ g);
        chunks = λ place q. none place (into_pipe numbers (step s x).flow.into q) (λ e. ap (λ (f : Flow numbers). into_pipe numbers f.into q) (to.flow ∙ e));
        outs = λ place p.
            of_left (OfCall c) p place s x refl
            ∙ none place (out_of_pipe numbers (held s.core p) (step s x).flow.out p) (λ e. ap (λ (f : Flow numbers). out_of_pipe numbers (held s.core p) f.out p) (to.flow ∙ e));
      }
    where
      to : StepTo s x (drawn (next_numbers s) (happen s.core x))
      to = step_to s x

      a : Apart s.core x (drawn (next_numbers s) (happen s.core x)) c
      a = apart s.core x (drawn (next_numbers s) (happen s.core x)) c (does (next_numbers s) s.core o x) not_it (λ e. new (to.next ∙ e))

      none : (place : ℕ) (bytes : List ℕ) → ((drawn (next_numbers s) (happen s.core x)).flow ≡ still → bytes ≡ []) → of (OfCall c) (piece (tag_of place x (step s x).reply) bytes) ≡ []
      none place bytes h = elim (a.quiet place) as (λ _. of (OfCall c) (piece (tag_of place x (step s x).reply) bytes) ≡ []) [
        | inl e ↦ of_other (OfCall c) (tag_of place x (step s x).reply) bytes (ap (λ r. same_tag (tag_of place x r) (OfCall c)) to.reply ∙ e)
        | inr e ↦ of_empty (OfCall c) (tag_of place x (step s x).reply) bytes (h e)
      ]

  -- A number that is neither parked nor given in the run has no bytes in it.
  pub absent : (place p q : ℕ) (s : State A) (xs : List (Step A × Bool)) (c : ℕ) → AreInOrder s.core → get nat_eq s.core.parked c ≡ None → (c < s.core.next_call) ⊎ ((after s xs).core.next_call ≤ c) →
      (of (OfCall c) (pieces_from (piece_added q) place s xs) ≡ []) × (of (OfCall c) (pieces_from (pieces_left p) place s xs) ≡ [])
  absent place p q s [] c o none given = (refl, refl)
  absent place p q s ((x, true) ∷ xs) c o none given = absent (place + 1) p q s xs c o none given
  absent place p q s ((x, false) ∷ xs) c o none given =
      let a = step_apart s x c o (λ w e g. here w g) (λ e j. not_new given e j) in
      let r = absent (place + 1) p q (step s x).state xs c (step_order s x o) (nothing_there _ (λ w g. let f = a.from w g in here (record w { met = f.0 }) f.1)) (later given) in (
        of_none (OfCall c) (piece_added q place s x) (pieces_from (piece_added q) (place + 1) (step s x).state xs) (a.chunks place q) ∙ r.0,
        of_none (OfCall c) (pieces_left p place s x) (pieces_from (pieces_left p) (place + 1) (step s x).state xs) (a.outs place p) ∙ r.1,
      )
    where
      here : (w : Waiting A numbers) → get nat_eq s.core.parked c ≡ Some w → ⊥
      here w g = cc

      not_new : (c < s.core.next_call) ⊎ ((after (step s x).state xs).core.next_call ≤ c) → (step s x).state.core.next_call ≡ s.core.next_call + 1 → s.core.next_call ≡ c → ⊥
      not_new (inl l) e j = omega (arith, l, j)
      not_new (inr l) e j = omega (arith, l, j, e, run_rises (step s x).state xs (step_order s x o))

      later : (c < s.core.next_call) ⊎ ((after (step s x).state xs).core.next_call ≤ c) → (c < (step s x).state.core.next_call) ⊎ ((after (step s x).state xs).core.next_call ≤ c)
      later (inl l) = inl (omega (arith, l, step_rises s x o))
      later (inr l) = inr l
