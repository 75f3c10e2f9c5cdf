-- A parked call over a run: what holds of it at its end holds of all its bytes.
use Rattle.std.proofs.Common.{◌≡◌, ◌≢◌, ◌⊎◌, inl, inr, ℕ, ◌+◌, ◌<◌, ◌≤◌, Bool, true, false, cond, Option, List, [], ◌∷◌, ◌++◌, refl, sym, ◌∙◌, ap, subst, nat_eq, append-nil, arith}
use Rattle.std.specs.Prelude.{nat_lt, All, is_some, option_map, unwrap_or}
use Rattle.std.specs.declared.option.Option.TheVariants.{None, Some}
use Rattle.std.proofs.lemmas.List.Elements.{All-tail}
use Rattle.std.proofs.lemmas.Bool.Decides.{eqb_tells}
use Rattle.pl_model.specs.declared.calls.Step.{Step}
use Rattle.pl_model.specs.declared.calls.Step.TheVariants.{Start, Begin, Resume, Interrupt}
use Rattle.pl_model.specs.declared.replies.Reply.{Reply}
use Rattle.pl_model.specs.declared.replies.Reply.TheVariants.{Fault}
use Rattle.pl_model.specs.declared.replies.Errno.TheVariants.{EINTR}
use Rattle.pl_model.specs.Map.{Map, get}
use Rattle.pl_model.specs.State.{Core, Waiting}
use Rattle.pl_model.specs.Trial.{Trial, Done, Wait, Flow, flowed}
use Rattle.pl_model.specs.Transfer.{count}
use Rattle.pl_model.specs.Step.{Stepped, try, happen, interrupted, resumed, tried_again, without_call, stepped}
use Rattle.pl_model.specs.Numbered.{numbers, State, step}
use Rattle.pl_model.specs.StandsFor.{IsBelowCounters}
use Rattle.pl_model.specs.Stream.{held, into_pipe, out_of_pipe}
use Rattle.pl_model.specs.Streams.{added, taken_out}
use Rattle.pl_model.specs.Chunks.{Piece, Tag, OfCall, ForgottenAt, same_tag, tag_of, piece, unless_empty, of, piece_added, pieces_left, pieces_from}
use Rattle.pl_model.specs.Fates.{Fate, Answered, Interrupted, Dropped, Waits, fate, ended_by, taken_by, taken_with}
use Rattle.pl_model.specs.InOrder.{AreInOrder}
use Rattle.pl_model.proofs.renaming.Simulates.{below_step}
use Rattle.pl_model.proofs.streams.Maps.{put_same, without_same}
use Rattle.pl_model.proofs.streams.Courses.{StepTo, step_to, step_order, step_rises, StepApart, step_apart, absent}
use Rattle.pl_model.proofs.streams.Pieces.{of_append, of_none, of_same, of_left}
use Rattle.pl_model.proofs.streams.Writes.{same_number}

module _ {A : Type 0} where
  -- the answer to an interrupt
  abbrev pub interrupt_reply : Waiting A numbers → Reply A
  interrupt_reply w = cond (nat_lt 0 w.taken) (count w.taken) (Fault EINTR)

  -- the pieces of a step that went so, under its tag
  pub own_added : (t : Tag) (q place : ℕ) (s : State A) (x : Step A) (h : Stepped A numbers) → tag_of place x (step s x).reply ≡ t → same_tag t t ≡ true → StepTo s x h →
      of t (piece_added q place s x) ≡ unless_empty (into_pipe numbers h.flow.into q)
  unfolding added
  own_added t q place s x h e same to =
      ap (λ z. of t (piece z (added s x q))) e
      ∙ (of_same t (added s x q) same
      ∙ ap (λ (f : Flow numbers). unless_empty (into_pipe numbers f.into q)) to.flow)

  pub own_left : (t : Tag) (p place : ℕ) (s : State A) (x : Step A) (h : Stepped A numbers) → tag_of place x (step s x).reply ≡ t → same_tag t t ≡ true → same_tag (ForgottenAt place) t ≡ false → StepTo s x h →
      of t (pieces_left p place s x) ≡ unless_empty (out_of_pipe numbers (held s.core p) h.flow.out p)
  unfolding taken_out
  own_left t p place s x h e same other to =
      of_left t p place s x other
      ∙ (ap (λ z. of t (piece z (taken_out s x p))) e
      ∙ (of_same t (taken_out s x p) same
      ∙ ap (λ (f : Flow numbers). unless_empty (out_of_pipe numbers (held s.core p) f.out p)) to.flow))

  pub own_first : (t : Tag) (of_step : ℕ → State A → Step A → List Piece) (place : ℕ) (s : State A) (x : Step A) (xs : List (Step A × Bool)) (first : List (List ℕ)) → of t (of_step place s x) ≡ first →
      of t (pieces_from of_step place s ((x, false) ∷ xs)) ≡ first ++ of t (pieces_from of_step (place + 1) (step s x).state xs)
  own_first t of_step place s x xs first e =
      of_append t (of_step place s x) (pieces_from of_step (place + 1) (step s x).state xs) ∙ ap (λ z. z ++ of t (pieces_from of_step (place + 1) (step s x).state xs)) e

  pub resume_to : (s : State A) (c : ℕ) (w : Waiting A numbers) (t : Trial A numbers) → get nat_eq s.core.parked c ≡ Some w → try s.core w w.call true ≡ t → StepTo s (Resume c) (tried_again c w t)
  unfolding happen
  resume_to s c w t here e = subst (λ h. StepTo s (Resume c) h) (ap (resumed s.core c) here ∙ ap (tried_again c w) e) (step_to s (Resume c))

  interrupt_to : (s : State A) (c : ℕ) (w : Waiting A numbers) → get nat_eq s.core.parked c ≡ Some w → StepTo s (Interrupt c) (stepped (without_call s.core c) (interrupt_reply w))
  unfolding happen
  interrupt_to s c w here = subst (λ h. StepTo s (Interrupt c) h) (ap (interrupted s.core c) here) (step_to s (Interrupt c))

  pub same_resumed : (d c : ℕ) (x : Step A) → x ≡ Resume d → x ≡ Resume c → d ≡ c
  same_resumed d c x e f = cc

  -- no kept description has a number above all that were given
  all_get : (P : ℕ × Waiting A numbers → Type 0) (es : Map ℕ (Waiting A numbers)) (c : ℕ) (w : Waiting A numbers) → All P es → get nat_eq es c ≡ Some w → (d : ℕ) × P (d, w)
  all_get P [] c w all h = absurd (cc)
  all_get P (e ∷ es) c w all h = at (nat_eq e.0 c) h (all_get P es c w (All-tail P e es all)) where
    at : (b : Bool) → cond b (Some e.1) (get nat_eq es c) ≡ Some w → (get nat_eq es c ≡ Some w → (d : ℕ) × P (d, w)) → (d : ℕ) × P (d, w)
    at true g rest =
        let same : e.1 ≡ w = cc in
        let first : P e = all 0 e (omega arith) in
        (e.0, subst (λ z. P (e.0, z)) same first)
    at false g rest = rest g

  pub unused : (s : State A) (c : ℕ) (w : Waiting A numbers) (d : ℕ) → IsBelowCounters s → get nat_eq s.core.parked c ≡ Some w → s.next_description ≤ d → All (λ k. k ≢ d) w.kept
  unused s c w d below here le = (all_get (λ (e : ℕ × Waiting A numbers). All (λ k. k ≢ d) e.1.kept) s.core.parked c w (below.descriptions d le).parked here).1

module _ {A : Type 0} (p q : ℕ) (Inv : Core A numbers → Waiting A numbers → Type 0) (Says : Waiting A numbers → List (List ℕ) → List (List ℕ) → Fate A → Type 0) where
  -- One try of the parked call: it ends, or waits again, and then what is said of the rest is said of the whole.
  abbrev pub TrySays : Core A numbers → Waiting A numbers → Trial A numbers → Type 0
  TrySays s w (Done u flow reply) =
      Says w (unless_empty (into_pipe numbers flow.into q)) (unless_empty (out_of_pipe numbers (held s p) flow.out p)) (record { ending = Answered reply; taken = taken_with w.taken reply })
  TrySays s w (Wait u flow t) =
      Inv s (record w { taken = t })
      × ((ins outs : List (List ℕ)) (end : Fate A) → Says (record w { taken = t }) ins outs end →
      Says w (unless_empty (into_pipe numbers flow.into q) ++ ins) (unless_empty (out_of_pipe numbers (held s p) flow.out p) ++ outs) end)

  -- What has to be known of a kind of call, for pipes p (out) and q (in).
  pub record Course : Type 0 where
    pub stays : (s : State A) (x : Step A) (w : Waiting A numbers) → IsBelowCounters s → All (λ k. k ≢ s.next_description) w.kept → All (λ k. k ≢ s.next_description + 1) w.kept → Inv s.core w → Inv (step s x).state.core w
    pub met : (s : Core A numbers) (w : Waiting A numbers) (met : Bool) → Inv s w → Inv s (record w { met = met })
    pub says_met : (w : Waiting A numbers) (met : Bool) (ins outs : List (List ℕ)) (end : Fate A) → Says w ins outs end → Says (record w { met = met }) ins outs end
    pub waits : (s : Core A numbers) (w : Waiting A numbers) → Inv s w → Says w [] [] (record { ending = Waits; taken = w.taken })
    pub drops : (s : Core A numbers) (w : Waiting A numbers) → Inv s w → Says w [] [] (record { ending = Dropped; taken = w.taken })
    pub interrupted : (s : Core A numbers) (w : Waiting A numbers) → Inv s w → Says w [] [] (record { ending = Interrupted (interrupt_reply w); taken = taken_with w.taken (interrupt_reply w) })
    pub tries : (s : Core A numbers) (w : Waiting A numbers) → Inv s w → TrySays s w (try s w w.call true)

  module _ (course : Course) where
    says_as : (w : Waiting A numbers) (ins ins' outs outs' : List (List ℕ)) (end end' : Fate A) → ins ≡ ins' → outs ≡ outs' → end ≡ end' → Says w ins' outs' end' → Says w ins outs end
    says_as w ins ins' outs outs' end end' a b c h = subst (λ z. Says w z outs end) (sym a) (subst (λ z. Says w ins' z end) (sym b) (subst (λ z. Says w ins' outs' z) (sym c) h))

    abbrev Whole : ℕ → State A → List (Step A × Bool) → ℕ → Waiting A numbers → Type 0
    Whole place s xs c w = Says w (of (OfCall c) (pieces_from (piece_added q) place s xs)) (of (OfCall c) (pieces_from (pieces_left p) place s xs)) (fate s xs c)

    module _ (place : ℕ) (s : State A) (xs : List (Step A × Bool)) (c : ℕ) (w : Waiting A numbers) (below : IsBelowCounters s) (order : AreInOrder s.core) (here : get nat_eq s.core.parked c ≡ Some w) (inv : Inv s.core w) where
      taken_here : taken_by s.core c ≡ w.taken
      taken_here = ap (λ o. unwrap_or (option_map (λ (w : Waiting A numbers). w.taken) o) 0) here

      fate_goes : (x : Step A) (v : Waiting A numbers) → get nat_eq (step s x).state.core.parked c ≡ Some v → fate s ((x, false) ∷ xs) c ≡ fate (step s x).state xs c
      fate_goes x v g = ap (λ o. cond (is_some o) (fate (step s x).state xs c) (ended_by x (step s x).reply c (taken_by s.core c))) g

      fate_ends : (x : Step A) → get nat_eq (step s x).state.core.parked c ≡ None → fate s ((x, false) ∷ xs) c ≡ ended_by x (step s x).reply c w.taken
      fate_ends x g = ap (λ o. cond (is_some o) (fate (step s x).state xs c) (ended_by x (step s x).reply c (taken_by s.core c))) g ∙ ap (ended_by x (step s x).reply c) taken_here

      stays_so : (x : Step A) (v : Waiting A numbers) → v.kept ≡ w.kept → Inv s.core v → Inv (step s x).state.core v
      stays_so x v same i =
          course.stays s x v below
          (subst (λ ks. All (λ k. k ≢ s.next_description) ks) (sym same) (unused s c w s.next_description below here (omega arith)))
          (subst (λ ks. All (λ k. k ≢ s.next_description + 1) ks) (sym same) (unused s c w (s.next_description + 1) below here (omega arith)))
          i

      gone : (x : Step A) → get nat_eq (step s x).state.core.parked c ≡ None →
          (of (OfCall c) (pieces_from (piece_added q) (place + 1) (step s x).state xs) ≡ []) × (of (OfCall c) (pieces_from (pieces_left p) (place + 1) (step s x).state xs) ≡ [])
      gone x g = absent (place + 1) p q (step s x).state xs c (step_order s x order) g (inl (omega (arith, order.below c w here, step_rises s x order)))

      abbrev Rest : Step A → Type 0
      Rest x = (v : Waiting A numbers) → get nat_eq (step s x).state.core.parked c ≡ Some v → Inv (step s x).state.core v → Whole (place + 1) (step s x).state xs c v

      -- a step of others
      other : (x : Step A) → Rest x → StepApart s x c → ((reply : Reply A) → ended_by x reply c w.taken ≡ record { ending = Dropped; taken = w.taken }) → Whole place s ((x, false) ∷ xs) c w
      other x rest a drop = at (get nat_eq (step s x).state.core.parked c) refl
        where
          at : (o : Option (Waiting A numbers)) → get nat_eq (step s x).state.core.parked c ≡ o → Whole place s ((x, false) ∷ xs) c w
          at (Some v) g =
              let f = a.from v g in
              let same : record v { met = f.0 } ≡ w = some_same v f.0 (sym f.1 ∙ here) in
              let inv_v : Inv s.core v = course.met s.core (record v { met = f.0 }) v.met (subst (Inv s.core) (sym same) inv) in
              says_as w _ _ _ _ _ _ (of_none (OfCall c) (piece_added q place s x) _ (a.chunks place q)) (of_none (OfCall c) (pieces_left p place s x) _ (a.outs place p)) (fate_goes x v g)
              (subst (Whole (place + 1) (step s x).state xs c) same
              (course.says_met v f.0 (of (OfCall c) (pieces_from (piece_added q) (place + 1) (step s x).state xs)) (of (OfCall c) (pieces_from (pieces_left p) (place + 1) (step s x).state xs)) (fate (step s x).state xs c)
              (rest v g (stays_so x v (ap (λ (z : Waiting A numbers). z.kept) same) inv_v))))
            where
              some_same : (v : Waiting A numbers) (met : Bool) → Some (record v { met = met }) ≡ Some w → record v { met = met } ≡ w
              some_same v met z = cc
          at None g =
              let n = gone x g in
              says_as w _ [] _ [] _ (record { ending = Dropped; taken = w.taken }) (of_none (OfCall c) (piece_added q place s x) _ (a.chunks place q) ∙ n.0) (of_none (OfCall c) (pieces_left p place s x) _ (a.outs place p) ∙ n.1)
              (fate_ends x g ∙ drop (step s x).reply) (course.drops s.core w inv)

      -- the call itself
      own_chunks : (h : Stepped A numbers) → StepTo s (Resume c) h →
          of (OfCall c) (pieces_from (piece_added q) place s ((Resume c, false) ∷ xs)) ≡ unless_empty (into_pipe numbers h.flow.into q) ++ of (OfCall c) (pieces_from (piece_added q) (place + 1) (step s (Resume c)).state xs)
      own_chunks h to = own_first (OfCall c) (piece_added q) place s (Resume c) xs _ (own_added (OfCall c) q place s (Resume c) h refl (same_number c) to)

      own_outs : (h : Stepped A numbers) → StepTo s (Resume c) h →
          of (OfCall c) (pieces_from (pieces_left p) place s ((Resume c, false) ∷ xs)) ≡ unless_empty (out_of_pipe numbers (held s.core p) h.flow.out p) ++ of (OfCall c) (pieces_from (pieces_left p) (place + 1) (step s (Resume c)).state xs)
      own_outs h to = own_first (OfCall c) (pieces_left p) place s (Resume c) xs _ (own_left (OfCall c) p place s (Resume c) h refl (same_number c) refl to)

      own : (t : Trial A numbers) → try s.core w w.call true ≡ t → TrySays s.core w t → Rest (Resume c) → Whole place s ((Resume c, false) ∷ xs) c w
      own (Done u flow reply) e says rest =
          let to = resume_to s c w (Done u flow reply) here e in
          let none : get nat_eq (step s (Resume c)).state.core.parked c ≡ None = ap (λ m. get nat_eq m c) to.parked ∙ without_same (flowed u flow).parked c in
          let n = gone (Resume c) none in
          says_as w _ (unless_empty (into_pipe numbers flow.into q)) _ (unless_empty (out_of_pipe numbers (held s.core p) flow.out p)) _ (record { ending = Answered reply; taken = taken_with w.taken reply })
          (own_chunks _ to ∙ (ap (λ z. unless_empty (into_pipe numbers flow.into q) ++ z) n.0 ∙ append-nil _))
          (own_outs _ to ∙ (ap (λ z. unless_empty (out_of_pipe numbers (held s.core p) flow.out p) ++ z) n.1 ∙ append-nil _))
          (fate_ends (Resume c) none ∙ (ap (λ b. cond b (record { ending = Answered (step s (Resume c)).reply; taken = taken_with w.taken (step s (Resume c)).reply }) (record { ending = Dropped; taken = w.taken })) (same_number c)
          ∙ ap (λ r. record { ending = Answered r; taken = taken_with w.taken r }) to.reply))
          says
      own (Wait u flow t) e says rest =
          let to = resume_to s c w (Wait u flow t) here e in
          let there : get nat_eq (step s (Resume c)).state.core.parked c ≡ Some (record w { taken = t }) = ap (λ m. get nat_eq m c) to.parked ∙ put_same (flowed u flow).parked c (record w { taken = t }) in
          says_as w _ (unless_empty (into_pipe numbers flow.into q) ++ of (OfCall c) (pieces_from (piece_added q) (place + 1) (step s (Resume c)).state xs)) _ (unless_empty (out_of_pipe numbers (held s.core p) flow.out p) ++ of (OfCall c) (pieces_from (pieces_left p) (place + 1) (step s (Resume c)).state xs)) _ (fate (step s (Resume c)).state xs c)
          (own_chunks _ to) (own_outs _ to) (fate_goes (Resume c) (record w { taken = t }) there)
          (says.1 _ _ _ (rest (record w { taken = t }) there (stays_so (Resume c) (record w { taken = t }) refl says.0)))

      own_interrupt : Whole place s ((Interrupt c, false) ∷ xs) c w
      own_interrupt =
          let to = interrupt_to s c w here in
          let none : get nat_eq (step s (Interrupt c)).state.core.parked c ≡ None = ap (λ m. get nat_eq m c) to.parked ∙ without_same s.core.parked c in
          let n = gone (Interrupt c) none in
          let a = step_apart s (Interrupt c) c order (λ v e g. absurd (cc)) (λ e j. late (order.below c w here) j) in
          says_as w _ [] _ [] _ (record { ending = Interrupted (interrupt_reply w); taken = taken_with w.taken (interrupt_reply w) })
          (of_none (OfCall c) (piece_added q place s (Interrupt c)) _ (a.chunks place q) ∙ n.0) (of_none (OfCall c) (pieces_left p place s (Interrupt c)) _ (a.outs place p) ∙ n.1)
          (fate_ends (Interrupt c) none ∙ (ap (λ b. cond b (record { ending = Interrupted (step s (Interrupt c)).reply; taken = taken_with w.taken (step s (Interrupt c)).reply }) (record { ending = Dropped; taken = w.taken })) (same_number c)
          ∙ ap (λ r. record { ending = Interrupted r; taken = taken_with w.taken r }) to.reply))
          (course.interrupted s.core w inv)
        where
          late : c < s.core.next_call → s.core.next_call ≡ c → ⊥
          late l j = omega (arith, l, j)

      one : (x : Step A) → Rest x → Whole place s ((x, false) ∷ xs) c w
      one Start rest = other Start rest (step_apart s Start c order (λ v e g. absurd (cc)) (λ e j. late j)) (λ reply. refl)
        where
          late : s.core.next_call ≡ c → ⊥
          late j = omega (arith, order.below c w here, j)
      one (Begin pid call) rest = other (Begin pid call) rest (step_apart s (Begin pid call) c order (λ v e g. absurd (cc)) (λ e j. late j)) (λ reply. refl)
        where
          late : s.core.next_call ≡ c → ⊥
          late j = omega (arith, order.below c w here, j)
      one (Resume d) rest = at (eqb_tells d c)
        where
          late : s.core.next_call ≡ c → ⊥
          late j = omega (arith, order.below c w here, j)

          at : ((nat_eq d c ≡ true) × (d ≡ c)) ⊎ ((nat_eq d c ≡ false) × (d ≢ c)) → Whole place s ((Resume d, false) ∷ xs) c w
          at (inl y) =
              subst (λ z. Rest (Resume z) → Whole place s ((Resume z, false) ∷ xs) c w) (sym y.1)
              (λ r. own (try s.core w w.call true) refl (course.tries s.core w inv) r) rest
          at (inr y) =
              other (Resume d) rest (step_apart s (Resume d) c order (λ v e g. y.1 (same_resumed d c (Resume d) refl e)) (λ e j. late j))
              (λ reply. ap (λ b. cond b (record { ending = Answered reply; taken = taken_with w.taken reply }) (record { ending = Dropped; taken = w.taken })) y.0)
      one (Interrupt d) rest = at (eqb_tells d c)
        where
          late : s.core.next_call ≡ c → ⊥
          late j = omega (arith, order.below c w here, j)

          at : ((nat_eq d c ≡ true) × (d ≡ c)) ⊎ ((nat_eq d c ≡ false) × (d ≢ c)) → Whole place s ((Interrupt d, false) ∷ xs) c w
          at (inl y) = subst (λ z. Whole place s ((Interrupt z, false) ∷ xs) c w) (sym y.1) own_interrupt
          at (inr y) =
              other (Interrupt d) rest (step_apart s (Interrupt d) c order (λ v e g. absurd (cc)) (λ e j. late j))
              (λ reply. ap (λ b. cond b (record { ending = Interrupted reply; taken = taken_with w.taken reply }) (record { ending = Dropped; taken = w.taken })) y.0)

    pub course_run : (place : ℕ) (s : State A) (xs : List (Step A × Bool)) (c : ℕ) (w : Waiting A numbers) → IsBelowCounters s → AreInOrder s.core → get nat_eq s.core.parked c ≡ Some w → Inv s.core w → Whole place s xs c w
    course_run place s [] c w below order here inv =
        says_as w [] [] [] [] _ (record { ending = Waits; taken = w.taken }) refl refl (ap (λ t. record { ending = Waits; taken = t }) (taken_here place s [] c w below order here inv)) (course.waits s.core w inv)
    course_run place s ((x, true) ∷ xs) c w below order here inv = course_run (place + 1) s xs c w below order here inv
    course_run place s ((x, false) ∷ xs) c w below order here inv =
        one place s xs c w below order here inv x (λ v g i. course_run (place + 1) (step s x).state xs c v (below_step s x below) (step_order s x order) g i)
