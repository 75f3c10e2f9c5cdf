-- A call that begins in a run.
use Rattle.std.proofs.Common.{◌≡◌, ◌≢◌, ◌⊎◌, inl, inr, ℕ, ℤ, ◌+◌, ◌<◌, ◌≤◌, Bool, true, false, cond, Option, List, [], ◌∷◌, ◌++◌, length, refl, sym, ◌∙◌, ap, subst, nat_eq, append-nil, arith}
use Rattle.std.specs.Prelude.{◌==◌, IfSome, All, option_map, ◌&&◌}
use Rattle.std.specs.declared.option.Option.TheVariants.{None, Some}
use Rattle.std.proofs.lemmas.Bool.{eqb-true}
use Rattle.std.proofs.lemmas.List.Elements.{All-cons}
use Rattle.pl_model.specs.declared.calls.Call.{Call}
use Rattle.pl_model.specs.declared.calls.Mode.{Mode}
use Rattle.pl_model.specs.declared.calls.Step.{Step}
use Rattle.pl_model.specs.declared.calls.Step.TheVariants.{Begin}
use Rattle.pl_model.specs.declared.replies.Reply.{Reply}
use Rattle.pl_model.specs.declared.replies.Reply.TheVariants.{Bytes, Fault, Parked, NoProcess, CallsSpent}
use Rattle.pl_model.specs.declared.replies.Errno.TheVariants.{EAGAIN, EBADF}
use Rattle.pl_model.specs.Numbers.{last_call}
use Rattle.pl_model.specs.Modes.{reads, writes}
use Rattle.pl_model.specs.Map.{get}
use Rattle.pl_model.specs.Keys.{Node, PipeNode, Plain, drawn, drawing_map}
use Rattle.pl_model.specs.State.{Core, Description, Open, Waiting, described, can_wait}
use Rattle.pl_model.specs.Trial.{Trial, Done, Wait, pipe_at, flowed, found, answered, tried as tried_with, Answered as Answers_now, Tried}
use Rattle.pl_model.specs.Transfer.{count}
use Rattle.pl_model.specs.Begin.{open_fd, open_for, allowed, may_block, begin_read, begin_write}
use Rattle.pl_model.specs.Step.{Stepped, try, begin, begun, happen, first_tried, parked, stepped, waiting}
use Rattle.pl_model.specs.Numbered.{numbers, State, next_numbers, step}
use Rattle.pl_model.specs.Run.{after}
use Rattle.pl_model.specs.StandsFor.{IsBelowCounters}
use Rattle.pl_model.specs.Stream.{held, into_pipe, out_of_pipe}
use Rattle.pl_model.specs.Chunks.{Piece, Tag, OfCall, AtPlace, ForgottenAt, same_tag, tag_answered, tag_of, unless_empty, of, piece_added, pieces_left, pieces_from, chunks, outs}
use Rattle.pl_model.specs.Fates.{Fate, Answered, answers_count, fate, fate_answered, fate_begun, bytes_answered, taken_with}
use Rattle.pl_model.specs.InOrder.{AreInOrder}
use Rattle.pl_model.specs.OnNodes.{Keeps}
use Rattle.pl_model.specs.Packets.{is_byte_queue}
use Rattle.pl_model.specs.StreamLaw.{Adds, Reads, may_wait}
use Rattle.pl_model.proofs.renaming.Simulates.{below_step}
use Rattle.pl_model.proofs.by_call.Ways.{TrialAll}
use Rattle.pl_model.proofs.by_call.Keeps.{try-keeps, node_of, open_node}
use Rattle.pl_model.proofs.streams.Maps.{append_new}
use Rattle.pl_model.proofs.streams.Writes.{no_slice, WriteTry, write_try, adds_no, says_parked, same_number}
use Rattle.pl_model.proofs.streams.Does.{Among, TrialFine, try_fine, at_its_place, among_same, among_changes, among_flowed}
use Rattle.pl_model.proofs.streams.Courses.{StepTo, step_to, step_order, run_rises, absent, nothing_there}
use Rattle.pl_model.proofs.streams.Pieces.{of_append, pieces_append, other_places, added_apart, left_apart}
use Rattle.pl_model.proofs.streams.CallRuns.{Course, course_run, own_added, own_left, own_first}
use Rattle.pl_model.proofs.streams.WriteRuns.{adds_more, IsWrite, WriteSays, write_course}
use Rattle.pl_model.proofs.streams.ReadRuns.{KeepsQueue, keeps_queue, IsRead, ReadSays, ReadTry, read_try, read_course, reads_nothing}

-- what was found open is there
pub opened : (test : Mode → Bool) (o : Option (Open numbers)) (f : Open numbers) → allowed test o ≡ Some f → o ≡ Some f
opened test None f h = absurd (cc)
opened test (Some o) f h = at (test o.description.mode) h where
  at : (b : Bool) → cond b (Some o) None ≡ Some f → Some o ≡ Some f
  at true h = h
  at false h = absurd (cc)

module _ {A : Type 0} where
  pub run_below : (s : State A) (xs : List (Step A × Bool)) → IsBelowCounters s → IsBelowCounters (after s xs)
  run_below s [] h = h
  run_below s ((x, true) ∷ xs) h = run_below s xs h
  run_below s ((x, false) ∷ xs) h = run_below (step s x).state xs (below_step s x h)

  fate_at_once : (s : State A) (xs : List (Step A × Bool)) (reply : Reply A) → says_parked reply ≡ false → fate_answered s xs reply ≡ record { ending = Answered reply; taken = taken_with 0 reply }
  fate_at_once s xs (Parked c) h = absurd (cc)
  fate_at_once s xs reply h = refl

  pub there : (s : Core A numbers) (d : ℕ) (is on : Node numbers) → node_of s d ≡ Some is → is ≡ on → IfSome (described s d) (λ (y : Open numbers). y.description.node ≡ on)
  there s d is on e same = at (s.descriptions d) e where
    at : (o : Option (Description numbers)) → option_map (λ (x : Description numbers). x.node) o ≡ Some is → IfSome (option_map (λ x. record { key = d; description = x }) o) (λ (y : Open numbers). y.description.node ≡ on)
    at None e = absurd (cc)
    at (Some x) e = (let there : x.node ≡ is = cc in there ∙ same)

  -- a description that is there has no number above all that were given
  pub given : (s : State A) (d n : ℕ) (node : Node numbers) → IsBelowCounters s → node_of s.core d ≡ Some node → s.next_description ≤ n → d ≢ n
  given s d n node below e le j = at (s.core.descriptions d) e (ap s.core.descriptions j ∙ (below.descriptions n le).descriptions) where
    at : (o : Option (Description numbers)) → option_map (λ (x : Description numbers). x.node) o ≡ Some node → o ≡ None → ⊥
    at None e f = cc
    at (Some x) e f = cc

module _ {A : Type 0} (p q place : ℕ) (s : State A) (xs : List (Step A × Bool)) (pid : ℕ) (call : Call A) (SaysFirst : List (List ℕ) → List (List ℕ) → Fate A → Type 0) where
  abbrev x : Step A
  x = Begin pid call

  abbrev tag : Tag
  tag = tag_of place x (step s x).reply

  abbrev pub BegunWhole : Type 0
  BegunWhole =
      ((tag ≡ AtPlace place) ⊎ (tag ≡ OfCall s.core.next_call))
      × SaysFirst (of tag (pieces_from (piece_added q) place s ((x, false) ∷ xs))) (of tag (pieces_from (pieces_left p) place s ((x, false) ∷ xs))) (fate_begun s x xs)

  first_as : (ins ins' outs outs' : List (List ℕ)) (end end' : Fate A) → ins ≡ ins' → outs ≡ outs' → end ≡ end' → SaysFirst ins' outs' end' → SaysFirst ins outs end
  first_as ins ins' outs outs' end end' a b c h = subst (λ z. SaysFirst z outs end) (sym a) (subst (λ z. SaysFirst ins' z end) (sym b) (subst (λ z. SaysFirst ins' outs' z) (sym c) h))

  -- the chunks and outs of the tag, where it is t
  own_chunks : (t : Tag) (h : Stepped A numbers) → tag ≡ t → same_tag t t ≡ true → StepTo s x h →
      of tag (pieces_from (piece_added q) place s ((x, false) ∷ xs)) ≡ unless_empty (into_pipe numbers h.flow.into q) ++ of t (pieces_from (piece_added q) (place + 1) (step s x).state xs)
  own_chunks t h e same to = ap (λ z. of z (pieces_from (piece_added q) place s ((x, false) ∷ xs))) e ∙ own_first t (piece_added q) place s x xs _ (own_added t q place s x h e same to)

  own_outs : (t : Tag) (h : Stepped A numbers) → tag ≡ t → same_tag t t ≡ true → same_tag (ForgottenAt place) t ≡ false → StepTo s x h →
      of tag (pieces_from (pieces_left p) place s ((x, false) ∷ xs)) ≡ unless_empty (out_of_pipe numbers (held s.core p) h.flow.out p) ++ of t (pieces_from (pieces_left p) (place + 1) (step s x).state xs)
  own_outs t h e same other to = ap (λ z. of z (pieces_from (pieces_left p) place s ((x, false) ∷ xs))) e ∙ own_first t (pieces_left p) place s x xs _ (own_left t p place s x h e same other to)

  -- it is answered at once
  answered_says : (h : Stepped A numbers) → StepTo s x h → says_parked h.reply ≡ false →
      SaysFirst (unless_empty (into_pipe numbers h.flow.into q)) (unless_empty (out_of_pipe numbers (held s.core p) h.flow.out p)) (record { ending = Answered h.reply; taken = taken_with 0 h.reply }) → BegunWhole
  answered_says h to not says =
      let is : tag ≡ AtPlace place = ap (tag_answered place) to.reply ∙ at_its_place place h.reply not in
      let no_chunks = other_places (piece_added q) place (added_apart q place) (place + 1) (step s x).state xs (inl (omega arith)) in
      let no_outs = other_places (pieces_left p) place (left_apart p place) (place + 1) (step s x).state xs (inl (omega arith)) in (
        inl is,
        first_as _ (unless_empty (into_pipe numbers h.flow.into q)) _ (unless_empty (out_of_pipe numbers (held s.core p) h.flow.out p)) _ (record { ending = Answered h.reply; taken = taken_with 0 h.reply })
            (own_chunks (AtPlace place) h is (same_number place) to ∙ (ap (λ z. unless_empty (into_pipe numbers h.flow.into q) ++ z) no_chunks ∙ append-nil (unless_empty (into_pipe numbers h.flow.into q))))
            (own_outs (AtPlace place) h is (same_number place) refl to ∙ (ap (λ z. unless_empty (out_of_pipe numbers (held s.core p) h.flow.out p) ++ z) no_outs ∙ append-nil (unless_empty (out_of_pipe numbers (held s.core p) h.flow.out p))))
            (ap (fate_answered (step s x).state xs) to.reply ∙ fate_at_once (step s x).state xs h.reply not)
            says,
      )

  -- it is parked
  parked_says : (h : Stepped A numbers) → StepTo s x h → h.reply ≡ Parked s.core.next_call →
      SaysFirst (unless_empty (into_pipe numbers h.flow.into q) ++ of (OfCall s.core.next_call) (pieces_from (piece_added q) (place + 1) (step s x).state xs))
      (unless_empty (out_of_pipe numbers (held s.core p) h.flow.out p) ++ of (OfCall s.core.next_call) (pieces_from (pieces_left p) (place + 1) (step s x).state xs)) (fate (step s x).state xs s.core.next_call) → BegunWhole
  parked_says h to e says =
      let is : tag ≡ OfCall s.core.next_call = ap (tag_answered place) (to.reply ∙ e) in (
        inr is,
        first_as _ (unless_empty (into_pipe numbers h.flow.into q) ++ of (OfCall s.core.next_call) (pieces_from (piece_added q) (place + 1) (step s x).state xs)) _
            (unless_empty (out_of_pipe numbers (held s.core p) h.flow.out p) ++ of (OfCall s.core.next_call) (pieces_from (pieces_left p) (place + 1) (step s x).state xs)) _ (fate (step s x).state xs s.core.next_call)
            (own_chunks (OfCall s.core.next_call) h is (same_number s.core.next_call) to) (own_outs (OfCall s.core.next_call) h is (same_number s.core.next_call) refl to)
            (ap (fate_answered (step s x).state xs) (to.reply ∙ e)) says,
      )

  -- no byte moves
  pub quiet_says : (reply : Reply A) → StepTo s x (stepped s.core reply) → says_parked reply ≡ false → SaysFirst [] [] (record { ending = Answered reply; taken = taken_with 0 reply }) → BegunWhole
  quiet_says reply to not says = answered_says (stepped s.core reply) to not says

  module _ (Inv : Core A numbers → Waiting A numbers → Type 0) (Says : Waiting A numbers → List (List ℕ) → List (List ℕ) → Fate A → Type 0) (course : Course p q Inv Says) where
    -- the first try
    abbrev pub FirstSays : Waiting A numbers → Bool → Trial A numbers → Type 0
    FirstSays w may (Done u flow reply) =
        SaysFirst (unless_empty (into_pipe numbers flow.into q)) (unless_empty (out_of_pipe numbers (held s.core p) flow.out p)) (record { ending = Answered reply; taken = taken_with 0 reply })
    FirstSays w may (Wait u flow t) =
        Inv s.core (record w { taken = t })
        × ((ins outs : List (List ℕ)) (end : Fate A) → Says (record w { taken = t }) ins outs end →
        SaysFirst (unless_empty (into_pipe numbers flow.into q) ++ ins) (unless_empty (out_of_pipe numbers (held s.core p) flow.out p) ++ outs) end)

    pub first_says : (w : Waiting A numbers) (may : Bool) (t : Trial A numbers) → IsBelowCounters s → AreInOrder s.core → All (λ k. k ≢ s.next_description) w.kept → All (λ k. k ≢ s.next_description + 1) w.kept →
        TrialAll (Among s.core) t → TrialFine call t → FirstSays w may t →
        SaysFirst [] [] (record { ending = Answered (Fault EAGAIN); taken = 0 }) → SaysFirst [] [] (record { ending = Answered CallsSpent; taken = 0 }) →
        StepTo s x (first_tried s.core w may t) → BegunWhole
    first_says w may (Done u flow reply) below order f g k fine says again spent to = answered_says _ to fine says
    first_says w false (Wait u flow t) below order f g k fine says again spent to = quiet_says (Fault EAGAIN) to refl again
    first_says w true (Wait u flow t) below order f g k fine says again spent to = at (s.core.next_call == last_call) to
      where
        late : s.core.next_call < s.core.next_call → ⊥
        late l = omega (arith, l)

        at : (b : Bool) → StepTo s x (cond b (stepped s.core CallsSpent) (record { state = parked (flowed u flow) (record w { taken = t }); reply = Parked s.core.next_call; flow = flow })) → BegunWhole
        at true to = quiet_says CallsSpent to refl spent
        at false to =
            let a = among_flowed s.core u flow k in
            let free : get nat_eq (flowed u flow).parked s.core.next_call ≡ None = nothing_there _ (λ v e. let f = a.from s.core.next_call v e in late (order.below s.core.next_call (record v { met = f.0 }) f.1)) in
            let here : get nat_eq (step s x).state.core.parked s.core.next_call ≡ Some (record w { taken = t }) =
            ap (λ m. get nat_eq m s.core.next_call) to.parked
            ∙ (append_new (flowed u flow).parked (flowed u flow).next_call s.core.next_call (record w { taken = t }) free
            ∙ ap (λ b. cond b (Some (record w { taken = t })) None) (ap (λ n. nat_eq n s.core.next_call) a.next ∙ same_number s.core.next_call)) in
            parked_says _ to refl
            (says.1 _ _ _ (course_run p q Inv Says course (place + 1) (step s x).state xs s.core.next_call (record w { taken = t }) (below_step s x below) (step_order s x order) here
            (course.stays s x (record w { taken = t }) below f g says.0)))

-- the parts of a run: what a call that begins in it says, it says in the whole run
module _ {A : Type 0} (p q : ℕ) (s : State A) (xs before rest : List (Step A × Bool)) (pid : ℕ) (call : Call A) (SaysFirst : List (List ℕ) → List (List ℕ) → Fate A → Type 0) where
  abbrev now : State A
  now = after s before

  abbrev its_tag : Tag
  its_tag = tag_of (length before) (Begin pid call) (step now (Begin pid call)).reply

  -- the pieces of the call are those from its step on
  from_its_step : (of_step : ℕ → State A → Step A → List Piece) → xs ≡ before ++ (Begin pid call, false) ∷ rest → of its_tag (pieces_from of_step 0 s before) ≡ [] →
      of its_tag (pieces_from of_step 0 s xs) ≡ of its_tag (pieces_from of_step (length before) now ((Begin pid call, false) ∷ rest))
  from_its_step of_step e none =
      ap (λ z. of its_tag (pieces_from of_step 0 s z)) e
      ∙ (ap (of its_tag) (pieces_append of_step 0 s before ((Begin pid call, false) ∷ rest) ∙ ap (λ n. pieces_from of_step 0 s before ++ pieces_from of_step n now ((Begin pid call, false) ∷ rest)) zero)
      ∙ (of_append its_tag (pieces_from of_step 0 s before) (pieces_from of_step (length before) now ((Begin pid call, false) ∷ rest))
      ∙ ap (λ z. z ++ of its_tag (pieces_from of_step (length before) now ((Begin pid call, false) ∷ rest))) none))
    where
      zero : 0 + length before ≡ length before
      zero = omega arith

  pub in_whole : xs ≡ before ++ (Begin pid call, false) ∷ rest → AreInOrder s.core → BegunWhole p q (length before) now rest pid call SaysFirst →
      SaysFirst (of its_tag (chunks s xs q)) (of its_tag (outs s xs p)) (fate_begun now (Begin pid call) rest)
  in_whole e order says =
      let none = earlier says.0 in
      subst (λ z. SaysFirst z (of its_tag (outs s xs p)) (fate_begun now (Begin pid call) rest)) (sym (from_its_step (piece_added q) e none.0))
      (subst (λ z. SaysFirst (of its_tag (pieces_from (piece_added q) (length before) now ((Begin pid call, false) ∷ rest))) z (fate_begun now (Begin pid call) rest)) (sym (from_its_step (pieces_left p) e none.1)) says.1)
    where
      late : get nat_eq s.core.parked now.core.next_call ≡ None
      late = nothing_there _ (λ v e. no (order.below now.core.next_call v e))
        where
          no : now.core.next_call < s.core.next_call → ⊥
          no l = omega (arith, l, run_rises s before order)

      earlier : ((its_tag ≡ AtPlace (length before)) ⊎ (its_tag ≡ OfCall now.core.next_call)) → (of its_tag (pieces_from (piece_added q) 0 s before) ≡ []) × (of its_tag (pieces_from (pieces_left p) 0 s before) ≡ [])
      earlier (inl e) = subst (λ t. (of t (pieces_from (piece_added q) 0 s before) ≡ []) × (of t (pieces_from (pieces_left p) 0 s before) ≡ [])) (sym e) (other_places (piece_added q) (length before) (added_apart q (length before)) 0 s before (inr (omega arith)), other_places (pieces_left p) (length before) (left_apart p (length before)) 0 s before (inr (omega arith)))
      earlier (inr e) = subst (λ t. (of t (pieces_from (piece_added q) 0 s before) ≡ []) × (of t (pieces_from (pieces_left p) 0 s before) ≡ [])) (sym e) (absent 0 p q s before now.core.next_call order late (inr (omega arith)))

module _ {A : Type 0} (p q : ℕ) (place : ℕ) (s : State A) (xs : List (Step A × Bool)) (pid : ℕ) (below : IsBelowCounters s) (order : AreInOrder s.core) where
  pub begin_to : (call : Call A) → StepTo s (Begin pid call) (drawn (next_numbers s) (cond (s.core.processes pid) (drawing_map (begun s.core pid call) (begin s.core pid call)) (Plain (stepped s.core NoProcess))))
  unfolding happen
  begin_to call = step_to s (Begin pid call)

  fresh : (d n : ℕ) (node : Node numbers) → node_of s.core d ≡ Some node → s.next_description ≤ n → All (λ k. k ≢ n) (d ∷ [])
  fresh d n node e le = All-cons (λ k. k ≢ n) d [] (given s d n node below e le) (λ k x h. absurd (omega arith))

  -- a write that begins
  module _ (fd : ℤ) (bytes : List ℕ) where
    abbrev call : Call A
    call = Call.Write fd bytes

    abbrev WriteFirst : Bool → List (List ℕ) → List (List ℕ) → Fate A → Type 0
    WriteFirst may ins outs end = Adds may bytes 0 ins end

    first_write : (w : Waiting A numbers) (may parks : Bool) (t : Trial A numbers) → w.call ≡ call → w.taken ≡ 0 → Keeps s.core w.kept 0 (PipeNode q) → WriteTry may bytes 0 q t →
        FirstSays p q place s xs pid call (WriteFirst may) (IsWrite p q fd bytes) (WriteSays p q fd bytes) (write_course p q fd bytes) w parks t
    first_write w may parks (Done u flow reply) is none on says = says
    first_write w may parks (Wait u flow to) is none on says = ((is, (says.2, says.3), on), (λ ins outs end rest. adds_more may bytes 0 to (into_pipe numbers flow.into q) ins end (λ h. refl) says rest))

    no_write : (may : Bool) (reply : Reply A) → taken_with 0 reply ≡ 0 → ((n : ℕ) → Answered reply ≢ Answered (count n)) → answers_count (Answered reply) (length bytes) ≡ false → WriteFirst may [] [] (record { ending = Answered reply; taken = taken_with 0 reply })
    no_write may reply none other not = adds_no may bytes 0 (taken_with 0 reply) (Answered reply) (omega arith) none not other

    pub begun_write : IfSome (open_for writes s.core pid fd) (λ o. o.description.node ≡ PipeNode q) → BegunWhole p q place s xs pid call (WriteFirst (may_wait (open_for writes s.core pid fd)))
    unfolding begin begin_write
    begun_write on = process (s.core.processes pid) (begin_to call)
      where
        tried : (o : Open numbers) → open_for writes s.core pid fd ≡ Some o → o.description.node ≡ PipeNode q →
            StepTo s (Begin pid call) (first_tried s.core (waiting pid call (o.key ∷ []) false) (may_block o.description && can_wait s.core pid) (try s.core (waiting pid call (o.key ∷ []) false) call (may_block o.description))) →
            BegunWhole p q place s xs pid call (WriteFirst (may_block o.description))
        tried o e is to =
            let w : Waiting A numbers = waiting pid call (o.key ∷ []) false in
            let node : node_of s.core o.key ≡ Some o.description.node = open_node s.core pid fd o (opened writes (open_fd s.core pid fd) o e) in
            let keeps : Keeps s.core (o.key ∷ []) 0 (PipeNode q) = there s.core o.key o.description.node (PipeNode q) node is in
            first_says p q place s xs pid call (WriteFirst (may_block o.description)) (IsWrite p q fd bytes) (WriteSays p q fd bytes) (write_course p q fd bytes) w (may_block o.description && can_wait s.core pid)
            (try s.core w call (may_block o.description)) below order
            (fresh o.key s.next_description o.description.node node (omega arith)) (fresh o.key (s.next_description + 1) o.description.node node (omega arith))
            (try-keeps (among_changes (next_numbers s) s.core) s.core w call (may_block o.description) (among_same s.core order.once))
            (try_fine s.core w call (may_block o.description) (omega arith, λ h. refl) (λ h. refl))
            (first_write w (may_block o.description) (may_block o.description && can_wait s.core pid) (try s.core w call (may_block o.description)) refl refl keeps
            (write_try s.core w fd bytes (may_block o.description) q (omega arith, λ h. refl) (λ h. refl) keeps))
            (no_write (may_block o.description) (Fault EAGAIN) refl (λ n e. cc) refl) (no_write (may_block o.description) CallsSpent refl (λ n e. cc) refl)
            to

        sized : (o : Open numbers) → open_for writes s.core pid fd ≡ Some o → o.description.node ≡ PipeNode q → (b : Bool) → (length bytes == 0) ≡ b →
            StepTo s (Begin pid call) (begun s.core pid call (cond b (Answers_now s.core (count 0)) (Tried s.core (o.key ∷ []) false (may_block o.description)))) →
            BegunWhole p q place s xs pid call (WriteFirst (may_block o.description))
        sized o e is true z to =
            let empty : length bytes ≡ 0 = eqb-true (length bytes) 0 z in
            quiet_says p q place s xs pid call (WriteFirst (may_block o.description)) (count 0) to refl
            (record { stream = sym (no_slice bytes 0); from = omega arith; within = omega arith; whole = λ h l. absurd (omega (arith, h, empty)); all = λ n may f. (let same : 0 ≡ n = cc in sym same ∙ sym empty) })
        sized o e is false z to = tried o e is to

        opens : (o : Option (Open numbers)) → open_for writes s.core pid fd ≡ o → IfSome o (λ o. o.description.node ≡ PipeNode q) →
            StepTo s (Begin pid call) (drawn (next_numbers s) (drawing_map (begun s.core pid call) (found o EBADF (λ o. cond (length bytes == 0) (answered s.core (count 0)) (tried_with s.core (o.key ∷ []) false (may_block o.description)))))) →
            BegunWhole p q place s xs pid call (WriteFirst (may_wait o))
        opens None e on to = quiet_says p q place s xs pid call (WriteFirst false) (Fault EBADF) to refl (no_write false (Fault EBADF) refl (λ n e. cc) refl)
        opens (Some o) e on to = sized o e on (length bytes == 0) refl (pushed (length bytes == 0) to)
          where
            pushed : (b : Bool) → StepTo s (Begin pid call) (drawn (next_numbers s) (drawing_map (begun s.core pid call) (cond b (answered s.core (count 0)) (tried_with s.core (o.key ∷ []) false (may_block o.description))))) →
                StepTo s (Begin pid call) (begun s.core pid call (cond b (Answers_now s.core (count 0)) (Tried s.core (o.key ∷ []) false (may_block o.description))))
            pushed true h = h
            pushed false h = h

        process : (b : Bool) → StepTo s (Begin pid call) (drawn (next_numbers s) (cond b (drawing_map (begun s.core pid call) (begin s.core pid call)) (Plain (stepped s.core NoProcess)))) →
            BegunWhole p q place s xs pid call (WriteFirst (may_wait (open_for writes s.core pid fd)))
        process true to = opens (open_for writes s.core pid fd) refl on to
        process false to =
            quiet_says p q place s xs pid call (WriteFirst (may_wait (open_for writes s.core pid fd))) NoProcess to refl
            (no_write (may_wait (open_for writes s.core pid fd)) NoProcess refl (λ n e. cc) refl)

  -- a read that begins
  module _ (fd : ℤ) (k : ℕ) where
    abbrev read : Call A
    read = Call.Read fd k

    abbrev bytes_only : Bool
    bytes_only = is_byte_queue (pipe_at s.core p)

    abbrev ReadFirst : List (List ℕ) → List (List ℕ) → Fate A → Type 0
    ReadFirst ins outs end = Reads k bytes_only outs (bytes_answered end.ending)

    first_read : (w : Waiting A numbers) (may : Bool) (t : Trial A numbers) → w.call ≡ read → KeepsQueue p bytes_only s.core w.kept → ReadTry p q fd k bytes_only (held s.core p) t →
        FirstSays p q place s xs pid read ReadFirst (IsRead p q fd k bytes_only) (ReadSays p q fd k bytes_only) (read_course p q fd k bytes_only) w may t
    first_read w may (Done u flow reply) is on says = says
    first_read w may (Wait u flow to) is on says = ((is, on), (λ ins outs end rest. subst (λ b. Reads k bytes_only (unless_empty b ++ outs) (bytes_answered end.ending)) (sym says) rest))

    pub begun_read : IfSome (open_for reads s.core pid fd) (λ o. o.description.node ≡ PipeNode p) → BegunWhole p q place s xs pid read ReadFirst
    unfolding begin begin_read
    begun_read on = process (s.core.processes pid) (begin_to read)
      where
        tried : (o : Open numbers) → open_for reads s.core pid fd ≡ Some o → o.description.node ≡ PipeNode p →
            StepTo s (Begin pid read) (first_tried s.core (waiting pid read (o.key ∷ []) false) (may_block o.description && can_wait s.core pid) (try s.core (waiting pid read (o.key ∷ []) false) read (may_block o.description))) →
            BegunWhole p q place s xs pid read ReadFirst
        tried o e is to =
            let w : Waiting A numbers = waiting pid read (o.key ∷ []) false in
            let node : node_of s.core o.key ≡ Some o.description.node = open_node s.core pid fd o (opened reads (open_fd s.core pid fd) o e) in
            let queue : KeepsQueue p bytes_only s.core (o.key ∷ []) = keeps_queue p s.core (o.key ∷ []) (there s.core o.key o.description.node (PipeNode p) node is) in
            first_says p q place s xs pid read ReadFirst (IsRead p q fd k bytes_only) (ReadSays p q fd k bytes_only) (read_course p q fd k bytes_only) w (may_block o.description && can_wait s.core pid)
            (try s.core w read (may_block o.description)) below order
            (fresh o.key s.next_description o.description.node node (omega arith)) (fresh o.key (s.next_description + 1) o.description.node node (omega arith))
            (try-keeps (among_changes (next_numbers s) s.core) s.core w read (may_block o.description) (among_same s.core order.once))
            (try_fine s.core w read (may_block o.description) tt (λ h. refl))
            (first_read w (may_block o.description && can_wait s.core pid) (try s.core w read (may_block o.description)) refl queue (read_try p q fd k bytes_only s.core w (may_block o.description) queue))
            (reads_nothing k bytes_only) (reads_nothing k bytes_only) to

        opens : (o : Option (Open numbers)) → open_for reads s.core pid fd ≡ o → IfSome o (λ o. o.description.node ≡ PipeNode p) →
            StepTo s (Begin pid read) (drawn (next_numbers s) (drawing_map (begun s.core pid read) (found o EBADF (λ o. cond (k == 0) (answered s.core (Bytes [])) (tried_with s.core (o.key ∷ []) false (may_block o.description)))))) →
            BegunWhole p q place s xs pid read ReadFirst
        opens None e on to = quiet_says p q place s xs pid read ReadFirst (Fault EBADF) to refl (reads_nothing k bytes_only)
        opens (Some o) e on to = sized (k == 0) to
          where
            sized : (b : Bool) → StepTo s (Begin pid read) (drawn (next_numbers s) (drawing_map (begun s.core pid read) (cond b (answered s.core (Bytes [])) (tried_with s.core (o.key ∷ []) false (may_block o.description))))) →
                BegunWhole p q place s xs pid read ReadFirst
            sized true h = quiet_says p q place s xs pid read ReadFirst (Bytes []) h refl (reads_nothing k bytes_only)
            sized false h = tried o e on h

        process : (b : Bool) → StepTo s (Begin pid read) (drawn (next_numbers s) (cond b (drawing_map (begun s.core pid read) (begin s.core pid read)) (Plain (stepped s.core NoProcess)))) →
            BegunWhole p q place s xs pid read ReadFirst
        process true to = opens (open_for reads s.core pid fd) refl on to
        process false to = quiet_says p q place s xs pid read ReadFirst NoProcess to refl (reads_nothing k bytes_only)
