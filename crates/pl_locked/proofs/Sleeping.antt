-- Who sleeps together with others, and what becomes of them in a step.
use Rattle.std.proofs.Common.{◌≡◌, ◌+◌, ◌≤◌, ℕ, Bool, true, false, List, [], ◌∷◌, ◌++◌, cond, nat_eq, refl, sym, ◌∙◌, ap, subst, arith, get_or, Result, Ok, Err, IfOk, OnErr}
use Rattle.std.specs.Prelude.{not, ◌||◌, ◌&&◌, length, nat_lt, replicate, slice_get, slice_set, option_and_then}
use Rattle.std.specs.declared.option.Option.{Option}
use Rattle.std.specs.declared.option.Option.TheVariants.{None, Some}
use Rattle.std.specs.List.{All, list_any, position, position_or_len}
use Rattle.std.proofs.lemmas.Bool.{ltb-false}
use Rattle.std.proofs.lemmas.List.Folds.{find_at}
use Rattle.std.proofs.lemmas.List.Quantifiers.{position-Some}
use Rattle.std.proofs.lemmas.List.Sums.{position_or_len_is}
use Rattle.std.proofs.lemmas.Option.{slice_get-get_or, slice_get_past}
use Rattle.std.proofs.lemmas.List.Elements.{All-nil, All-cons, All-head, All-tail, All-replicate, All-set}
use Rattle.pl_model.specs.declared.calls.Limits.{Limits}
use Rattle.pl_model.specs.declared.calls.Call.{Call}
use Rattle.pl_model.specs.declared.calls.Step.{Step}
use Rattle.pl_model.specs.declared.calls.Step.TheVariants.{Begin}
use Rattle.pl_model.specs.declared.replies.Reply.{Reply}
use Rattle.pl_model.specs.History.{entry, state_of_history}
use Rattle.pl_model.proofs.Journals.{state-push}
use Rattle.pl_locked.specs.declared.fault.StepFault.{StepFault}
use Rattle.pl_locked.specs.Views.{Kept}
use Rattle.pl_model.specs.Map.{get}
use Rattle.pl_model.specs.State.{Waiting as ParkedCall}
use Rattle.pl_model.specs.Numbered.{numbers, State, step}
use Rattle.pl_model.specs.Waking.{can_progress}
use Rattle.pl_model.specs.Touching.{is_of_call, is_exit}
use Rattle.pl_kernel.specs.ToldCalls.{AreAlike, IsReadAt}
use Rattle.pl_locked.specs.declared.waiting.Waiting.{Waiting}
use Rattle.pl_locked.specs.declared.waiting.Waiting.TheVariants.{Nothing, Awake, Asleep, Together}
use Rattle.pl_locked.specs.Waking.{awake, woken, is_together, is_together_for, call_together, first_together, is_helped_asleep, is_helped_but, AreStuck, SleepsBy, SleepAlike, SleepAlikeWith, is_of_parked, is_of_together}
use Rattle.pl_locked.proofs.Alike.{together, kept_once, reads_on}

left_none : (a b : Bool) → (a || b) ≡ false → a ≡ false
left_none true b h = absurd (cc)
left_none false b h = refl

right_none : (a b : Bool) → (a || b) ≡ false → b ≡ false
right_none true b h = absurd (cc)
right_none false b h = h

-- where no element passes a weaker test, none passes
none_either : (p q : Waiting → Bool) → ((w : Waiting) → p w ≡ false → q w ≡ false) → (ws : List Waiting) → list_any p ws ≡ false → list_any q ws ≡ false
none_either p q weaker [] none = refl
none_either p q weaker (w ∷ ws) none =
    ap (λ x. x || list_any q ws) (weaker w (left_none (p w) (list_any p ws) none)) ∙ none_either p q weaker ws (right_none (p w) (list_any p ws) none)

-- the first that passes is found by any test that tells the same of each
same_position : (p q : Waiting → Bool) (ws : List Waiting) → All (λ w. p w ≡ q w) ws → position p ws ≡ position q ws
same_position p q ws same = ap (λ n. cond (nat_lt n (length ws)) (Some n) None) (places ws same)
  where
    places : (ws : List Waiting) → All (λ w. p w ≡ q w) ws → position_or_len p ws ≡ position_or_len q ws
    places [] same = refl
    places (w ∷ ws) same = λ i. cond (not (All-head (λ w. p w ≡ q w) w ws same i)) (1 + places ws (All-tail (λ w. p w ≡ q w) w ws same) i) 0

-- the first that sleeps together with others, found by its place
pub first_at : (ws : List Waiting) (place : ℕ) (w : Waiting) → position is_together ws ≡ Some place → w ≡ get_or ws place w → first_together ws ≡ call_together w
first_at ws place w found read =
    let at = position-Some is_together ws place w found in
    let first : position_or_len is_together ws ≡ place = position_or_len_is is_together ws place w (let lt = at.0 in omega (arith, lt)) (λ k lt. at.2 k lt) (λ lt. at.1) in
    ap (option_and_then call_together) (find_at is_together ws ∙ ap (slice_get ws) first ∙ slice_get-get_or ws place w at.0 ∙ ap Some (sym read))

pub first_none : (ws : List Waiting) → position is_together ws ≡ None → first_together ws ≡ None
first_none ws none = ap (option_and_then call_together) (find_at is_together ws ∙ slice_get_past ws (position_or_len is_together ws) (by (nat_lt (position_or_len is_together ws) (length ws)) refl none))
  where
    by : (b : Bool) → nat_lt (position_or_len is_together ws) (length ws) ≡ b → cond b (Some (position_or_len is_together ws)) None ≡ None → length ws ≤ position_or_len is_together ws
    by true is none = absurd (cc)
    by false is none = ltb-false (position_or_len is_together ws) (length ws) is

module _ (can : ℕ → Bool) where
  -- one that is asked with the others or not
  not_stuck : (w : Waiting) → is_helped_but can false w ≡ is_helped_asleep can w
  not_stuck Nothing = refl
  not_stuck (Awake call) = refl
  not_stuck (Asleep call) = refl
  not_stuck (Together call) = refl

  pub first_is : (stuck : Bool) (ws : List Waiting) → (stuck ≡ true → AreStuck can ws) → position (is_helped_but can stuck) ws ≡ position (is_helped_asleep can) ws
  first_is true ws h = same_position (is_helped_but can true) (is_helped_asleep can) ws (h refl)
  first_is false ws h = same_position (is_helped_but can false) (is_helped_asleep can) ws (λ k d lt. not_stuck _)

module _ {A : Type 0} (s : State A) where
  -- at first nobody sleeps
  pub none_together : (n : ℕ) → SleepAlike s (replicate n Nothing)
  none_together n = ([], All-replicate (SleepsBy s []) n Nothing tt)

  -- nobody sleeps together with others, so whatever they keep is the same
  alike_if_none : (kept : List ℕ) (ws : List Waiting) → first_together ws ≡ None → All (SleepsBy s kept) ws
  alike_if_none kept [] none = All-nil (SleepsBy s kept)
  alike_if_none kept (Nothing ∷ ws) none = All-cons (SleepsBy s kept) Nothing ws tt (alike_if_none kept ws none)
  alike_if_none kept (Awake call ∷ ws) none = All-cons (SleepsBy s kept) (Awake call) ws tt (alike_if_none kept ws none)
  alike_if_none kept (Asleep call ∷ ws) none = All-cons (SleepsBy s kept) (Asleep call) ws tt (alike_if_none kept ws none)
  alike_if_none kept (Together call ∷ ws) none = absurd (cc)

  -- the first waits for a read that keeps what the others keep
  first_reads : (kept : List ℕ) (ws : List Waiting) (call : ℕ) → first_together ws ≡ Some call → All (SleepsBy s kept) ws → IsReadAt s.core kept call
  first_reads kept [] call first all = absurd (cc)
  first_reads kept (Nothing ∷ ws) call first all = first_reads kept ws call first (All-tail (SleepsBy s kept) Nothing ws all)
  first_reads kept (Awake other ∷ ws) call first all = first_reads kept ws call first (All-tail (SleepsBy s kept) (Awake other) ws all)
  first_reads kept (Asleep other ∷ ws) call first all = first_reads kept ws call first (All-tail (SleepsBy s kept) (Asleep other) ws all)
  first_reads kept (Together other ∷ ws) call first all = let is : other ≡ call = cc in subst (IsReadAt s.core kept) is (All-head (SleepsBy s kept) (Together other) ws all)

  -- so if that can't end, none can: it can't get on, and more steps may be made
  pub all_stuck : (full : Bool) (ws : List Waiting) (call : ℕ) → SleepAlike s ws → first_together ws ≡ Some call → (full || can_progress s.core call) ≡ false
      → AreStuck (λ number. full || can_progress s.core number) ws
  all_stuck full ws call alike first stuck = each ws alike.1
    where
      kept : List ℕ
      kept = alike.0

      can : ℕ → Bool
      can = λ number. full || can_progress s.core number

      same : (w : Waiting) → SleepsBy s kept w → is_helped_but can true w ≡ is_helped_asleep can w
      same Nothing h = refl
      same (Awake other) h = refl
      same (Asleep other) h = refl
      same (Together other) h = sym (ap (λ b. full || b) (together s.core kept other call h (first_reads kept ws call first alike.1)) ∙ stuck)

      each : (xs : List Waiting) → All (SleepsBy s kept) xs → AreStuck can xs
      each [] all = All-nil (λ w. is_helped_but can true w ≡ is_helped_asleep can w)
      each (w ∷ xs) all = All-cons (λ w. is_helped_but can true w ≡ is_helped_asleep can w) w xs (same w (All-head (SleepsBy s kept) w xs all)) (each xs (All-tail (SleepsBy s kept) w xs all))

  -- a call joins those that sleep together
  pub joins_first : (ws : List Waiting) (first call : ℕ) → SleepAlike s ws → first_together ws ≡ Some first → AreAlike s.core first call → SleepAlikeWith s call ws
  joins_first ws first call alike is both =
      let kept = alike.0 in
      let same : both.0 ≡ kept = kept_once s.core first kept both.0 (first_reads kept ws first is alike.1) both.1 in
      (kept, alike.1, subst (λ k. IsReadAt s.core k call) same both.2)

  -- or it becomes the first
  pub becomes_first : (ws : List Waiting) (call : ℕ) → first_together ws ≡ None → AreAlike s.core call call → SleepAlikeWith s call ws
  becomes_first ws call none both = (both.0, alike_if_none both.0 ws none, both.1)

  pub alike_of_none : (ws : List Waiting) → first_together ws ≡ None → SleepAlike s ws
  alike_of_none ws none = ([], alike_if_none [] ws none)

  pub sets_together : (ws : List Waiting) (k call : ℕ) → SleepAlikeWith s call ws → SleepAlike s (slice_set ws k (Together call))
  sets_together ws k call alike = (alike.0, All-set (SleepsBy s alike.0) ws k (Together call) alike.2 alike.1)

  pub sets_other : (ws : List Waiting) (k : ℕ) (w : Waiting) → is_together w ≡ false → SleepAlike s ws → SleepAlike s (slice_set ws k w)
  sets_other ws k w other alike = (alike.0, All-set (SleepsBy s alike.0) ws k w (alone w other) alike.1)
    where
      alone : (w : Waiting) → is_together w ≡ false → SleepsBy s alike.0 w
      alone Nothing other = tt
      alone (Awake call) other = tt
      alone (Asleep call) other = tt
      alone (Together call) other = absurd (cc)

  -- whoever is woken sleeps with nobody
  awake_alone : (w : Waiting) → is_together (awake w) ≡ false
  awake_alone Nothing = refl
  awake_alone (Awake call) = refl
  awake_alone (Asleep call) = refl
  awake_alone (Together call) = refl

  pub woken_alike : (whom : Option ℕ) (ws : List Waiting) → SleepAlike s ws → SleepAlike s (woken whom ws)
  woken_alike None ws alike = alike
  woken_alike (Some k) ws alike = sets_other ws k (awake (get_or ws k Nothing)) (awake_alone (get_or ws k Nothing)) alike

  -- no step is of these calls but one that is of a call for which a caller sleeps together with others
  pub of_number : (x : Step A) (call : ℕ) → ((number : ℕ) (w : ParkedCall A numbers) → is_of_call x number w ≡ nat_eq call number) → (ws : List Waiting) → list_any (is_together_for call) ws ≡ false → list_any (is_of_together s x) ws ≡ false
  of_number x call of ws none = none_either (is_together_for call) (is_of_together s x) weaker ws none
    where
      parked : (number : ℕ) (o : Option (ParkedCall A numbers)) → nat_eq call number ≡ false → is_of_parked s x number o ≡ false
      parked number None other = refl
      parked number (Some w) other = of number w ∙ other

      weaker : (w : Waiting) → is_together_for call w ≡ false → is_of_together s x w ≡ false
      weaker Nothing other = refl
      weaker (Awake number) other = refl
      weaker (Asleep number) other = refl
      weaker (Together number) other = parked number (get nat_eq s.core.parked number) other

  -- a step that begins no exit, and tries and interrupts no call, is of none
  pub of_none : (x : Step A) → ((number : ℕ) (w : ParkedCall A numbers) → is_of_call x number w ≡ false) → (ws : List Waiting) → list_any (is_of_together s x) ws ≡ false
  of_none x none ws = none_either (λ w. false) (is_of_together s x) weaker ws (nothing ws)
    where
      parked : (number : ℕ) (o : Option (ParkedCall A numbers)) → is_of_parked s x number o ≡ false
      parked number None = refl
      parked number (Some w) = none number w

      weaker : (w : Waiting) → false ≡ false → is_of_together s x w ≡ false
      weaker Nothing h = refl
      weaker (Awake number) h = refl
      weaker (Asleep number) h = refl
      weaker (Together number) h = parked number (get nat_eq s.core.parked number)

      nothing : (ws : List Waiting) → list_any (λ (w : Waiting). false) ws ≡ false
      nothing [] = refl
      nothing (w ∷ ws) = nothing ws

  -- Who sleeps together sleeps on through a step that is of none of them.
  pub sleep_on : (x : Step A) (ws : List Waiting) → list_any (is_of_together s x) ws ≡ false → SleepAlike s ws → SleepAlike (step s x).state ws
  sleep_on x ws none alike = (alike.0, each ws none alike.1)
    where
      kept : List ℕ
      kept = alike.0

      one : (w : Waiting) → is_of_together s x w ≡ false → SleepsBy s kept w → SleepsBy (step s x).state kept w
      one Nothing other h = tt
      one (Awake call) other h = tt
      one (Asleep call) other h = tt
      one (Together call) other h = reads_on s x kept call h (λ w here. sym (ap (is_of_parked s x call) here) ∙ other)

      each : (xs : List Waiting) → list_any (is_of_together s x) xs ≡ false → All (SleepsBy s kept) xs → All (SleepsBy (step s x).state kept) xs
      each [] none all = All-nil (SleepsBy (step s x).state kept)
      each (w ∷ xs) none all =
          All-cons (SleepsBy (step s x).state kept) w xs
          (one w (left_none (is_of_together s x w) (list_any (is_of_together s x) xs) none) (All-head (SleepsBy s kept) w xs all))
          (each xs (right_none (is_of_together s x w) (list_any (is_of_together s x) xs) none) (All-tail (SleepsBy s kept) w xs all))

  -- a step that begins a call which ends no process
  pub of_no_exit : (pid : ℕ) (c : Call A) → is_exit c ≡ false → (ws : List Waiting) → list_any (is_of_together s (Begin pid c)) ws ≡ false
  of_no_exit pid c other ws = of_none (Begin pid c) (λ number w. ap (λ b. b && nat_eq w.pid pid) other) ws

  exits : (c : Call A) → is_exit c ≡ true → c ≡ Call.Exit
  exits Call.Exit h = refl
  exits other h = absurd (cc)

  pub of_exit : (pid : ℕ) (c : Call A) → is_exit c ≡ true → (ws : List Waiting) → list_any (is_of_together s (Begin pid c)) ws ≡ list_any (is_of_together s (Begin pid Call.Exit)) ws
  of_exit pid c is ws = ap (λ x. list_any (is_of_together s (Begin pid x)) ws) (exits c is)

-- So does who sleeps together through a step that is of none of them, and through one that is refused.
pub sleep_through : {A : Type 0} (limits : Limits) (k n : ℕ) (x : Step A) (ws : List Waiting) (old new : Kept A) (made : Result (Reply A) StepFault) (Q : Type 0)
    → IfOk made (λ reply. new.journal ≡ old.journal ++ entry k n x reply ∷ []) → OnErr made ((new ≡ old) × Q)
    → list_any (is_of_together (state_of_history limits old.journal) x) ws ≡ false → SleepAlike (state_of_history limits old.journal) ws → SleepAlike (state_of_history limits new.journal) ws
sleep_through limits k n x ws old new (Ok reply) Q pushed unmade none alike =
    subst (λ s. SleepAlike s ws) (sym (ap (state_of_history limits) pushed ∙ state-push limits old.journal (entry k n x reply))) (sleep_on (state_of_history limits old.journal) x ws none alike)
sleep_through limits k n x ws old new (Err fault) Q pushed unmade none alike = subst (λ (z : Kept _). SleepAlike (state_of_history limits z.journal) ws) (sym unmade.0) alike
