-- Once the first is woken that is to be, nobody sleeps in vain.
use Rattle.std.proofs.Common.{◌≡◌, ℕ, zero, suc, ◌<◌, Bool, true, false, List, [], ◌∷◌, length, get_or, Option, None, Some, refl, sym, ap, ◌∙◌, subst, arith, inl, inr}
use Rattle.std.specs.Prelude.{◌⊎◌, IfSome, slice_set, if◌then◌else◌}
use Rattle.std.specs.List.{list_any, position}
use Rattle.std.proofs.lemmas.Bool.{eqb-true, or_left, or_right}
use Rattle.std.proofs.lemmas.List.{length-set, set-get_or}
use Rattle.std.proofs.lemmas.List.Quantifiers.{position-Some}
use Rattle.pl_locked.specs.declared.waiting.Waiting.{Waiting}
use Rattle.pl_locked.specs.declared.waiting.Waiting.TheVariants.{Nothing, Awake, Asleep, Together}
use Rattle.pl_model.specs.Numbered.{State}
use Rattle.pl_locked.specs.Waking.{awake, is_awake_for, sleeps_for, is_helped_awake, is_helped_asleep, to_wake, woken, AreServed, Noted, Notes, SleepAlike}
use Rattle.pl_locked.proofs.Sleeping.{woken_alike}

-- what is put into a list is found in it
any_set : (p : Waiting → Bool) (ws : List Waiting) (k : ℕ) (w : Waiting) → k < length ws → p w ≡ true → list_any p (slice_set ws k w) ≡ true
any_set p [] k w lt is = absurd (omega (arith, lt))
any_set p (v ∷ ws) zero w lt is = or_left (p w) (list_any p ws) is
any_set p (v ∷ ws) (suc k) w lt is = or_right (p v) (list_any p (slice_set ws k w)) (any_set p ws k w (omega (arith, lt)) is)

pub woken_length : (whom : Option ℕ) (ws : List Waiting) → length (woken whom ws) ≡ length ws
woken_length None ws = refl
woken_length (Some k) ws = length-set ws k (awake (get_or ws k Nothing))

pub is_awake : (call : ℕ) (w : Waiting) → is_awake_for call w ≡ true → w ≡ Awake call
is_awake call Nothing h = absurd (cc)
is_awake call (Asleep other) h = absurd (cc)
is_awake call (Together other) h = absurd (cc)
is_awake call (Awake other) h = ap Awake (sym (eqb-true call other h))

pub is_asleep : (call : ℕ) (w : Waiting) → sleeps_for call w ≡ true → (w ≡ Asleep call) ⊎ (w ≡ Together call)
is_asleep call Nothing h = absurd (cc)
is_asleep call (Awake other) h = absurd (cc)
is_asleep call (Asleep other) h = inl (ap Asleep (sym (eqb-true call other h)))
is_asleep call (Together other) h = inr (ap Together (sym (eqb-true call other h)))

module _ (can : ℕ → Bool) where
  -- the call of one that sleeps can end, so that of one that is awake can
  helped : (w : Waiting) → is_helped_asleep can w ≡ true → is_helped_awake can (awake w) ≡ true
  helped Nothing h = absurd (cc)
  helped (Awake call) h = absurd (cc)
  helped (Asleep call) h = h
  helped (Together call) h = h

  one_awake : (ws : List Waiting) → list_any (is_helped_awake can) ws ≡ true → AreServed can ws
  one_awake ws one = ap (λ b. if b then None else position (is_helped_asleep can) ws) one

  wakes : (ws : List Waiting) (k : ℕ) → position (is_helped_asleep can) ws ≡ Some k → AreServed can (woken (Some k) ws)
  wakes ws k found =
      let at = position-Some (is_helped_asleep can) ws k Nothing found in
      let now : Waiting = awake (get_or ws k Nothing) in
      one_awake (slice_set ws k now) (any_set (is_helped_awake can) ws k now at.0 (helped (get_or ws k Nothing) at.1))

  -- whoever is woken looks itself
  pub served : (ws : List Waiting) → AreServed can (woken (to_wake can ws) ws)
  served ws = by (list_any (is_helped_awake can) ws) refl
    where
      same : to_wake can ws ≡ None → AreServed can (woken (to_wake can ws) ws)
      same none = subst (λ whom. AreServed can (woken whom ws)) (sym none) none

      by : (b : Bool) → list_any (is_helped_awake can) ws ≡ b → AreServed can (woken (to_wake can ws) ws)
      by true one = same (one_awake ws one)
      by false none = place (position (is_helped_asleep can) ws) refl
        where
          first : to_wake can ws ≡ position (is_helped_asleep can) ws
          first = ap (λ b. if b then None else position (is_helped_asleep can) ws) none

          place : (whom : Option ℕ) → position (is_helped_asleep can) ws ≡ whom → AreServed can (woken (to_wake can ws) ws)
          place None nobody = same (first ∙ nobody)
          place (Some k) found = subst (λ whom. AreServed can (woken whom ws)) (sym (first ∙ found)) (wakes ws k found)

  pub wakes_first : (whom : Option ℕ) (ws : List Waiting) → whom ≡ to_wake can ws → AreServed can (woken whom ws)
  wakes_first whom ws first = subst (λ w. AreServed can (woken w ws)) (sym first) (served ws)

  -- a note that stands already wakes nobody
  pub noted_already : (callers caller : ℕ) (note : Waiting) (ws : List Waiting) → get_or ws caller Nothing ≡ note → AreServed can ws → Noted callers can caller note ws ws None
  noted_already callers caller note ws is served =
      let same : slice_set ws caller note ≡ ws = subst (λ w. slice_set ws caller w ≡ ws) is (set-get_or ws caller Nothing) in record {
        first = sym (subst (AreServed can) (sym same) served);
        notes = sym same;
        within = tt;
      }

  -- a note was changed, and the first was woken
  pub noted_now : (callers caller : ℕ) (note : Waiting) (ws mid : List Waiting) (alike : Bool) (whom : Option ℕ) (new : Notes)
      → mid ≡ slice_set ws caller note → length mid ≡ callers → whom ≡ to_wake can mid → new ≡ record { waiting = woken whom mid; alike = alike } → IfSome whom (λ k. k < length mid)
      → Noted callers can caller note ws new.waiting whom
  noted_now callers caller note ws mid alike whom new is many first made within = record {
    first = first ∙ ap (to_wake can) is;
    notes = ap (λ (z : Notes). z.waiting) made ∙ ap (woken whom) is;
    within = subst (λ n. IfSome whom (λ k. k < n)) many within;
  }

-- So what lies under the lock is in order once the first is woken that is to be.
pub settled : {A : Type 0} (s : State A) (can : ℕ → Bool) (callers : ℕ) (ws : List Waiting) (alike : Bool) (whom : Option ℕ) (new : Notes)
    → whom ≡ to_wake can ws → new ≡ record { waiting = woken whom ws; alike = alike } → length ws ≡ callers → (alike ≡ true → SleepAlike s ws)
    → (length new.waiting ≡ callers) × (new.alike ≡ true → SleepAlike s new.waiting) × AreServed can new.waiting
settled s can callers ws alike whom new first made many together = subst
    (λ (z : Notes). (length z.waiting ≡ callers) × (z.alike ≡ true → SleepAlike s z.waiting) × AreServed can z.waiting) (sym made)
    (woken_length whom ws ∙ many, λ is. woken_alike s whom ws (together is), wakes_first can whom ws first)
