-- The places at which nothing stands, before and after a change, and the least of them.
use Rattle.std.proofs.Common.{◌≡◌, ◌≢◌, ℕ, zero, suc, ◌+◌, ◌<◌, ◌≤◌, Bool, true, false, List, [], ◌∷◌, ◌++◌, Option, Some, None, refl, sym, ◌∙◌, ap, subst, inl, inr, length, arith, ⊎_elim}
use Rattle.std.specs.Prelude.{if◌then◌else◌, ◌&&◌, max, nat_eq, nat_lt, is_none, is_some, slice_set, IfSome, IfNone}
use Rattle.std.specs.Option.{unwrap_or}
use Rattle.std.proofs.lemmas.List.{get_or-set_same, get_or-set_other, get_or_past, length-set}
use Rattle.std.proofs.lemmas.Bool.{lt-ltb, le-ltb, cases_lt}
use Rattle.std.proofs.lemmas.Bool.Decides.{eqb_tells, nat_tests}
use Rattle.pl_masks.specs.declared.masks.Masks.{Masks}
use Rattle.pl_masks.specs.Masks.{has, has_place, IsNext}
use Rattle.pl_desc.specs.Rows.{at}
use Rattle.pl_desc.specs.Vacant.{AreVacant}

-- what is none isn't some
pub isnt_none : {V : Type 0} (o : Option V) → is_none o ≡ false → is_some o ≡ true
isnt_none None h = absurd (cc)
isnt_none (Some x) h = refl

pub is_none_value : {V : Type 0} (o : Option V) → is_none o ≡ true → o ≡ None
is_none_value None h = refl
is_none_value (Some x) h = absurd (cc)

-- The place is the first at which nothing stands, or the one past the last.
pub record IsFirstPlace {V : Type 0} (list : List (Option V)) (place : ℕ) : Type 0 where
  pub within : place ≤ length list
  pub free : at list place ≡ None
  pub taken : (q : ℕ) → q < place → is_some (at list q) ≡ true

-- The place is the first from one on at which nothing stands, in the list or past it.
pub record IsFirstFree {V : Type 0} (list : List (Option V)) (from place : ℕ) : Type 0 where
  pub high : from ≤ place
  pub free : is_none (at list place) ≡ true
  pub taken : (k : ℕ) → from ≤ k → k < place → is_none (at list k) ≡ false

-- a place at which nothing stands comes last
pub at-push : {V : Type 0} (xs : List (Option V)) (k : ℕ) → at (xs ++ None ∷ []) k ≡ at xs k
at-push [] zero = refl
at-push [] (suc k) = refl
at-push (x ∷ xs) zero = refl
at-push (x ∷ xs) (suc k) = at-push xs k

max-left : (a b : ℕ) → a ≤ max a b
max-left a b = omega arith

max-right : (a b : ℕ) → b ≤ max a b
max-right a b = omega arith

max-least : (a b c : ℕ) → a ≤ c → b ≤ c → max a b ≤ c
max-least a b c l m = omega (arith, l, m)

module _ {A V : Type 0} (list : List (Option V)) (set : Masks A) (vacant : AreVacant list set) where
  -- the set's number is a place
  pub vacant_at : (place : ℕ) → has set place ≡ true → (place < length list) × (is_none (at list place) ≡ true)
  vacant_at place h = by (nat_lt place (length list)) refl (sym (vacant.told place) ∙ h)
    where
      by : (b : Bool) → nat_lt place (length list) ≡ b → (b && is_none (at list place)) ≡ true → (place < length list) × (is_none (at list place) ≡ true)
      by true e n = (grind (arith, e, nat_tests), n)
      by false e n = absurd (cc)

  pub taken_at : (place : ℕ) → place < length list → has set place ≡ false → is_none (at list place) ≡ false
  taken_at place l h = ap (λ b. b && is_none (at list place)) (sym (lt-ltb place (length list) l)) ∙ sym (vacant.told place) ∙ h

  -- one place is changed
  pub vacant-put : (place : ℕ) (o : Option V) (new : Masks A) → place < length list
      → ((n : ℕ) → has new n ≡ (if nat_eq n place then is_none o else has set n)) → ((n : ℕ) → has_place set n → has_place new n) → AreVacant (slice_set list place o) new
  vacant-put place o new l value places = record {
    told = told;
    places = λ n m. places n (vacant.places n (omega (arith, m, length-set list place o)));
  }
    where
      told : (n : ℕ) → has new n ≡ (nat_lt n (length (slice_set list place o)) && is_none (at (slice_set list place o) n))
      told n = elim (eqb_tells n place) as (λ _. has new n ≡ (nat_lt n (length (slice_set list place o)) && is_none (at (slice_set list place o) n))) [
        | inl e ↦
            value n ∙ ap (λ b. if b then is_none o else has set n) e.0
            ∙ sym (ap (λ b. b && is_none o) (lt-ltb n (length (slice_set list place o)) (omega (arith, l, length-set list place o, e.1))))
            ∙ ap (λ x. nat_lt n (length (slice_set list place o)) && is_none x) (sym (ap (at (slice_set list place o)) e.1 ∙ get_or-set_same list place o None l))
        | inr e ↦
            value n ∙ ap (λ b. if b then is_none o else has set n) e.0 ∙ vacant.told n
            ∙ ap (λ k. nat_lt n k && is_none (at list n)) (sym (length-set list place o))
            ∙ ap (λ x. nat_lt n (length (slice_set list place o)) && is_none x) (sym (get_or-set_other list place n o None e.1))
      ]

  -- a place that isn't vacant, nor becomes so, changes nothing of it
  pub vacant-kept : (place : ℕ) (o : Option V) → place < length list → is_none (at list place) ≡ false → is_none o ≡ false → AreVacant (slice_set list place o) set
  vacant-kept place o l was is = vacant-put place o set l value (λ n h. h)
    where
      value : (n : ℕ) → has set n ≡ (if nat_eq n place then is_none o else has set n)
      value n = elim (eqb_tells n place) as (λ _. has set n ≡ (if nat_eq n place then is_none o else has set n)) [
        | inl e ↦
            vacant.told n ∙ ap (λ b. b && is_none (at list n)) (lt-ltb n (length list) (omega (arith, l, e.1))) ∙ ap (λ k. is_none (at list k)) e.1 ∙ was
            ∙ sym is ∙ sym (ap (λ b. if b then is_none o else has set n) e.0)
        | inr e ↦ sym (ap (λ b. if b then is_none o else has set n) e.0)
      ]

  -- the first place from one on, or one past the last
  free_from : (from : ℕ) (o : Option ℕ) → IfSome o (IsNext set from) → IfNone o ((n : ℕ) → from ≤ n → has set n ≡ false) → IsFirstFree list from (unwrap_or o (max from (length list)))
  free_from from None some none = record {
    high = max-left from (length list);
    free = is_none_at (get_or_past list (max from (length list)) None (max-right from (length list)));
    taken = λ k low before. by k low before;
  }
    where
      is_none_at : {o : Option V} → o ≡ None → is_none o ≡ true
      is_none_at e = ap is_none e

      by : (k : ℕ) → from ≤ k → k < max from (length list) → is_none (at list k) ≡ false
      by k low before = ⊎_elim (λ l. taken_at k l (none k low)) (λ past. absurd (let m = max-least from (length list) k low past in omega (arith, m, before))) (cases_lt k (length list))
  free_from from (Some n) some none = let here = vacant_at n some.here in record {
    high = some.high;
    free = here.1;
    taken = λ k low before. taken_at k (omega (arith, here.0, before)) (some.none k low before);
  }

  pub free-from : (from : ℕ) (o : Option ℕ) → IfSome o (IsNext set from) → IfNone o ((n : ℕ) → from ≤ n → has set n ≡ false) → (past place : ℕ) → place ≡ unwrap_or o past → past ≡ max from (length list) → IsFirstFree list from place
  free-from from o some none past place is long = subst (IsFirstFree list from) (sym (is ∙ ap (unwrap_or o) long)) (free_from from o some none)

  -- the first place of all, or the one past the last
  vacant_place : (o : Option ℕ) → IfSome o (IsNext set 0) → IfNone o ((n : ℕ) → 0 ≤ n → has set n ≡ false) → IsFirstPlace list (unwrap_or o (length list))
  vacant_place None some none = record {
    within = omega arith;
    free = get_or_past list (length list) None (omega arith);
    taken = λ q l. isnt_none (at list q) (taken_at q l (none q (omega arith)));
  }
  vacant_place (Some n) some none = let here = vacant_at n some.here in record {
    within = omega (arith, here.0);
    free = is_none_value (at list n) here.1;
    taken = λ q l. isnt_none (at list q) (taken_at q (omega (arith, l, here.0)) (some.none q (omega arith) l));
  }

  pub vacant-place : (o : Option ℕ) → IfSome o (IsNext set 0) → IfNone o ((n : ℕ) → 0 ≤ n → has set n ≡ false) → (len place : ℕ) → place ≡ unwrap_or o len → len ≡ length list → IsFirstPlace list place
  vacant-place o some none len place is long = subst (IsFirstPlace list) (sym (is ∙ ap (unwrap_or o) long)) (vacant_place o some none)

  -- the same set is told by another
  pub vacant-same : (new : Masks A) → ((n : ℕ) → has new n ≡ has set n) → ((n : ℕ) → has_place set n → has_place new n) → AreVacant list new
  vacant-same new same places = record { told = λ n. same n ∙ vacant.told n; places = λ n l. places n (vacant.places n l) }

  -- the list gets a place
  pub vacant-more : (new : Masks A) → ((n : ℕ) → has new n ≡ (if nat_eq n (length list) then true else has set n)) → ((n : ℕ) → n < length list + 1 → has_place new n) → AreVacant (list ++ None ∷ []) new
  vacant-more new value places = record { told = told; places = λ n l. places n (omega (arith, l, length-push list)) }
    where
      length-push : (xs : List (Option V)) → length (xs ++ None ∷ []) ≡ length xs + 1
      length-push [] = refl
      length-push (x ∷ xs) = let e = length-push xs in (let r : length (x ∷ (xs ++ None ∷ [])) ≡ length (x ∷ xs) + 1 = omega (arith, e) in r)

      told : (n : ℕ) → has new n ≡ (nat_lt n (length (list ++ None ∷ [])) && is_none (at (list ++ None ∷ []) n))
      told n = elim (eqb_tells n (length list)) as (λ _. has new n ≡ (nat_lt n (length (list ++ None ∷ [])) && is_none (at (list ++ None ∷ []) n))) [
        | inl e ↦
            value n ∙ ap (λ b. if b then true else has set n) e.0
            ∙ sym (ap (λ b. b && true) (lt-ltb n (length (list ++ None ∷ [])) (omega (arith, e.1, length-push list))))
            ∙ ap (λ o. nat_lt n (length (list ++ None ∷ [])) && is_none o) (sym (at-push list n ∙ get_or_past list n None (omega (arith, e.1))))
        | inr e ↦
            value n ∙ ap (λ b. if b then true else has set n) e.0 ∙ vacant.told n
            ∙ (λ i. more n e.1 i && is_none (sym (at-push list n) i))
      ]
        where
          more : (n : ℕ) → n ≢ length list → nat_lt n (length list) ≡ nat_lt n (length (list ++ None ∷ []))
          more n other = ⊎_elim
              (λ l. lt-ltb n (length list) l ∙ sym (lt-ltb n (length (list ++ None ∷ [])) (omega (arith, l, length-push list))))
              (λ l. le-ltb n (length list) l ∙ sym (le-ltb n (length (list ++ None ∷ [])) (omega (arith, l, other, length-push list))))
              (cases_lt n (length list))

  -- the list loses its last place, at which nothing stands
  pub vacant-fewer : (less : List (Option V)) (new : Masks A) → length list ≡ length less + 1 → ((k : ℕ) → at less k ≡ at list k) → ((n : ℕ) → has new n ≡ (if nat_eq n (length less) then false else has set n)) → ((n : ℕ) → has_place set n → has_place new n) → AreVacant less new
  vacant-fewer less new len same value places = record { told = told; places = λ n l. places n (vacant.places n (omega (arith, l, len))) }
    where
      told : (n : ℕ) → has new n ≡ (nat_lt n (length less) && is_none (at less n))
      told n = elim (eqb_tells n (length less)) as (λ _. has new n ≡ (nat_lt n (length less) && is_none (at less n))) [
        | inl e ↦
            value n ∙ ap (λ b. if b then false else has set n) e.0
            ∙ sym (ap (λ b. b && is_none (at less n)) (le-ltb n (length less) (omega (arith, e.1))))
        | inr e ↦
            value n ∙ ap (λ b. if b then false else has set n) e.0 ∙ vacant.told n
            ∙ (λ i. fewer n e.1 i && is_none (sym (same n) i))
      ]
        where
          fewer : (n : ℕ) → n ≢ length less → nat_lt n (length list) ≡ nat_lt n (length less)
          fewer n other = ⊎_elim
              (λ l. lt-ltb n (length list) (omega (arith, l, len)) ∙ sym (lt-ltb n (length less) l))
              (λ l. le-ltb n (length list) (omega (arith, l, other, len)) ∙ sym (le-ltb n (length less) l))
              (cases_lt n (length less))
