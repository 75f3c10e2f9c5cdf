-- How many calls of a process wait, by the numbers in its row.
use Rattle.std.proofs.Common.{◌≡◌, ◌≢◌, ℕ, ◌+◌, ◌<◌, ◌≤◌, Bool, true, false, cond, [], ◌∷◌, Option, Some, None, refl, sym, ◌∙◌, ap, subst, inl, inr, nat_eq, length, arith}
use Rattle.std.specs.Prelude.{if◌then◌else◌, is_some, count_by}
use Rattle.std.proofs.lemmas.Bool.{eq-eqb, ne_eqb, false≢true}
use Rattle.std.proofs.lemmas.Bool.Decides.{eqb_tells}
use Rattle.std.proofs.lemmas.List.Sums.{sum_by-cons}
use Rattle.pl_model.specs.Map.{Map, get}
use Rattle.std.specs.Prelude.{slice_get, ◌^◌}
use Rattle.pl_numbered.specs.Rising.{Rise}
use Rattle.pl_numbered.specs.Numbered.{values}
use Rattle.pl_numbered.specs.declared.numbered.Numbered.{Numbered}
use Rattle.pl_numbered.proofs.EntryLemmas.{values-rise}
use Rattle.pl_parked.specs.declared.call.ParkedCall.{ParkedCall}
use Rattle.pl_parked.specs.declared.owners.Owners.{Owners}
use Rattle.pl_parked.specs.Owners.{owns, is_in_row, row_length, owned_count}
use Rattle.pl_parked.specs.Owned.{is_call_of}
use Rattle.pl_numbered.proofs.Rising.{get_high}

module _ {V : Type 0} where
  some_of : (o : Option V) → is_some o ≡ true → (x : V) × (o ≡ Some x)
  some_of None h = absurd (false≢true h)
  some_of (Some x) h = (x, refl)

  module _ (e : ℕ × V) (es : Map ℕ V) (n : ℕ) where
    first : e.0 ≡ n → get nat_eq (e ∷ es) n ≡ Some e.1
    first is = ap (λ b. if b then Some e.1 else get nat_eq es n) (eq-eqb e.0 n is)

    later : e.0 ≢ n → get nat_eq (e ∷ es) n ≡ get nat_eq es n
    later other = ap (λ b. if b then Some e.1 else get nat_eq es n) (ne_eqb e.0 n other)

  none_below : (low top : ℕ) (es : Map ℕ V) (n : ℕ) → Rise low top es → n < low → get nat_eq es n ≡ None
  none_below low top es n r l = by (get nat_eq es n) refl
    where
      by : (o : Option V) → get nat_eq es n ≡ o → o ≡ None
      by None is = refl
      by (Some v) is = absurd (let a = get_high low top es n v r is in omega (arith, a, l))

-- a value that passes a test
module _ {X : Type 0} (P : X → Bool) where
  abbrev passes : Option X → Bool
  passes None = false
  passes (Some x) = P x

  passing : (o : Option X) → passes o ≡ true → (x : X) × (o ≡ Some x)
  passing None h = absurd (false≢true h)
  passing (Some x) h = (x, refl)

-- The numbers of one rising map are those of another whose values pass the test.
module _ {X Y : Type 0} (P : X → Bool) where
  abbrev Same : Map ℕ X → Map ℕ Y → Type 0
  Same xs ys = (n : ℕ) → is_some (get nat_eq ys n) ≡ passes P (get nat_eq xs n)

  module _ (x : ℕ × X) (xs : Map ℕ X) (y : ℕ × Y) (ys : Map ℕ Y) (h : Same (x ∷ xs) (y ∷ ys)) where
    above : (next : ℕ) → Rise (x.0 + 1) next xs → x.0 ≤ y.0
    above next r =
        let p = passing P (get nat_eq (x ∷ xs) y.0) (sym (h y.0) ∙ ap is_some (first y ys y.0 refl)) in
        get_high x.0 next (x ∷ xs) y.0 p.0 (omega arith, r) p.1

    below : (top : ℕ) → Rise (y.0 + 1) top ys → P x.1 ≡ true → y.0 ≤ x.0
    below top r t =
        let s = some_of (get nat_eq (y ∷ ys) x.0) (h x.0 ∙ ap (passes P) (first x xs x.0 refl) ∙ t) in
        get_high y.0 top (y ∷ ys) x.0 s.0 (omega arith, r) s.1

  pub counted : (low next top : ℕ) (xs : Map ℕ X) (ys : Map ℕ Y) → Rise low next xs → Rise low top ys → Same xs ys → count_by (λ (e : ℕ × X). P e.1) xs ≡ length ys
  counted low next top [] [] r q h = refl
  counted low next top [] (y ∷ ys) r q h = absurd (false≢true (sym (h y.0) ∙ ap is_some (first y ys y.0 refl)))
  counted low next top (x ∷ xs) ys r q h = by (λ top ys. counted (x.0 + 1) next top xs ys r.1) (P x.1) refl ys q h
    where
      cons : count_by (λ (e : ℕ × X). P e.1) (x ∷ xs) ≡ cond (P x.1) 1 0 + count_by (λ (e : ℕ × X). P e.1) xs
      cons = sum_by-cons (λ (e : ℕ × X). cond (P e.1) 1 0) x xs

      -- the first entry doesn't pass
      without : P x.1 ≡ false → (ys : Map ℕ Y) → Same (x ∷ xs) ys → Same xs ys
      without f ys h n = elim (eqb_tells x.0 n) as (λ _. is_some (get nat_eq ys n) ≡ passes P (get nat_eq xs n)) [
        | inl e ↦ h n ∙ ap (passes P) (first x xs n e.1) ∙ f ∙ sym (ap (passes P) (none_below (x.0 + 1) next xs n r.1 (omega (arith, e.1))))
        | inr e ↦ h n ∙ ap (passes P) (later x xs n e.1)
      ]

      by : ((top : ℕ) (ys : Map ℕ Y) → Rise (x.0 + 1) top ys → Same xs ys → count_by (λ (e : ℕ × X). P e.1) xs ≡ length ys) → (b : Bool) → P x.1 ≡ b → (ys : Map ℕ Y) → Rise low top ys → Same (x ∷ xs) ys → count_by (λ (e : ℕ × X). P e.1) (x ∷ xs) ≡ length ys
      by tail true t [] q h = absurd (false≢true (h x.0 ∙ ap (passes P) (first x xs x.0 refl) ∙ t))
      by tail true t (y ∷ ys) q h =
          let same : y.0 ≡ x.0 = omega (arith, above x xs y ys h next r.1, below x xs y ys h top q.1 t) in
          let rise : Rise (x.0 + 1) top ys = subst (λ k. Rise (k + 1) top ys) same q.1 in
          let rest : Same xs ys = λ n. elim (eqb_tells x.0 n) as (λ _. is_some (get nat_eq ys n) ≡ passes P (get nat_eq xs n)) [
            | inl e ↦ ap is_some (none_below (x.0 + 1) top ys n rise (omega (arith, e.1))) ∙ sym (ap (passes P) (none_below (x.0 + 1) next xs n r.1 (omega (arith, e.1))))
            | inr e ↦ sym (ap is_some (later y ys n (λ is. e.1 (sym same ∙ is)))) ∙ h n ∙ ap (passes P) (later x xs n e.1)
          ] in
          let one : cond {A = ℕ} (P x.1) 1 0 ≡ 1 = ap (λ b. cond {A = ℕ} b 1 0) t in
          let all : length (y ∷ ys) ≡ 1 + length ys = omega arith in
          omega (arith, cons, one, tail top ys rise rest, all)
      by tail false f [] q h = cons ∙ (λ i. cond (f i) 1 0 + tail (x.0 + 1) [] (omega arith) (without f [] h) i)
      by tail false f (y ∷ ys) q h =
          let rest = tail top (y ∷ ys) (omega (arith, above x xs y ys h next r.1, apart), q.1) (without f (y ∷ ys) h) in
          let none : cond {A = ℕ} (P x.1) 1 0 ≡ 0 = ap (λ b. cond {A = ℕ} b 1 0) f in omega (arith, cons, none, rest)
        where
          apart : y.0 ≢ x.0
          apart e = false≢true (sym (h x.0 ∙ ap (passes P) (first x xs x.0 refl) ∙ f) ∙ ap is_some (first y ys x.0 e))

-- the calls of a process are as many as the numbers in its row
pub own-count : {A : Type 0} (pid next : ℕ) (calls : Map ℕ (ParkedCall A)) (o : Owners A) → Rise 0 next calls → ((n : ℕ) → owns o pid n ≡ is_call_of pid (get nat_eq calls n))
    → owned_count o pid ≡ count_by (λ (e : ℕ × ParkedCall A). nat_eq e.1.pid pid) calls
own-count {A} pid next calls o rise owned = by (slice_get o.rows.items pid) owned
  where
    is_own : ParkedCall A → Bool
    is_own call = nat_eq call.pid pid

    passes-is : (x : Option (ParkedCall A)) → is_call_of pid x ≡ passes is_own x
    passes-is None = refl
    passes-is (Some call) = refl

    by : (row : Option (Numbered (Unit {0}) A)) → ((n : ℕ) → is_in_row row n ≡ is_call_of pid (get nat_eq calls n)) → row_length row ≡ count_by (λ (e : ℕ × ParkedCall A). is_own e.1) calls
    by None h = sym (counted {Y = Unit {0}} is_own 0 next 0 calls [] rise (omega arith) (λ n. h n ∙ passes-is (get nat_eq calls n)))
    by (Some row) h = sym (counted is_own 0 next (2 ^ 64) calls (values row) rise (values-rise 0 (2 ^ 64) row.entries.items row.kept.rise) (λ n. h n ∙ passes-is (get nat_eq calls n)))
