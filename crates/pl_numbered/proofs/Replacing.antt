-- What a map has once a number is added, taken out or changed, and a set that lists what stands at the numbers.
use Rattle.std.proofs.Common.{◌≡◌, ◌≢◌, ℕ, ◌+◌, ◌≤◌, Bool, true, false, not, [], ◌∷◌, ◌++◌, Option, Some, None, refl, sym, ◌∙◌, ap, inl, inr, nat_eq, arith}
use Rattle.std.specs.Prelude.{◌&&◌, ◌||◌}
use Rattle.std.proofs.lemmas.Bool.{and_right}
use Rattle.std.proofs.lemmas.Bool.Decides.{eqb_tells}
use Rattle.pl_model.specs.Map.{Map, get, put, without}
use Rattle.pl_numbered.specs.Rising.{Rise}
use Rattle.pl_numbered.proofs.Rising.{Rise-push, get_first, get_later, get-last, put_first, put_later, without_first, without_later}

module _ {X : Type 0} (n : ℕ) where
  -- what a map has at a number once a number is added, taken out or changed
  get-push : (low : ℕ) (es : Map ℕ X) (x : X) → Rise low n es → get nat_eq (es ++ (n, x) ∷ []) n ≡ Some x
  get-push low es x r = get-last low (n + 1) es (n, x) (Rise-push low n es x r)

  get-push-other : (m : ℕ) (es : Map ℕ X) (x : X) → n ≢ m → get nat_eq (es ++ (n, x) ∷ []) m ≡ get nat_eq es m
  get-push-other m [] x other = get_later m (n, x) [] other
  get-push-other m (e ∷ es) x other = elim (eqb_tells e.0 m) as (λ _. get nat_eq (e ∷ es ++ (n, x) ∷ []) m ≡ get nat_eq (e ∷ es) m) [
    | inl t ↦ get_first m e (es ++ (n, x) ∷ []) t.1 ∙ sym (get_first m e es t.1)
    | inr t ↦ get_later m e (es ++ (n, x) ∷ []) t.1 ∙ get-push-other m es x other ∙ sym (get_later m e es t.1)
  ]

  get-next : (low : ℕ) (es : Map ℕ X) → Rise low n es → get nat_eq es n ≡ None
  get-next low [] r = refl
  get-next low (e ∷ es) r = get_later n e es (let b = bound (e.0 + 1) es r.1 in omega arith) ∙ get-next (e.0 + 1) es r.1
    where
      bound : (low : ℕ) (es : Map ℕ X) → Rise low n es → low ≤ n
      bound low [] r = r
      bound low (e ∷ es) r = let b = bound (e.0 + 1) es r.1 in omega (arith, r.0)

  pub get-without : (es : Map ℕ X) → get nat_eq (without nat_eq es n) n ≡ None
  get-without [] = refl
  get-without (e ∷ es) = elim (eqb_tells e.0 n) as (λ _. get nat_eq (without nat_eq (e ∷ es) n) n ≡ None) [
    | inl t ↦ ap (λ z. get nat_eq z n) (without_first n e es t.1) ∙ get-without es
    | inr t ↦ ap (λ z. get nat_eq z n) (without_later n e es t.1) ∙ get_later n e (without nat_eq es n) t.1 ∙ get-without es
  ]

  pub get-without-other : (m : ℕ) (es : Map ℕ X) → n ≢ m → get nat_eq (without nat_eq es n) m ≡ get nat_eq es m
  get-without-other m [] other = refl
  get-without-other m (e ∷ es) other = elim (eqb_tells e.0 n) as (λ _. get nat_eq (without nat_eq (e ∷ es) n) m ≡ get nat_eq (e ∷ es) m) [
    | inl t ↦ ap (λ z. get nat_eq z m) (without_first n e es t.1) ∙ get-without-other m es other ∙ sym (get_later m e es (let is = t.1 in λ same. other (sym is ∙ same)))
    | inr t ↦ ap (λ z. get nat_eq z m) (without_later n e es t.1) ∙ elim (eqb_tells e.0 m) as (λ _. get nat_eq (e ∷ without nat_eq es n) m ≡ get nat_eq (e ∷ es) m) [
      | inl s ↦ get_first m e (without nat_eq es n) s.1 ∙ sym (get_first m e es s.1)
      | inr s ↦ get_later m e (without nat_eq es n) s.1 ∙ get-without-other m es other ∙ sym (get_later m e es s.1)
    ]
  ]

  get-put : (es : Map ℕ X) (x : X) → get nat_eq (put nat_eq es n x) n ≡ Some x
  get-put [] x = get_first n (n, x) [] refl
  get-put (e ∷ es) x = elim (eqb_tells e.0 n) as (λ _. get nat_eq (put nat_eq (e ∷ es) n x) n ≡ Some x) [
    | inl t ↦ ap (λ z. get nat_eq z n) (put_first n e es x t.1) ∙ get_first n (n, x) es refl
    | inr t ↦ ap (λ z. get nat_eq z n) (put_later n e es x t.1) ∙ get_later n e (put nat_eq es n x) t.1 ∙ get-put es x
  ]

  get-put-other : (m : ℕ) (es : Map ℕ X) (x : X) → n ≢ m → get nat_eq (put nat_eq es n x) m ≡ get nat_eq es m
  get-put-other m [] x other = get_later m (n, x) [] other
  get-put-other m (e ∷ es) x other = elim (eqb_tells e.0 n) as (λ _. get nat_eq (put nat_eq (e ∷ es) n x) m ≡ get nat_eq (e ∷ es) m) [
    | inl t ↦ ap (λ z. get nat_eq z m) (put_first n e es x t.1) ∙ get_later m (n, x) es other ∙ sym (get_later m e es (let is = t.1 in λ same. other (sym is ∙ same)))
    | inr t ↦ ap (λ z. get nat_eq z m) (put_later n e es x t.1) ∙ elim (eqb_tells e.0 m) as (λ _. get nat_eq (e ∷ put nat_eq es n x) m ≡ get nat_eq (e ∷ es) m) [
      | inl s ↦ get_first m e (put nat_eq es n x) s.1 ∙ sym (get_first m e es s.1)
      | inr s ↦ get_later m e (put nat_eq es n x) s.1 ∙ get-put-other m es x other ∙ sym (get_later m e es s.1)
    ]
  ]

-- at one number there is another thing, or none, and all else is as before
pub record Replaces {X : Type 0} (n : ℕ) (before after : Map ℕ X) (was now : Option X) : Type 0 where
  pub had : get nat_eq before n ≡ was
  pub has : get nat_eq after n ≡ now
  pub others : (m : ℕ) → n ≢ m → get nat_eq after m ≡ get nat_eq before m

module _ {X : Type 0} (n : ℕ) (es : Map ℕ X) (x : X) where
  pub replaces-push : Rise 0 n es → Replaces n es (es ++ (n, x) ∷ []) None (Some x)
  replaces-push r = record { had = get-next n 0 es r; has = get-push n 0 es x r; others = λ m other. get-push-other n m es x other }

  pub replaces-pop : Rise 0 n es → Replaces n (es ++ (n, x) ∷ []) es (Some x) None
  replaces-pop r = record { had = get-push n 0 es x r; has = get-next n 0 es r; others = λ m other. sym (get-push-other n m es x other) }

  pub replaces-without : get nat_eq es n ≡ Some x → Replaces n es (without nat_eq es n) (Some x) None
  replaces-without h = record { had = h; has = get-without n es; others = λ m other. get-without-other n m es other }

  pub replaces-put : (y : X) → get nat_eq es n ≡ Some x → Replaces n es (put nat_eq es n y) (Some x) (Some y)
  replaces-put y h = record { had = h; has = get-put n es y; others = λ m other. get-put-other n m es y other }

pub and-true : (b : Bool) → (b && true) ≡ b
and-true true = refl
and-true false = refl

or-false : (b : Bool) → (b || false) ≡ b
or-false true = refl
or-false false = refl

not-both : (b : Bool) → (not b && b) ≡ false
not-both true = refl
not-both false = refl

-- a set shows of each key whether it lists what stands at the key's number
module _ {X K : Type 0} (number : K → ℕ) (shown : K → Option X → Bool) (n : ℕ) (before after : Map ℕ X) (was now : Option X) (r : Replaces n before after was now)
    (has : K → Bool) (lists : (key : K) → has key ≡ shown key (get nat_eq before (number key))) where
  elsewhere : (key : K) → n ≢ number key → has key ≡ shown key (get nat_eq after (number key))
  elsewhere key other = lists key ∙ ap (shown key) (sym (r.others (number key) other))

  here : (key : K) → n ≡ number key → has key ≡ shown key was
  here key same = lists key ∙ ap (λ m. shown key (get nat_eq before m)) (sym same) ∙ ap (shown key) r.had

  there : (key : K) → n ≡ number key → shown key now ≡ shown key (get nat_eq after (number key))
  there key same = ap (shown key) (sym r.has) ∙ ap (λ m. shown key (get nat_eq after m)) same

  -- it lists as before
  pub lists-same : ((key : K) → shown key was ≡ shown key now) → (key : K) → has key ≡ shown key (get nat_eq after (number key))
  lists-same same key = elim (eqb_tells n (number key)) as (λ _. has key ≡ shown key (get nat_eq after (number key))) [
    | inl t ↦ here key t.1 ∙ same key ∙ there key t.1
    | inr t ↦ elsewhere key t.1
  ]

  module _ (named new : K → Bool) where
    -- it lists one more
    pub lists-more : ((key : K) → named key ≡ (shown key now && nat_eq n (number key))) → ((key : K) → shown key was ≡ false) → ((key : K) → new key ≡ (named key || has key))
        → (key : K) → new key ≡ shown key (get nat_eq after (number key))
    lists-more own none is key = elim (eqb_tells n (number key)) as (λ _. new key ≡ shown key (get nat_eq after (number key))) [
      | inl t ↦
          let its : named key ≡ shown key now = own key ∙ ap (λ b. shown key now && b) t.0 ∙ and-true (shown key now) in
          let absent : has key ≡ false = here key t.1 ∙ none key in
          is key ∙ (λ i. its i || absent i) ∙ or-false (shown key now) ∙ there key t.1
      | inr t ↦ is key ∙ ap (λ b. b || has key) (own key ∙ and_right (shown key now) (nat_eq n (number key)) t.0) ∙ elsewhere key t.1
    ]

    -- it lists one less
    pub lists-fewer : ((key : K) → named key ≡ (shown key was && nat_eq n (number key))) → ((key : K) → shown key now ≡ false) → ((key : K) → new key ≡ (not (named key) && has key))
        → (key : K) → new key ≡ shown key (get nat_eq after (number key))
    lists-fewer own none is key = elim (eqb_tells n (number key)) as (λ _. new key ≡ shown key (get nat_eq after (number key))) [
      | inl t ↦
          let its : named key ≡ shown key was = own key ∙ ap (λ b. shown key was && b) t.0 ∙ and-true (shown key was) in
          is key ∙ (λ i. not (its i) && here key t.1 i) ∙ not-both (shown key was) ∙ sym (none key) ∙ there key t.1
      | inr t ↦ is key ∙ ap (λ b. not b && has key) (own key ∙ and_right (shown key was) (nat_eq n (number key)) t.0) ∙ elsewhere key t.1
    ]
