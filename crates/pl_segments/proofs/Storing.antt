-- The slots of the store's slab and its spare keys, before and after a change at one key.
use Rattle.std.proofs.Common.{◌≡◌, ◌≢◌, ℕ, zero, suc, ◌+◌, ◌<◌, ◌≤◌, Bool, true, false, cond, List, [], ◌∷◌, ◌++◌, Option, Some, None, refl, sym, ◌∙◌, ap, subst, inl, inr, nat_eq, length, arith}
use Rattle.std.specs.Prelude.{if◌then◌else◌, is_some, IsSome, slice_set, count_by}
use Rattle.std.proofs.Math.Path.{fun_ext}
use Rattle.std.proofs.lemmas.List.{get_or-set_same, get_or-set_other, length_push}
use Rattle.std.proofs.lemmas.List.Sums.{sum_by-cons, sum_by_push}
use Rattle.std.proofs.lemmas.Option.{same_Some}
use Rattle.std.proofs.lemmas.Bool.{eq-eqb, ne_eqb}
use Rattle.std.proofs.lemmas.Bool.Decides.{eqb_tells}
use Rattle.pl_segments.specs.StoreView.{unless_spare, spare_in, put_before, held_of, IsSmall, AreSound}
use Rattle.pl_segments.specs.Segments.{segment_size, Segment, Map, at, set_at, live_count, holders_in, IsGood, AreGood}

-- how many segments are held, as the slab counts them
pub live-is : (slots : List (Option Segment)) → live_count slots ≡ count_by is_some slots
unfolding live_count
live-is slots = refl

-- 1 of a segment, 0 of none
abbrev pub one : Option Segment → ℕ
one o = if is_some o then 1 else 0

count-cons : (o : Option Segment) (slots : List (Option Segment)) → live_count (o ∷ slots) ≡ one o + live_count slots
unfolding live_count
count-cons o slots = sum_by-cons (λ (o : Option Segment). cond (is_some o) 1 0) o slots

count-nil : live_count [] ≡ 0
unfolding live_count
count-nil = refl

-- a map that has this at a key and agrees elsewhere
pub is_set_at : (m n : Map) (k : ℕ) (v : Option Segment) → n k ≡ v → ((q : ℕ) → q ≢ k → n q ≡ m q) → n ≡ set_at m k v
is_set_at m n k v here there = fun_ext at_q
  where
    at_q : (q : ℕ) → n q ≡ (if nat_eq k q then v else m q)
    at_q q = elim (eqb_tells k q) as (λ _. n q ≡ (if nat_eq k q then v else m q)) [
      | inl e ↦ ap n (sym e.1) ∙ here ∙ ap (λ b. if b then v else m q) (sym e.0)
      | inr e ↦ there q (λ h. e.1 (sym h)) ∙ ap (λ b. if b then v else m q) (sym e.0)
    ]

-- what is held, at a key
at-before : (o : Option Segment) (rest : List (Option Segment)) (q : ℕ) → at (put_before o rest) q ≡ at (o ∷ rest) q
at-before None [] zero = refl
at-before None [] (suc q) = refl
at-before None (p ∷ rest) q = refl
at-before (Some s) rest q = refl

pub held-at : (slots : List (Option Segment)) (q : ℕ) → at (held_of slots) q ≡ unless_spare (at slots q)
held-at [] q = refl
held-at (o ∷ slots) zero = at-before (unless_spare o) (held_of slots) zero
held-at (o ∷ slots) (suc q) = at-before (unless_spare o) (held_of slots) (suc q) ∙ held-at slots q

-- what is held is told by what is held at each key
held-none : (slots : List (Option Segment)) → ((q : ℕ) → unless_spare (at slots q) ≡ None) → held_of slots ≡ []
held-none [] e = refl
held-none (o ∷ slots) e = (λ i. put_before (e 0 i) (held-none slots (λ q. e (suc q)) i))

pub held-same : (a b : List (Option Segment)) → ((q : ℕ) → unless_spare (at a q) ≡ unless_spare (at b q)) → held_of a ≡ held_of b
held-same [] b e = sym (held-none b (λ q. sym (e q)))
held-same (o ∷ a) [] e = held-none (o ∷ a) e
held-same (o ∷ a) (p ∷ b) e = (λ i. put_before (e 0 i) (held-same a b (λ q. e (suc q)) i))

-- how many there are after a change at one key
count-none : (b : List (Option Segment)) → ((q : ℕ) → at b q ≡ None) → live_count b ≡ 0
count-none [] e = count-nil
count-none (p ∷ b) e = count-cons p b ∙ (λ i. one (e 0 i) + count-none b (λ q. e (suc q)) i)

count-first : (b : List (Option Segment)) (key : ℕ) → ((q : ℕ) → q ≢ key → at b q ≡ None) → live_count b ≡ one (at b key)
count-first [] key e = count-nil
count-first (p ∷ b) zero e = count-cons p b ∙ ap (λ n. one p + n) (count-none b (λ q. e (suc q) (λ h. absurd (cc)))) ∙ omega arith
count-first (p ∷ b) (suc key) e = count-cons p b ∙ (λ i. one (e 0 (λ h. absurd (cc)) i) + count-first b key (λ q n. e (suc q) (λ h. n (omega (arith, h)))) i) ∙ omega arith

count-same : (a b : List (Option Segment)) → ((q : ℕ) → at b q ≡ at a q) → live_count b ≡ live_count a
count-same [] b e = count-none b e ∙ sym count-nil
count-same (o ∷ a) [] e = count-nil ∙ sym (count-none (o ∷ a) (λ q. sym (e q)))
count-same (o ∷ a) (p ∷ b) e = count-cons p b ∙ (λ i. one (e 0 i) + count-same a b (λ q. e (suc q)) i) ∙ sym (count-cons o a)

pub count-change : (a b : List (Option Segment)) (key : ℕ) → ((q : ℕ) → q ≢ key → at b q ≡ at a q) → live_count b + one (at a key) ≡ live_count a + one (at b key)
count-change [] b key e = let c = count-first b key e in let z = count-nil in omega (arith, c, z)
count-change (o ∷ a) [] key e = let c = count-first (o ∷ a) key (λ q n. sym (e q n)) in let z = count-nil in omega (arith, c, z)
count-change (o ∷ a) (p ∷ b) zero e =
    let s = count-same a b (λ q. e (suc q) (λ h. absurd (cc))) in
    let x = count-cons p b in
    let y = count-cons o a in
    omega (arith, s, x, y)
count-change (o ∷ a) (p ∷ b) (suc key) e =
    let c = count-change a b key (λ q n. e (suc q) (λ h. n (omega (arith, h)))) in
    let x = count-cons p b in
    let y = count-cons o a in
    let z : one p ≡ one o = ap one (e 0 (λ h. absurd (cc))) in
    omega (arith, c, x, y, z)

-- a segment is held or spare
split : (o : Option Segment) → one o ≡ one (unless_spare o) + spare_in o
split None = refl
split (Some s) = by (nat_eq s.holders 0)
  where
    by : (b : Bool) → 1 ≡ one (if b then None else Some s) + (if b then 1 else 0)
    by true = refl
    by false = refl

pub held-is : (s : Segment) → 1 ≤ s.holders → unless_spare (Some s) ≡ Some s
held-is s h = ap (λ b. if b then None else Some s) (ne_eqb s.holders 0 (λ e. absurd (omega (arith, e, h))))

pub held-no-spare : (s : Segment) → 1 ≤ s.holders → spare_in (Some s) ≡ 0
held-no-spare s h = ap (λ b. if b then 1 else 0) (ne_eqb s.holders 0 (λ e. absurd (omega (arith, e, h))))

pub spare-unseen : (s : Segment) → s.holders ≡ 0 → unless_spare (Some s) ≡ None
spare-unseen s e = ap (λ b. if b then None else Some s) (eq-eqb s.holders 0 e)

pub spare-counted : (s : Segment) → s.holders ≡ 0 → spare_in (Some s) ≡ 1
spare-counted s e = ap (λ b. if b then 1 else 0) (eq-eqb s.holders 0 e)

-- what is held is good
pub held-good : (slots : List (Option Segment)) → ((key : ℕ) → IsSmall (at slots key)) → AreGood (held_of slots)
held-good slots small = record { good = λ q. subst IsGood (sym (held-at slots q)) (of (at slots q) (small q)) }
  where
    of : (o : Option Segment) → IsSmall o → IsGood (unless_spare o)
    of None l = tt
    of (Some s) l = elim (eqb_tells s.holders 0) as (λ _. IsGood (unless_spare (Some s))) [
      | inl e ↦ subst IsGood (sym (spare-unseen s e.1)) tt
      | inr e ↦ let h : 1 ≤ s.holders = omega (arith, e.1) in subst IsGood (sym (held-is s h)) (h, l)
    ]

-- a segment that is held is there
pub there : (slots : List (Option Segment)) (key : ℕ) → 1 ≤ holders_in (at (held_of slots) key) → (s : Segment) × ((at slots key ≡ Some s) × (1 ≤ s.holders))
there slots key h = of (at slots key) refl (subst (λ o. 1 ≤ holders_in o) (held-at slots key) h)
  where
    of : (o : Option Segment) → at slots key ≡ o → 1 ≤ holders_in (unless_spare o) → (s : Segment) × ((at slots key ≡ Some s) × (1 ≤ s.holders))
    of None e h = absurd (omega (arith, h))
    of (Some s) e h = elim (eqb_tells s.holders 0) as (λ _. (s : Segment) × ((at slots key ≡ Some s) × (1 ≤ s.holders))) [
      | inl z ↦ let n : holders_in (unless_spare (Some s)) ≡ 0 = ap holders_in (spare-unseen s z.1) in absurd (omega (arith, h, n))
      | inr z ↦ (s, (e, omega (arith, z.1)))
    ]

-- what the list after a push of a key counts
pushed-other : (spare : List ℕ) (key q : ℕ) → q ≢ key → count_by (nat_eq q) (spare ++ key ∷ []) ≡ count_by (nat_eq q) spare
pushed-other spare key q n = sum_by_push (λ k. cond (nat_eq q k) 1 0) spare key ∙ ap (λ b. count_by (nat_eq q) spare + cond b 1 0) (ne_eqb q key n) ∙ omega arith

pushed-here : (spare : List ℕ) (key : ℕ) → count_by (nat_eq key) (spare ++ key ∷ []) ≡ count_by (nat_eq key) spare + 1
pushed-here spare key = sum_by_push (λ k. cond (nat_eq key k) 1 0) spare key ∙ ap (λ b. count_by (nat_eq key) spare + cond b 1 0) (eq-eqb key key refl)

-- a change at one key
module _ (slots after : List (Option Segment)) (key : ℕ) (others : (q : ℕ) → q ≢ key → at after q ≡ at slots q) where
  pub change-held : at (held_of after) ≡ set_at (at (held_of slots)) key (unless_spare (at after key))
  change-held = is_set_at (at (held_of slots)) (at (held_of after)) key (unless_spare (at after key)) (held-at after key)
      (λ q n. held-at after q ∙ ap unless_spare (others q n) ∙ sym (held-at slots q))

  pub change-live : live_count (held_of after) + one (unless_spare (at slots key)) ≡ live_count (held_of slots) + one (unless_spare (at after key))
  change-live =
      ap (λ o. live_count (held_of after) + one o) (sym (held-at slots key))
      ∙ count-change (held_of slots) (held_of after) key (λ q n. held-at after q ∙ ap unless_spare (others q n) ∙ sym (held-at slots q))
      ∙ ap (λ o. live_count (held_of slots) + one o) (held-at after key)

  module _ (spare left : List ℕ) (was : AreSound slots spare) (kept : (q : ℕ) → q ≢ key → count_by (nat_eq q) left ≡ count_by (nat_eq q) spare)
      (here : count_by (nat_eq key) left ≡ spare_in (at after key)) (small : IsSmall (at after key))
      (long : length left + spare_in (at slots key) ≡ length spare + spare_in (at after key)) where
    change-sound : AreSound after left
    change-sound =
        let c = count-change slots after key others in
        let l = change-live in
        let a = split (at slots key) in
        let b = split (at after key) in
        record {
          small = λ q. elim (eqb_tells q key) as (λ _. IsSmall (at after q)) [
            | inl e ↦ subst (λ z. IsSmall (at after z)) (sym e.1) small
            | inr e ↦ subst IsSmall (sym (others q e.1)) (was.small q)
          ];
          spare = λ q. elim (eqb_tells q key) as (λ _. count_by (nat_eq q) left ≡ spare_in (at after q)) [
            | inl e ↦ subst (λ z. count_by (nat_eq z) left ≡ spare_in (at after z)) (sym e.1) here
            | inr e ↦ kept q e.1 ∙ was.spare q ∙ ap spare_in (sym (others q e.1))
          ];
          counted = omega (arith, c, l, a, b, long, was.counted);
        }

  -- the spare keys stay: neither was what stood there spare, nor is what stands there now
  pub steady-sound : (spare : List ℕ) → AreSound slots spare → spare_in (at slots key) ≡ 0 → spare_in (at after key) ≡ 0 → IsSmall (at after key) → AreSound after spare
  steady-sound spare was before now small = change-sound spare spare was (λ q n. refl) (was.spare key ∙ before ∙ sym now) small (omega (arith, before, now))

  -- a spare key more
  pub given-sound : (spare : List ℕ) → AreSound slots spare → spare_in (at slots key) ≡ 0 → spare_in (at after key) ≡ 1 → IsSmall (at after key) → AreSound after (spare ++ key ∷ [])
  given-sound spare was before now small =
      let h : count_by (nat_eq key) (spare ++ key ∷ []) ≡ spare_in (at after key) = pushed-here spare key ∙ ap (λ n. n + 1) (was.spare key ∙ before) ∙ sym now in
      let l = length_push spare key in
      change-sound spare (spare ++ key ∷ []) was (pushed-other spare key) h small (omega (arith, l, before, now))

  -- a spare key less
  pub taken-sound : (spare left : List ℕ) → spare ≡ left ++ key ∷ [] → AreSound slots spare → spare_in (at after key) ≡ 0 → IsSmall (at after key) → AreSound after left
  taken-sound spare left is was now small =
      let c : count_by (nat_eq key) left + 1 ≡ spare_in (at slots key) = sym (pushed-here left key) ∙ ap (λ ks. count_by (nat_eq key) ks) (sym is) ∙ was.spare key in
      let a = split (at slots key) in
      let one-most = one-or-none (at slots key) in
      let l : length spare ≡ length left + 1 = ap length is ∙ length_push left key in
      change-sound spare left was (λ q n. sym (pushed-other left key q n) ∙ ap (λ ks. count_by (nat_eq q) ks) (sym is))
      (let z : count_by (nat_eq key) left ≡ 0 = omega (arith, c, one-most) in z ∙ sym now) small (omega (arith, l, c, one-most, now))
    where
      one-or-none : (o : Option Segment) → spare_in o ≤ 1
      one-or-none None = omega arith
      one-or-none (Some s) = by (nat_eq s.holders 0)
        where
          by : (b : Bool) → (if b then 1 else 0) ≤ 1
          by true = omega arith
          by false = omega arith

-- a key that is spare has a segment that nobody holds
pub taken-there : (slots : List (Option Segment)) (spare left : List ℕ) (key : ℕ) → AreSound slots spare → spare ≡ left ++ key ∷ [] → (s : Segment) × ((at slots key ≡ Some s) × (s.holders ≡ 0))
taken-there slots spare left key was is =
    of (at slots key) refl (omega (arith, (let c : count_by (nat_eq key) left + 1 ≡ spare_in (at slots key) = sym (pushed-here left key) ∙ ap (λ ks. count_by (nat_eq key) ks) (sym is) ∙ was.spare key in c)))
  where
    of : (o : Option Segment) → at slots key ≡ o → 1 ≤ spare_in o → (s : Segment) × ((at slots key ≡ Some s) × (s.holders ≡ 0))
    of None e h = absurd (omega (arith, h))
    of (Some s) e h = elim (eqb_tells s.holders 0) as (λ _. (s : Segment) × ((at slots key ≡ Some s) × (s.holders ≡ 0))) [
      | inl z ↦ (s, (e, z.1))
      | inr z ↦ let n : spare_in (Some s) ≡ 0 = held-no-spare s (omega (arith, z.1)) in absurd (omega (arith, h, n))
    ]

at-within : (slots : List (Option Segment)) (key : ℕ) (x : Segment) → at slots key ≡ Some x → key < length slots
at-within [] key x was = absurd (cc)
at-within (o ∷ slots) zero x was = omega arith
at-within (o ∷ slots) (suc key) x was = let r = at-within slots key x was in omega (arith, r)

-- a segment in the place of another
pub put-here : (slots : List (Option Segment)) (key : ℕ) (x y : Segment) → at slots key ≡ Some x → at (slice_set slots key (Some y)) key ≡ Some y
put-here slots key x y was = get_or-set_same slots key (Some y) None (at-within slots key x was)

pub put-others : (slots : List (Option Segment)) (key : ℕ) (y : Segment) (q : ℕ) → q ≢ key → at (slice_set slots key (Some y)) q ≡ at slots q
put-others slots key y q n = get_or-set_other slots key q (Some y) None n

-- a segment that is held, and was lent out to be changed
module _ (slots held : List (Option Segment)) (same : held_of slots ≡ held) (key : ℕ) where
  seen : 1 ≤ holders_in (at held key) → (s : Segment) × ((at slots key ≡ Some s) × (1 ≤ s.holders))
  seen here = there slots key (subst (λ ss. 1 ≤ holders_in (at ss key)) (sym same) here)

  pub held-is-there : 1 ≤ holders_in (at held key) → IsSome (at slots key)
  held-is-there here = subst IsSome (sym (seen here).1.0) refl

  module _ (x : Segment) (lent : at slots key ≡ Some x) (here : 1 ≤ holders_in (at held key)) where
    pub lent-held : 1 ≤ x.holders
    lent-held = subst (λ (s : Segment). 1 ≤ s.holders) (same_Some (seen here).0 x (sym (seen here).1.0 ∙ lent)) (seen here).1.1

    pub lent-was : at held key ≡ Some x
    lent-was = ap (λ ss. at ss key) (sym same) ∙ held-at slots key ∙ ap unless_spare lent ∙ held-is x lent-held

    pub lent-unspare : spare_in (at slots key) ≡ 0
    lent-unspare = ap spare_in lent ∙ held-no-spare x lent-held

    -- it is held still
    module _ (y : Segment) (now : 1 ≤ y.holders) where
      pub lent-set : at (held_of (slice_set slots key (Some y))) ≡ set_at (at held) key (Some y)
      lent-set =
          change-held slots (slice_set slots key (Some y)) key (put-others slots key y)
          ∙ (λ i. set_at (at (same i)) key ((ap unless_spare (put-here slots key x y lent) ∙ held-is y now) i))

      pub lent-live : live_count (held_of (slice_set slots key (Some y))) ≡ live_count held
      lent-live =
          let c = change-live slots (slice_set slots key (Some y)) key (put-others slots key y) in
          let a : one (unless_spare (at slots key)) ≡ 1 = ap one (ap unless_spare lent ∙ held-is x lent-held) in
          let b : one (unless_spare (at (slice_set slots key (Some y)) key)) ≡ 1 = ap one (ap unless_spare (put-here slots key x y lent) ∙ held-is y now) in
          let s : live_count (held_of slots) ≡ live_count held = ap live_count same in
          omega (arith, c, a, b, s)

      pub lent-sound : (keys : List ℕ) → AreSound slots keys → length y.filled ≤ segment_size → AreSound (slice_set slots key (Some y)) keys
      lent-sound keys sound small =
          steady-sound slots (slice_set slots key (Some y)) key (put-others slots key y) keys sound lent-unspare
          (ap spare_in (put-here slots key x y lent) ∙ held-no-spare y now) (subst IsSmall (sym (put-here slots key x y lent)) small)

    -- nobody holds it any more
    module _ (after : List (Option Segment)) (others : (q : ℕ) → q ≢ key → at after q ≡ at slots q) (gone : unless_spare (at after key) ≡ None) where
      pub gone-set : at (held_of after) ≡ set_at (at held) key None
      gone-set = change-held slots after key others ∙ (λ i. set_at (at (same i)) key (gone i))

      pub gone-live : live_count (held_of after) + 1 ≡ live_count held
      gone-live =
          let c = change-live slots after key others in
          let a : one (unless_spare (at slots key)) ≡ 1 = ap one (ap unless_spare lent ∙ held-is x lent-held) in
          let b : one (unless_spare (at after key)) ≡ 0 = ap one gone in
          let s : live_count (held_of slots) ≡ live_count held = ap live_count same in
          omega (arith, c, a, b, s)

-- a segment comes under a key where none was seen
module _ (slots held : List (Option Segment)) (same : held_of slots ≡ held) (key : ℕ) (unseen : unless_spare (at slots key) ≡ None)
    (after : List (Option Segment)) (others : (q : ℕ) → q ≢ key → at after q ≡ at slots q) (y : Segment) (here : at after key ≡ Some y) (now : 1 ≤ y.holders) where
  pub came-vacant : at held key ≡ None
  came-vacant = ap (λ ss. at ss key) (sym same) ∙ held-at slots key ∙ unseen

  pub came-set : at (held_of after) ≡ set_at (at held) key (Some y)
  came-set = change-held slots after key others ∙ (λ i. set_at (at (same i)) key ((ap unless_spare here ∙ held-is y now) i))

  pub came-live : live_count (held_of after) ≡ live_count held + 1
  came-live =
      let c = change-live slots after key others in
      let a : one (unless_spare (at slots key)) ≡ 0 = ap one unseen in
      let b : one (unless_spare (at after key)) ≡ 1 = ap one (ap unless_spare here ∙ held-is y now) in
      let s : live_count (held_of slots) ≡ live_count held = ap live_count same in
      omega (arith, c, a, b, s)

-- nothing seen comes or goes
pub unseen-same : (slots after : List (Option Segment)) (key : ℕ) → ((q : ℕ) → q ≢ key → at after q ≡ at slots q)
    → unless_spare (at slots key) ≡ None → unless_spare (at after key) ≡ None → held_of after ≡ held_of slots
unseen-same slots after key others before now = held-same after slots at_q
  where
    at_q : (q : ℕ) → unless_spare (at after q) ≡ unless_spare (at slots q)
    at_q q = elim (eqb_tells q key) as (λ _. unless_spare (at after q) ≡ unless_spare (at slots q)) [
      | inl e ↦ subst (λ z. unless_spare (at after z) ≡ unless_spare (at slots z)) (sym e.1) (now ∙ sym before)
      | inr e ↦ ap unless_spare (others q e.1)
    ]
