-- How many slots pass a test, as slots are pushed, and how many are none of some slices.
use Rattle.std.proofs.Common.{◌≡◌, ◌+◌, ◌≤◌, Bool, true, false, cond, List, [], ◌∷◌, ◌++◌, refl, sym, ◌∙◌, ap, subst, inl, inr, nat_eq, count_by, arith}
use Rattle.std.specs.Prelude.{if◌then◌else◌, nat_le, not, ◌||◌, ◌&&◌}
use Rattle.std.proofs.lemmas.Bool.{eq-eqb, eqb-true, le-leb, and_from, and_parts, or_left, or_right}
use Rattle.std.proofs.lemmas.Bool.Decides.{eqb_tells}
use Rattle.std.proofs.lemmas.List.{append-nil, append_assoc}
use Rattle.std.proofs.lemmas.List.Sums.{sum_by-cons, sum_by-append, count_by-le-length}
use Rattle.pl_segments.specs.declared.slice.Slice.{Slice}
use Rattle.pl_segments.specs.Slots.{solid_of}
use Rattle.pl_ring.specs.Parts.{is_same, is_among, within, within_any, fresh, strange}

module _ (test : Slice → Bool) where
  count-cons : (x : Slice) (xs : List Slice) → count_by test (x ∷ xs) ≡ cond (test x) 1 0 + count_by test xs
  count-cons = sum_by-cons (λ (x : Slice). cond (test x) 1 0)

  pub count-append : (xs ys : List Slice) → count_by test (xs ++ ys) ≡ count_by test xs + count_by test ys
  count-append = sum_by-append (λ (x : Slice). cond (test x) 1 0)

  -- slots whose last two become one
  pub count-joined : (front : List Slice) (x s y : Slice) → count_by test (front ++ y ∷ []) ≤ count_by test (front ++ (x ∷ s ∷ [])) + 1
  count-joined front x s y =
      let a = count-append front (y ∷ []) in
      let b = count-append front (x ∷ s ∷ []) in
      let c : count_by test (y ∷ []) ≤ 1 = count_by-le-length test (y ∷ []) in
      omega (arith, a, b, c)

  pub count-solid : (xs : List Slice) → count_by test (solid_of xs) ≤ count_by test xs
  count-solid [] = omega arith
  count-solid (x ∷ xs) =
      let r = count-solid xs in
      let all = count-cons x xs in
      elim (eqb_tells x.len 0) as (λ _. count_by test (solid_of (x ∷ xs)) ≤ count_by test (x ∷ xs)) [
        | inl e ↦
            let a : count_by test (solid_of (x ∷ xs)) ≡ count_by test (solid_of xs) = ap (λ b. count_by test (if b then solid_of xs else x ∷ solid_of xs)) e.0 in
            omega (arith, a, r, all)
        | inr e ↦
            let a : count_by test (solid_of (x ∷ xs)) ≡ count_by test (x ∷ solid_of xs) = ap (λ b. count_by test (if b then solid_of xs else x ∷ solid_of xs)) e.0 in
            let one = count-cons x (solid_of xs) in
            omega (arith, a, r, all, one)
      ]

-- no more slots fail a test than fail one that passes fewer
fails-less : (a b : Bool) → (a ≡ true → b ≡ true) → cond (not b) 1 0 ≤ cond (not a) 1 0
fails-less true b f = subst (λ (c : Bool). cond (not c) 1 0 ≤ 0) (sym (f refl)) (omega arith)
fails-less false true f = omega arith
fails-less false false f = omega arith

pub fewer-fail : (p q : Slice → Bool) → ((x : Slice) → p x ≡ true → q x ≡ true) → (xs : List Slice) → count_by (λ x. not (q x)) xs ≤ count_by (λ x. not (p x)) xs
fewer-fail p q f [] = omega arith
fewer-fail p q f (x ∷ xs) =
    let a = count-cons (λ x. not (q x)) x xs in
    let b = count-cons (λ x. not (p x)) x xs in
    let here = fails-less (p x) (q x) (f x) in
    let rest = fewer-fail p q f xs in
    omega (arith, a, b, here, rest)

-- a slice is itself, among others
same-self : (x : Slice) → is_same x x ≡ true
same-self x =
    and_from (nat_eq x.segment x.segment) (nat_eq x.from x.from && nat_eq x.len x.len) (eq-eqb x.segment x.segment refl)
    (and_from (nat_eq x.from x.from) (nat_eq x.len x.len) (eq-eqb x.from x.from refl) (eq-eqb x.len x.len refl))

among-there : (before : List Slice) (x : Slice) (after : List Slice) → is_among (before ++ x ∷ after) x ≡ true
among-there [] x after = or_left (is_same x x) (is_among after x) (same-self x)
among-there (b ∷ before) x after = or_right (is_same x b) (is_among (before ++ x ∷ after) x) (among-there before x after)

-- slots that are among the slices
fresh-none : (before xs after : List Slice) → fresh (before ++ (xs ++ after)) xs ≡ 0
fresh-none before [] after = refl
fresh-none before (x ∷ xs) after =
    let r = fresh-none (before ++ x ∷ []) xs after in
    let all = before ++ x ∷ (xs ++ after) in
    let rest : fresh all xs ≡ 0 = subst (λ ps. fresh ps xs ≡ 0) (append_assoc before (x ∷ []) (xs ++ after)) r in
    let here = subst (λ (c : Bool). cond (not c) 1 0 ≤ 0) (sym (among-there before x (xs ++ after))) (omega arith) in
    let sum = count-cons (λ z. not (is_among all z)) x xs in
    omega (arith, sum, here, rest)

pub fresh-own : (xs : List Slice) → fresh xs xs ≡ 0
fresh-own xs = ap (λ ys. fresh ys xs) (sym (append-nil xs)) ∙ fresh-none [] xs []

-- slots, and the slices behind them that aren't empty
pub fresh-first : (xs slices : List Slice) → fresh (xs ++ slices) (xs ++ solid_of slices) ≡ 0
fresh-first xs slices =
    let is_new = λ (z : Slice). not (is_among (xs ++ slices) z) in
    let a = count-append is_new xs (solid_of slices) in
    let b = fresh-none [] xs slices in
    let c = count-solid is_new slices in
    let d : fresh (xs ++ slices) slices ≡ 0 = ap (λ zs. fresh (xs ++ zs) slices) (sym (append-nil slices)) ∙ fresh-none xs slices [] in
    omega (arith, a, b, c, d)

-- what is among slices lies within them
same-within : (x y : Slice) → is_same x y ≡ true → within x y ≡ true
same-within x y e =
    let a = and_parts (nat_eq x.segment y.segment) (nat_eq x.from y.from && nat_eq x.len y.len) e in
    let b = and_parts (nat_eq x.from y.from) (nat_eq x.len y.len) a.1 in
    let from = eqb-true x.from y.from b.0 in
    let len = eqb-true x.len y.len b.1 in
    and_from (nat_eq x.segment y.segment) (nat_le y.from x.from && nat_le (x.from + x.len) (y.from + y.len)) a.0
    (and_from (nat_le y.from x.from) (nat_le (x.from + x.len) (y.from + y.len)) (le-leb y.from x.from (omega (arith, from))) (le-leb (x.from + x.len) (y.from + y.len) (omega (arith, from, len))))

-- what is true of either of two tests, is true of either of two that follow from them
pub or_weaker : (a b c d : Bool) → (a ≡ true → c ≡ true) → (b ≡ true → d ≡ true) → (a || b) ≡ true → (c || d) ≡ true
or_weaker true b c d f h e = or_left c d (f refl)
or_weaker false b c d f h e = or_right c d (h e)

pub among-within : (ys : List Slice) (x : Slice) → is_among ys x ≡ true → within_any ys x ≡ true
among-within [] x e = e
among-within (y ∷ ys) x e = or_weaker (is_same x y) (is_among ys x) (within x y) (within_any ys x) (same-within x y) (among-within ys x) e

-- no more slots are strange than are fresh
pub strange-less : (there others xs : List Slice) → strange there others xs ≤ fresh there xs
strange-less there others = fewer-fail (is_among there) (λ x. is_among there x || within_any others x) (λ x e. or_left (is_among there x) (within_any others x) e)
