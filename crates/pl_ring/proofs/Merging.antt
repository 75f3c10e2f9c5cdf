-- The bound of slots, and that a push of the front of one ring merges at most three times.
use Rattle.std.proofs.Common.{◌≡◌, ℕ, suc, ◌+◌, ◌-◌, ◌*◌, ◌/◌, ◌%◌, ◌<◌, ◌≤◌, Bool, true, false, List, [], ◌∷◌, ◌++◌, sym, ap, subst, inl, inr, length, refl, ◌∙◌, arith}
use Rattle.std.specs.Prelude.{if◌then◌else◌, nat_le}
use Rattle.std.proofs.lemmas.Bool.{le-leb, lt-leb, ne_eqb, cases_lt, and_from, and_right, and_left}
use Rattle.std.proofs.lemmas.Bool.Decides.{eqb_tells, leb_tells}
use Rattle.pl_segments.specs.declared.slice.Slice.{Slice}
use Rattle.pl_segments.specs.Slots.{AllSolid, solid_of, front_of, last_len}
use Rattle.pl_ring.specs.Merging.{lens, AreTight, AreMerged, joins, merges, merges_onto, IsFront}
use Rattle.pl_segments.proofs.Fronting.{front-whole, front-part, front-none, front-solid}

-- their sum
abbrev pub sum_of : List ℕ → ℕ
sum_of [] = 0
sum_of (x ∷ xs) = x + sum_of xs

-- none is 0
abbrev pub AreSome : List ℕ → Type 0
AreSome [] = Unit {0}
AreSome (x ∷ xs) = (1 ≤ x) × AreSome xs

-- the same, the last pair excepted
abbrev pub AreCut : List ℕ → Type 0
AreCut [] = Unit {0}
AreCut (x ∷ []) = Unit {0}
AreCut (x ∷ y ∷ []) = Unit {0}
AreCut (x ∷ y ∷ z ∷ r) = (4096 < x + y) × AreCut (y ∷ z ∷ r)

-- what stands at the last slot's place, and after it, once they are pushed
abbrev pub merged : ℕ → ℕ → List ℕ → List ℕ
merged count last [] = last ∷ []
merged count last (x ∷ xs) = if joins count last x then merged count (last + x) xs else last ∷ merged (count + 1) x xs

-- the bound of slots
tight-sum : (xs : List ℕ) → AreTight xs → AreSome xs → 4097 * (length xs / 2) + length xs % 2 ≤ sum_of xs
tight-sum [] t s = omega arith
tight-sum (x ∷ []) t s = let l = s.0 in omega (arith, l)
tight-sum (x ∷ y ∷ []) t s = let l = t.0 in omega (arith, l)
tight-sum (x ∷ y ∷ z ∷ r) t s =
    let i = tight-sum (z ∷ r) t.1.1 s.1.1 in
    let l = t.0 in
    omega (arith, i, l)

pub slots-bound : (xs : List ℕ) (places : ℕ) → AreMerged xs → AreSome xs → sum_of xs ≤ 4096 * places → length xs ≤ 2 * places
slots-bound [] places m s l = omega arith
slots-bound (x ∷ r) places m s l = let t = tight-sum r m s.1 in let a = s.0 in omega (arith, t, a, l)

-- whether slots become one
pub joins-yes : (count last x : ℕ) → 2 ≤ count → last + x ≤ 4096 → joins count last x ≡ true
joins-yes count last x c l = and_from (nat_le 2 count) (nat_le (last + x) 4096) (le-leb 2 count c) (le-leb (last + x) 4096 l)

pub joins-long : (count last x : ℕ) → 4096 < last + x → joins count last x ≡ false
joins-long count last x l = and_right (nat_le 2 count) (nat_le (last + x) 4096) (lt-leb (last + x) 4096 l)

pub joins-first : (count last x : ℕ) → count < 2 → joins count last x ≡ false
joins-first count last x l = and_left (nat_le 2 count) (nat_le (last + x) 4096) (lt-leb 2 count l)

pub joins-fit : (count last x : ℕ) → joins count last x ≡ true → last + x ≤ 4096
joins-fit count last x e = elim (leb_tells (last + x) 4096) as (λ _. last + x ≤ 4096) [
  | inl l ↦ l.1
  | inr l ↦ let n = joins-long count last x l.1 in absurd (cc)
]

pub merged-yes : (count last x : ℕ) (xs : List ℕ) → joins count last x ≡ true → merged count last (x ∷ xs) ≡ merged count (last + x) xs
merged-yes count last x xs e = ap (λ b. if b then merged count (last + x) xs else last ∷ merged (count + 1) x xs) e

pub merged-no : (count last x : ℕ) (xs : List ℕ) → joins count last x ≡ false → merged count last (x ∷ xs) ≡ last ∷ merged (count + 1) x xs
merged-no count last x xs e = ap (λ b. if b then merged count (last + x) xs else last ∷ merged (count + 1) x xs) e

pub merges-no : (count last x : ℕ) (xs : List ℕ) → joins count last x ≡ false → merges count last (x ∷ xs) ≡ merges (count + 1) x xs
merges-no count last x xs e = ap (λ b. if b then 1 + merges count (last + x) xs else merges (count + 1) x xs) e

pub merges-yes : (count last x : ℕ) (xs : List ℕ) → joins count last x ≡ true → merges count last (x ∷ xs) ≡ 1 + merges count (last + x) xs
merges-yes count last x xs e = ap (λ b. if b then 1 + merges count (last + x) xs else merges (count + 1) x xs) e

-- a list with a slot before it that together with a part of its first has more than 4,096 bytes
abbrev Follows : ℕ → ℕ → List ℕ → Type 0
Follows p last ys = (4096 < p + last → AreTight (p ∷ ys)) × AreTight ys

-- what is pushed stands tight, whatever comes
tight-merged : (xs : List ℕ) (count last p : ℕ) → 2 ≤ count → Follows p last (merged count last xs)
tight-merged [] count last p c = ((λ h. (h, tt)), tt)
tight-merged (x ∷ xs) count last p c =
    let together = tight-merged xs count (last + x) p c in
    let apart = tight-merged xs (count + 1) x last (omega arith) in
    elim (cases_lt 4096 (last + x)) as (λ _. Follows p last (merged count last (x ∷ xs))) [
      | inl l ↦
          let tail : AreTight (last ∷ merged (count + 1) x xs) = apart.0 l in
          let r : Follows p last (last ∷ merged (count + 1) x xs) = ((λ h. (h, tail)), tail) in
          subst (Follows p last) (sym (merged-no count last x xs (joins-long count last x l))) r
      | inr l ↦
          let r : Follows p last (merged count (last + x) xs) = ((λ h. together.0 (omega (arith, h))), together.1) in
          subst (Follows p last) (sym (merged-yes count last x xs (joins-yes count last x c l))) r
    ]

-- slots before what is pushed stay tight
tight-behind : (fs : List ℕ) (last count : ℕ) (xs : List ℕ) → 2 ≤ count → AreTight (fs ++ last ∷ []) → AreTight (fs ++ merged count last xs)
tight-behind [] last count xs c t = (tight-merged xs count last 0 c).1
tight-behind (f ∷ []) last count xs c t = (tight-merged xs count last f c).0 t.0
tight-behind (f ∷ g ∷ fs) last count xs c t = (t.0, tight-behind (g ∷ fs) last count xs c t.1)

-- the rule keeps its own condition: after any push all neighbours but the first pair have more than 4,096 bytes together
pub merged-stays : (front : List ℕ) (last : ℕ) (xs : List ℕ) → AreMerged (front ++ last ∷ []) → AreMerged (front ++ merged (length front + 1) last xs)
merged-stays [] last [] m = tt
merged-stays [] last (x ∷ xs) m = subst AreMerged (sym (merged-no 1 last x xs (joins-first 1 last x (omega arith)))) (tight-merged xs (1 + 1) x 0 (omega arith)).1
merged-stays (f ∷ fs) last xs m = tight-behind fs last (suc (length fs) + 1) xs (omega arith) m

-- of slots that stand tight but for the last pair, at most the last becomes one with what is before
cut-merges : (xs : List ℕ) (count last y : ℕ) → y ≤ last → AreCut (y ∷ xs) → merges count last xs ≤ 1
cut-merges [] count last y l c = omega arith
cut-merges (x ∷ []) count last y l c = one (joins count last x)
  where
    one : (b : Bool) → (if b then 1 + 0 else 0) ≤ 1
    one true = omega arith
    one false = omega arith
cut-merges (x ∷ z ∷ xs) count last y l c =
    let long = c.0 in
    let r = cut-merges (z ∷ xs) (count + 1) x x (omega arith) c.1 in
    subst (λ n. n ≤ 1) (sym (merges-no count last x (z ∷ xs) (joins-long count last x (omega (arith, long, l))))) r

-- one more slot before them makes at most one merge more
step-merges : (count last x : ℕ) (xs : List ℕ) (n : ℕ) → merges count (last + x) xs ≤ n → merges (count + 1) x xs ≤ n → merges count last (x ∷ xs) ≤ n + 1
step-merges count last x xs n a b = by (joins count last x)
  where
    by : (t : Bool) → (if t then 1 + merges count (last + x) xs else merges (count + 1) x xs) ≤ n + 1
    by true = omega (arith, a)
    by false = omega (arith, b)

cut-cons : (x y : ℕ) (r : List ℕ) → 4096 < x + y → AreCut (y ∷ r) → AreCut (x ∷ y ∷ r)
cut-cons x y [] l c = tt
cut-cons x y (z ∷ r) l c = (l, c)

-- at most so much of a slot
short-cut : (x : Slice) (xs : List Slice) (k : ℕ) → k ≤ x.len → AreCut (lens (front_of k (x ∷ xs)))
short-cut x xs k l = elim (eqb_tells k 0) as (λ _. AreCut (lens (front_of k (x ∷ xs)))) [
  | inl e ↦ subst (λ j. AreCut (lens (front_of j (x ∷ xs)))) (sym e.1) (subst (λ ys. AreCut (lens ys)) (sym (front-none (x ∷ xs))) tt)
  | inr e ↦ subst (λ ys. AreCut (lens ys)) (sym (front-part k x xs l e.1)) tt
]

-- the front of slots that stand tight stands so but for its last pair
pub cut-front : (xs : List Slice) (k : ℕ) → AreTight (lens xs) → AreCut (lens (front_of k xs))
cut-front [] k t = tt
cut-front (x ∷ []) k t = elim (cases_lt x.len k) as (λ _. AreCut (lens (front_of k (x ∷ [])))) [
  | inl l ↦ subst (λ ys. AreCut (lens ys)) (sym (front-whole k x [] l)) tt
  | inr l ↦ short-cut x [] k l
]
cut-front (x ∷ y ∷ xs) k t =
    let rest = cut-front (y ∷ xs) (k - x.len) t.1 in
    let long = t.0 in
    elim (cases_lt x.len k) as (λ _. AreCut (lens (front_of k (x ∷ y ∷ xs)))) [
      | inr l ↦ short-cut x (y ∷ xs) k l
      | inl l ↦ subst (λ ys. AreCut (lens ys)) (sym (front-whole k x (y ∷ xs) l)) (
          elim (cases_lt y.len (k - x.len)) as (λ _. AreCut (x.len ∷ lens (front_of (k - x.len) (y ∷ xs)))) [
            | inl h ↦
                let is = front-whole (k - x.len) y xs h in
                let part : AreCut (y.len ∷ lens (front_of (k - x.len - y.len) xs)) = subst (λ ys. AreCut (lens ys)) is rest in
                subst (λ ys. AreCut (x.len ∷ lens ys)) (sym is) (cut-cons x.len y.len (lens (front_of (k - x.len - y.len) xs)) long part)
            | inr h ↦ subst (λ ys. AreCut (x.len ∷ lens ys)) (sym (front-part (k - x.len) y xs h (λ e. absurd (omega (arith, e, l))))) tt
          ])
    ]

two-merges : (xs : List ℕ) (count last : ℕ) → AreCut xs → merges count last xs ≤ 2
two-merges [] count last c = omega arith
two-merges (x ∷ xs) count last c = step-merges count last x xs 1 (cut-merges xs count (last + x) x (omega arith) c) (cut-merges xs (count + 1) x x (omega arith) c)

-- of the slices of the front of one ring at most three become one with what stands before them
pub three-merges : (xs : List Slice) (k count last : ℕ) → AreMerged (lens xs) → merges count last (lens (front_of k xs)) ≤ 3
three-merges [] k count last m = omega arith
three-merges (x ∷ xs) k count last m = elim (cases_lt x.len k) as (λ _. merges count last (lens (front_of k (x ∷ xs))) ≤ 3) [
  | inr l ↦ let r = two-merges (lens (front_of k (x ∷ xs))) count last (short-cut x xs k l) in omega (arith, r)
  | inl l ↦
      let cut = cut-front xs (k - x.len) m in
      let r = step-merges count last x.len (lens (front_of (k - x.len) xs)) 2 (two-merges (lens (front_of (k - x.len) xs)) count (last + x.len) cut) (two-merges (lens (front_of (k - x.len) xs)) (count + 1) x.len cut) in
      subst (λ ys. merges count last (lens ys) ≤ 3) (sym (front-whole k x xs l)) r
]

pub solid-same : (xs : List Slice) → AllSolid xs → solid_of xs ≡ xs
solid-same [] s = refl
solid-same (x ∷ xs) s = let l = s.0 in ap (λ b. if b then solid_of xs else x ∷ solid_of xs) (ne_eqb x.len 0 (λ e. absurd (omega (arith, l, e)))) ∙ ap (λ zs. x ∷ zs) (solid-same xs s.1)

pub front-merges : (xs slices : List Slice) → IsFront slices → merges_onto xs (lens (solid_of slices)) ≤ 3
front-merges xs slices f =
    let same : solid_of slices ≡ front_of f.count f.source = ap solid_of f.is ∙ solid-same (front_of f.count f.source) (front-solid f.source f.count f.solid) in
    subst (λ zs. merges_onto xs (lens zs) ≤ 3) (sym same) (three-merges f.source f.count (length xs) (last_len xs) f.merged)

-- where the front of a ring goes, it stays merged
pub merged-drop : (x y : ℕ) (xs : List ℕ) → AreMerged (x ∷ xs) → AreMerged (y ∷ xs)
merged-drop x y xs m = m

pub merged-gone : (x : ℕ) (xs : List ℕ) → AreMerged (x ∷ xs) → AreMerged xs
merged-gone x [] m = tt
merged-gone x (y ∷ []) m = tt
merged-gone x (y ∷ z ∷ xs) m = m.1
