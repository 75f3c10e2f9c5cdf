-- Slots that stand in chunks, and spots among them.
use Rattle.std.proofs.Common.{◌≡◌, ℕ, zero, suc, ◌+◌, ◌-◌, ◌<◌, ◌≤◌, List, [], ◌∷◌, ◌++◌, Some, refl, sym, ◌∙◌, ap, subst, inl, inr, length, take, drop, arith}
use Rattle.std.specs.Prelude.{slice_get, slice_index_or, nat_eq, nat_lt, true}
use Rattle.std.proofs.lemmas.Bool.{cases_lt, ltb_from_iff, ltb-true, lt-ltb, le-ltb, ne_eqb}
use Rattle.std.proofs.lemmas.Bool.Decides.{eqb_tells}
use Rattle.std.proofs.lemmas.List.{append-nil, append_assoc, take-append-drop, take-append-le, take_all, take_at, drop_all, drop_more, length-append, drop-append-le}
use Rattle.std.proofs.lemmas.Option.{slice_get_within, get_or_from_slice_get}
use Rattle.std.proofs.Math.Seq.{take-append-add, drop-append-add}
use Rattle.pl_segments.specs.declared.slice.Slice.{Slice}
use Rattle.pl_segments.specs.Slots.{total}
use Rattle.pl_segments.proofs.SlotLemmas.{total-append}
use Rattle.pl_file.specs.Rows.{Row, flat, lens_of, slots_in, index_of, left_from, IsAt, IsChunk, AreChunks}

-- the slots of rows, whole and in parts
pub flat-append : (rs ss : List Row) → flat (rs ++ ss) ≡ flat rs ++ flat ss
flat-append [] ss = refl
flat-append (r ∷ rs) ss = ap (λ ys. r.slots ++ ys) (flat-append rs ss) ∙ sym (append_assoc r.slots (flat rs) (flat ss))

pub flat-parts : (c : ℕ) (rs : List Row) → flat (take c rs) ++ flat (drop c rs) ≡ flat rs
flat-parts c rs = sym (flat-append (take c rs) (drop c rs)) ∙ ap flat (take-append-drop c rs)

pub length-lens : (rs : List Row) → length (lens_of rs) ≡ length rs
length-lens [] = refl
length-lens (r ∷ rs) = ap suc (length-lens rs)

pub slots-in : (rs : List Row) (c : ℕ) (r : Row) → slice_get rs c ≡ Some r → slots_in rs c ≡ r.slots
slots-in [] c r e = absurd (cc)
slots-in (s ∷ rs) zero r e = (let q : s ≡ r = cc in ap (λ (t : Row). t.slots) q)
slots-in (s ∷ rs) (suc c) r e = slots-in rs c r e

-- a place more in a chunk
pub index-plus : (ns : List ℕ) (c at : ℕ) → index_of ns c at ≡ index_of ns c 0 + at
index-plus ns zero at = omega arith
index-plus [] (suc c) at = omega arith
index-plus (n ∷ ns) (suc c) at = let r = index-plus ns c at in omega (arith, r)

pub index-more : (ns : List ℕ) (c at : ℕ) → index_of ns c (at + 1) ≡ index_of ns c at + 1
index-more ns c at = let a = index-plus ns c at in let b = index-plus ns c (at + 1) in omega (arith, a, b)

-- the chunk behind
pub index-over : (rs : List Row) (c : ℕ) → c < length rs → index_of (lens_of rs) (suc c) 0 ≡ index_of (lens_of rs) c (length (slots_in rs c))
index-over [] c l = absurd (omega (arith, l))
index-over (r ∷ rs) zero l = omega arith
index-over (r ∷ rs) (suc c) l = ap (λ k. length r.slots + k) (index-over rs c (omega (arith, l)))

pub index-end : (rs : List Row) → index_of (lens_of rs) (length rs) 0 ≡ length (flat rs)
index-end [] = refl
index-end (r ∷ rs) = let e = index-end rs in let a = length-append r.slots (flat rs) in omega (arith, e, a)

-- a slot before another
pub index-less : (ns : List ℕ) (c a d b : ℕ) → IsAt ns c a → IsAt ns d b → c < d → index_of ns c a < index_of ns d b
index-less [] c a d b p q l = let e = q.0 in absurd (omega (arith, e, l))
index-less (n ∷ ns) zero a zero b p q l = absurd (omega (arith, l))
index-less (n ∷ ns) zero a (suc d) b p q l = omega (arith, p)
index-less (n ∷ ns) (suc c) a zero b p q l = absurd (omega (arith, l))
index-less (n ∷ ns) (suc c) a (suc d) b p q l = let r = index-less ns c a d b p q (omega (arith, l)) in omega (arith, r)

-- a spot that isn't behind all is in a row
pub spot-row : (rs : List Row) (c at : ℕ) → IsAt (lens_of rs) c at → c < length rs → at < length (slots_in rs c)
spot-row [] c at p l = absurd (omega (arith, l))
spot-row (r ∷ rs) zero at p l = p
spot-row (r ∷ rs) (suc c) at p l = spot-row rs c at p (omega (arith, l))

pub spot-le : (rs : List Row) (c at : ℕ) → IsAt (lens_of rs) c at → at ≤ length (slots_in rs c)
spot-le [] c at p = let e = p.1 in omega (arith, e)
spot-le (r ∷ rs) zero at p = omega (arith, p)
spot-le (r ∷ rs) (suc c) at p = spot-le rs c at p

pub spot-most : (rs : List Row) (c at : ℕ) → IsAt (lens_of rs) c at → c ≤ length rs
spot-most [] c at p = let e = p.0 in omega (arith, e)
spot-most (r ∷ rs) zero at p = omega arith
spot-most (r ∷ rs) (suc c) at p = let l = spot-most rs c at p in omega (arith, l)

pub spot-end : (rs : List Row) (c at : ℕ) → IsAt (lens_of rs) c at → length rs ≤ c → at ≡ 0
spot-end [] c at p l = p.1
spot-end (r ∷ rs) zero at p l = absurd (omega (arith, l))
spot-end (r ∷ rs) (suc c) at p l = spot-end rs c at p (omega (arith, l))

pub spot-some : (rs : List Row) (c at : ℕ) → IsAt (lens_of rs) c at → 1 ≤ at → c < length rs
spot-some rs c at p some = elim (cases_lt c (length rs)) as (λ _. c < length rs) [
  | inl l ↦ l
  | inr l ↦ let z = spot-end rs c at p l in absurd (omega (arith, z, some))
]

pub index-within : (rs : List Row) (c at : ℕ) → IsAt (lens_of rs) c at → c < length rs → index_of (lens_of rs) c at < length (flat rs)
index-within [] c at p l = absurd (omega (arith, l))
index-within (r ∷ rs) zero at p l = let a = length-append r.slots (flat rs) in omega (arith, a, p)
index-within (r ∷ rs) (suc c) at p l = let a = length-append r.slots (flat rs) in let i = index-within rs c at p (omega (arith, l)) in omega (arith, a, i)

pub index-past : (rs : List Row) (c at : ℕ) → IsAt (lens_of rs) c at → length rs ≤ c → index_of (lens_of rs) c at ≡ length (flat rs)
index-past rs c at p l =
    let z = spot-end rs c at p l in
    let m = spot-most rs c at p in
    let e : c ≡ length rs = omega (arith, l, m) in
    (λ i. index_of (lens_of rs) (e i) (z i)) ∙ index-end rs

pub index-le : (rs : List Row) (c at : ℕ) → IsAt (lens_of rs) c at → index_of (lens_of rs) c at ≤ length (flat rs)
index-le rs c at p = elim (cases_lt c (length rs)) as (λ _. index_of (lens_of rs) c at ≤ length (flat rs)) [
  | inl l ↦ let h = index-within rs c at p l in omega (arith, h)
  | inr l ↦ let h = index-past rs c at p l in omega (arith, h)
]

pub spot-there : (rs : List Row) (c at : ℕ) → IsAt (lens_of rs) c at → index_of (lens_of rs) c at < length (flat rs) → c < length rs
spot-there rs c at p l = elim (cases_lt c (length rs)) as (λ _. c < length rs) [
  | inl h ↦ h
  | inr h ↦ let e = index-past rs c at p h in absurd (omega (arith, e, l))
]

-- the first spot, and the one behind a chunk
pub spot-first : (k : ℕ) (rs : List Row) → AreChunks k rs → IsAt (lens_of rs) 0 0
spot-first k [] ok = (refl, refl)
spot-first k (r ∷ rs) ok = ok.0.some

pub spot-over : (k : ℕ) (rs : List Row) (c : ℕ) → AreChunks k rs → c < length rs → IsAt (lens_of rs) (suc c) 0
spot-over k [] c ok l = absurd (omega (arith, l))
spot-over k (r ∷ rs) zero ok l = spot-first (k + total r.slots) rs ok.1
spot-over k (r ∷ rs) (suc c) ok l = spot-over (k + total r.slots) rs c ok.1 (omega (arith, l))

-- the first spot of a chunk, or the one behind all
pub spot-begins : (k : ℕ) (rs : List Row) (c : ℕ) → AreChunks k rs → c ≤ length rs → IsAt (lens_of rs) c 0
spot-begins k rs zero ok l = spot-first k rs ok
spot-begins k rs (suc c) ok l = spot-over k rs c ok (omega (arith, l))

pub spot-behind : (rs : List Row) → IsAt (lens_of rs) (length rs) 0
spot-behind [] = (refl, refl)
spot-behind (r ∷ rs) = spot-behind rs

pub spot-next : (rs : List Row) (c at : ℕ) → c < length rs → at < length (slots_in rs c) → IsAt (lens_of rs) c at
spot-next [] c at l h = absurd (omega (arith, l))
spot-next (r ∷ rs) zero at l h = h
spot-next (r ∷ rs) (suc c) at l h = spot-next rs c at (omega (arith, l)) h

-- the slots before a spot, those from there on, and the one there
pub take-index : (rs : List Row) (c at : ℕ) → at ≤ length (slots_in rs c) → take (index_of (lens_of rs) c at) (flat rs) ≡ flat (take c rs) ++ take at (slots_in rs c)
take-index [] c at l = take_all (index_of [] c at) [] (omega arith) ∙ sym (take_all at [] (omega arith)) ∙ ap (λ rs. flat rs ++ take at []) (sym (take_all c [] (omega arith)))
take-index (r ∷ rs) zero at l = take-append-le at r.slots (flat rs) l
take-index (r ∷ rs) (suc c) at l =
    take-append-add r.slots (flat rs) (index_of (lens_of rs) c at)
    ∙ ap (λ ys. r.slots ++ ys) (take-index rs c at l)
    ∙ sym (append_assoc r.slots (flat (take c rs)) (take at (slots_in rs c)))

pub drop-index : (rs : List Row) (c at : ℕ) → at ≤ length (slots_in rs c) → drop (index_of (lens_of rs) c at) (flat rs) ≡ drop at (slots_in rs c) ++ flat (drop (suc c) rs)
drop-index [] c at l = drop_all (index_of [] c at) [] (omega arith) ∙ sym (drop_all at [] (omega arith)) ∙ sym (append-nil (drop at []))
drop-index (r ∷ rs) zero at l = drop-append-le at r.slots (flat rs) l
drop-index (r ∷ rs) (suc c) at l = drop-append-add r.slots (flat rs) (index_of (lens_of rs) c at) ∙ drop-index rs c at l

pub drop-first : (rs : List Row) (c : ℕ) → drop (index_of (lens_of rs) c 0) (flat rs) ≡ flat (drop c rs)
drop-first rs zero = refl
drop-first [] (suc c) = refl
drop-first (r ∷ rs) (suc c) = drop-append-add r.slots (flat rs) (index_of (lens_of rs) c 0) ∙ drop-first rs c

get-left : (xs ys : List Slice) (i : ℕ) → i < length xs → slice_get (xs ++ ys) i ≡ slice_get xs i
get-left [] ys i l = absurd (omega (arith, l))
get-left (x ∷ xs) ys zero l = refl
get-left (x ∷ xs) ys (suc i) l = get-left xs ys i (omega (arith, l))

get-right : (xs ys : List Slice) (i : ℕ) → slice_get (xs ++ ys) (length xs + i) ≡ slice_get ys i
get-right [] ys i = ap (slice_get ys) (let e : 0 + i ≡ i = omega arith in e)
get-right (x ∷ xs) ys i = ap (slice_get (x ∷ (xs ++ ys))) (let e : suc (length xs) + i ≡ suc (length xs + i) = omega arith in e) ∙ get-right xs ys i

pub get-index : (rs : List Row) (c at : ℕ) → at < length (slots_in rs c) → slice_get (flat rs) (index_of (lens_of rs) c at) ≡ slice_get (slots_in rs c) at
get-index [] c at l = absurd (omega (arith, l))
get-index (r ∷ rs) zero at l = get-left r.slots (flat rs) at l
get-index (r ∷ rs) (suc c) at l = get-right r.slots (flat rs) (index_of (lens_of rs) c at) ∙ get-index rs c at l

-- where the slots before a spot end
pub total-index : (rs : List Row) (c at : ℕ) → at ≤ length (slots_in rs c) → total (take (index_of (lens_of rs) c at) (flat rs)) ≡ total (flat (take c rs)) + total (take at (slots_in rs c))
total-index rs c at l = ap total (take-index rs c at l) ∙ total-append (flat (take c rs)) (take at (slots_in rs c))

pub total-next : (rs : List Row) (c : ℕ) → c < length rs → total (flat (take (suc c) rs)) ≡ total (flat (take c rs)) + total (slots_in rs c)
total-next [] c l = absurd (omega (arith, l))
total-next (r ∷ rs) zero l = let a = total-append r.slots [] in omega (arith, a)
total-next (r ∷ rs) (suc c) l =
    let a = total-append r.slots (flat (take (suc c) rs)) in
    let b = total-append r.slots (flat (take c rs)) in
    let t = total-next rs c (omega (arith, l)) in
    omega (arith, a, b, t)

-- chunks, whole and in parts
pub chunk-at : (k : ℕ) (rs : List Row) (c : ℕ) (r : Row) → AreChunks k rs → slice_get rs c ≡ Some r → IsChunk (k + total (flat (take c rs))) r
chunk-at k [] c r ok e = absurd (cc)
chunk-at k (s ∷ rs) zero r ok e = subst (λ t. IsChunk (k + 0) t) (let q : s ≡ r = cc in q) (subst (λ j. IsChunk j s) (let z : k ≡ k + 0 = omega arith in z) ok.0)
chunk-at k (s ∷ rs) (suc c) r ok e =
    let a = total-append s.slots (flat (take c rs)) in
    let w : k + total s.slots + total (flat (take c rs)) ≡ k + total (s.slots ++ flat (take c rs)) = omega (arith, a) in
    subst (λ j. IsChunk j r) w (chunk-at (k + total s.slots) rs c r ok.1 e)

pub chunks-append : (k : ℕ) (rs ss : List Row) → AreChunks k rs → AreChunks (k + total (flat rs)) ss → AreChunks k (rs ++ ss)
chunks-append k [] ss ok more = subst (λ j. AreChunks j ss) (let z : k + 0 ≡ k = omega arith in z) more
chunks-append k (r ∷ rs) ss ok more =
    let a = total-append r.slots (flat rs) in
    let w : k + total (r.slots ++ flat rs) ≡ k + total r.slots + total (flat rs) = omega (arith, a) in
    (ok.0, chunks-append (k + total r.slots) rs ss ok.1 (subst (λ j. AreChunks j ss) w more))

pub chunks-left : (k : ℕ) (rs ss : List Row) → AreChunks k (rs ++ ss) → AreChunks k rs
chunks-left k [] ss ok = tt
chunks-left k (r ∷ rs) ss ok = (ok.0, chunks-left (k + total r.slots) rs ss ok.1)

pub chunks-right : (k : ℕ) (rs ss : List Row) → AreChunks k (rs ++ ss) → AreChunks (k + total (flat rs)) ss
chunks-right k [] ss ok = subst (λ j. AreChunks j ss) (let z : k ≡ k + 0 = omega arith in z) ok
chunks-right k (r ∷ rs) ss ok =
    let a = total-append r.slots (flat rs) in
    let w : k + total r.slots + total (flat rs) ≡ k + total (r.slots ++ flat rs) = omega (arith, a) in
    subst (λ j. AreChunks j ss) w (chunks-right (k + total r.slots) rs ss ok.1)

-- some chunks in the place of others, which start where those start, and end where those end or where nothing stays behind
pub chunks-mixed : (rs ms : List Row) (first last : ℕ) → AreChunks 0 rs → AreChunks (total (flat (take first rs))) ms →
    (last < length rs → total (flat (take first rs)) + total (flat ms) ≡ total (flat (take last rs))) → AreChunks 0 (take first rs ++ (ms ++ drop last rs))
chunks-mixed rs ms first last ok are ends =
    let front = take first rs in
    let behind = take last rs in
    let z : total (flat front) ≡ 0 + total (flat front) = omega arith in
    chunks-append 0 front (ms ++ drop last rs) (chunks-left 0 front (drop first rs) (subst (AreChunks 0) (sym (take-append-drop first rs)) ok))
    (subst (λ j. AreChunks j (ms ++ drop last rs)) z
    (chunks-append (total (flat front)) ms (drop last rs) are
    (elim (cases_lt last (length rs)) as (λ _. AreChunks (total (flat front) + total (flat ms)) (drop last rs)) [
      | inl l ↦
          let e = ends l in
          let w : 0 + total (flat behind) ≡ total (flat front) + total (flat ms) = omega (arith, e) in
          subst (λ j. AreChunks j (drop last rs)) w (chunks-right 0 behind (drop last rs) (subst (AreChunks 0) (sym (take-append-drop last rs)) ok))
      | inr l ↦ subst (AreChunks (total (flat front) + total (flat ms))) (sym (drop_all last rs l)) tt
    ])))

-- a row at a spot
module _ (rs : List Row) (c at : ℕ) (r : Row) (got : slice_get rs c ≡ Some r) (ok : AreChunks 0 rs) (le : at ≤ length (slots_in rs c)) where
  pub row-le : at ≤ length r.slots
  row-le = let e = ap length (slots-in rs c r got) in omega (arith, e, le)

  pub row-base : r.base ≡ total (flat (take c rs))
  row-base = let b = (chunk-at 0 rs c r ok got).base in omega (arith, b)

  pub row-take : take at r.slots ≡ take at (slots_in rs c)
  row-take = ap (take at) (sym (slots-in rs c r got))

  pub row-total : total (take (index_of (lens_of rs) c at) (flat rs)) ≡ r.base + total (take at r.slots)
  row-total =
      let t = total-index rs c at le in
      let b = row-base in
      let e = ap total row-take in
      omega (arith, t, b, e)

  pub row-end : total (flat (take (suc c) rs)) ≡ r.base + total r.slots
  row-end =
      let t = total-next rs c (slice_get_within rs c r got) in
      let b = row-base in
      let e = ap total (slots-in rs c r got) in
      omega (arith, t, b, e)

-- tests that tell the same
pub same-lt : (a b x y : ℕ) → (a < b → x < y) → (x < y → a < b) → nat_lt a b ≡ nat_lt x y
same-lt a b x y f h = ltb_from_iff (λ e. f (ltb-true a b e), λ l. lt-ltb a b (h l))

pub zero-len : (n : ℕ) → true ≡ nat_eq n 0 → n ≡ 0
zero-len n e = elim (eqb_tells n 0) as (λ _. n ≡ 0) [
  | inl t ↦ t.1
  | inr t ↦ absurd (let f = t.0 in cc)
]

-- chunks that are there have slots
pub flat-some : (k : ℕ) (rs : List Row) → AreChunks k rs → 1 ≤ length rs → 1 ≤ length (flat rs)
flat-some k [] ok l = absurd (omega (arith, l))
flat-some k (r ∷ rs) ok l = let a = length-append r.slots (flat rs) in let s = ok.0.some in omega (arith, a, s)

pub flat-there : (rs : List Row) → 1 ≤ length (flat rs) → 1 ≤ length rs
flat-there [] l = absurd (omega (arith, l))
flat-there (r ∷ rs) l = omega arith

-- whether there are none
pub none-there : (k : ℕ) (rs : List Row) (n : ℕ) → AreChunks k rs → n ≡ length rs → nat_eq n 0 ≡ nat_lt (length (flat rs)) 1
none-there k [] n ok e = ap (λ j. nat_eq j 0) e
none-there k (r ∷ rs) n ok e =
    let a = length-append r.slots (flat rs) in
    let s = ok.0.some in
    ne_eqb n 0 (λ z. omega (arith, z, e)) ∙ sym (le-ltb (length (r.slots ++ flat rs)) 1 (omega (arith, a, s)))

-- the last row, and all before it
pub last-row : (rs : List Row) (r : Row) → slice_get rs (length rs - 1) ≡ Some r → flat rs ≡ flat (take (length rs - 1) rs) ++ r.slots
last-row rs r got =
    let c = length rs - 1 in
    let l = slice_get_within rs c r got in
    let all : drop (suc c) rs ≡ [] = drop_all (suc c) rs (omega arith) in
    sym (flat-parts c rs)
    ∙ ap (λ ss. flat (take c rs) ++ flat ss) (drop_more rs c r l ∙ (λ i. get_or_from_slice_get rs c r r got i ∷ drop (let e : c + 1 ≡ suc c = omega arith in e i) rs) ∙ ap (λ ss. r ∷ ss) all)
    ∙ ap (λ ys. flat (take c rs) ++ ys) (append-nil r.slots)

pub last-end : (rs : List Row) (r : Row) → AreChunks 0 rs → slice_get rs (length rs - 1) ≡ Some r → r.base + total r.slots ≡ total (flat rs)
last-end rs r ok got =
    let c = length rs - 1 in
    let b = (chunk-at 0 rs c r ok got).base in
    let e = ap total (last-row rs r got) in
    let a = total-append (flat (take c rs)) r.slots in
    omega (arith, b, e, a)

-- how many slots one has
pub len-in : (rs : List Row) (c : ℕ) → slice_index_or (lens_of rs) c 0 ≡ length (slots_in rs c)
len-in [] c = refl
len-in (r ∷ rs) zero = refl
len-in (r ∷ rs) (suc c) = len-in rs c

pub len-most : (k : ℕ) (rs : List Row) (c : ℕ) → AreChunks k rs → length (slots_in rs c) ≤ 256
len-most k [] c ok = omega arith
len-most k (r ∷ rs) zero ok = ok.0.most
len-most k (r ∷ rs) (suc c) ok = len-most (k + total r.slots) rs c ok.1

pub len-past : (rs : List Row) (c : ℕ) → length rs ≤ c → slots_in rs c ≡ []
len-past [] c l = refl
len-past (r ∷ rs) zero l = absurd (omega (arith, l))
len-past (r ∷ rs) (suc c) l = len-past rs c (omega (arith, l))

-- the place that is found, by the last chunk that starts in time and how many of its slots do
module _ (rs : List Row) (c n place : ℕ) (r : Row) (got : slice_get rs c ≡ Some r) (ok : AreChunks 0 rs)
    (before : total (flat (take c rs)) ≤ place) (after : c + 1 < length rs → place < total (flat (take (c + 1) rs)))
    (most : n ≤ length r.slots) (start : 1 ≤ n → r.base + total (take (n - 1) r.slots) ≤ place) (end : n < length r.slots → place < r.base + total (take n r.slots)) where
  here : c < length rs
  here = slice_get_within rs c r got

  len : length (slots_in rs c) ≡ length r.slots
  len = ap length (slots-in rs c r got)

  base : r.base ≡ total (flat (take c rs))
  base = row-base rs c 0 r got ok (omega arith)

  pub found-some : 1 ≤ n
  found-some = elim (cases_lt n 1) as (λ _. 1 ≤ n) [
    | inl l ↦
        let z : n ≡ 0 = omega (arith, l) in
        let some = (chunk-at 0 rs c r ok got).some in
        let e = end (omega (arith, z, some)) in
        let t = ap (λ k. total (take k r.slots)) z in
        let b = base in
        absurd (omega (arith, e, t, b, before))
    | inr l ↦ l
  ]

  pub found-at : IsAt (lens_of rs) c (n - 1)
  found-at = let s = found-some in let e = len in spot-next rs c (n - 1) here (omega (arith, s, e, most))

  pub found-within : index_of (lens_of rs) c (n - 1) < length (flat rs)
  found-within = index-within rs c (n - 1) found-at here

  total-up_to : (k : ℕ) → k ≤ length r.slots → total (take (index_of (lens_of rs) c k) (flat rs)) ≡ r.base + total (take k r.slots)
  total-up_to k l = row-total rs c k r got ok (let e = len in omega (arith, l, e))

  pub found-before : total (take (index_of (lens_of rs) c (n - 1)) (flat rs)) ≤ place
  found-before =
      let t = total-up_to (n - 1) (omega (arith, most)) in
      let s = start found-some in
      omega (arith, t, s)

  next : index_of (lens_of rs) c (n - 1) + 1 ≡ index_of (lens_of rs) c n
  next = sym (index-more (lens_of rs) c (n - 1)) ∙ ap (index_of (lens_of rs) c) (let s = found-some in let e : n - 1 + 1 ≡ n = omega (arith, s) in e)

  pub found-after : index_of (lens_of rs) c (n - 1) + 1 < length (flat rs) → place < total (take (index_of (lens_of rs) c (n - 1) + 1) (flat rs))
  found-after l =
      let t = total-up_to n most in
      let m = ap (λ k. total (take k (flat rs))) next in
      elim (cases_lt n (length r.slots)) as (λ _. place < total (take (index_of (lens_of rs) c (n - 1) + 1) (flat rs))) [
        | inl h ↦ let e = end h in omega (arith, t, m, e)
        | inr h ↦
            let whole : total (take n r.slots) ≡ total r.slots = ap total (take_all n r.slots h) in
            let e : n ≡ length (slots_in rs c) = (let q = len in omega (arith, h, most, q)) in
            let over = index-over rs c here in
            let i = ap (index_of (lens_of rs) c) e in
            let j = next in
            let behind : c + 1 < length rs = elim (cases_lt (c + 1) (length rs)) as (λ _. c + 1 < length rs) [
              | inl k ↦ k
              | inr k ↦
                  let w = here in
                  let last : suc c ≡ length rs = omega (arith, k, w) in
                  let z = ap (λ k. index_of (lens_of rs) k 0) last ∙ index-end rs in
                  absurd (omega (arith, l, i, j, over, z))
            ] in
            let p = after behind in
            let q = ap (λ k. total (flat (take k rs))) (let e : c + 1 ≡ suc c = omega arith in e) in
            let u = row-end rs c 0 r got ok (omega arith) in
            omega (arith, t, m, whole, p, q, u)
      ]

-- behind a slot stands the next of its chunk, or the first of the chunk behind
pub next-over : (rs : List Row) (c at : ℕ) → c < length rs → at < length (slots_in rs c) → length (slots_in rs c) ≤ at + 1 → index_of (lens_of rs) (suc c) 0 ≡ index_of (lens_of rs) c at + 1
next-over rs c at l h m = index-over rs c l ∙ ap (index_of (lens_of rs) c) (let e : length (slots_in rs c) ≡ at + 1 = omega (arith, h, m) in e) ∙ index-more (lens_of rs) c at

-- one behind others
pub push-front : (ys zs : List Slice) (x : Slice) → ys ≡ zs ++ x ∷ [] → take (length ys - 1) ys ≡ zs
push-front ys zs x e =
    let l = ap length e in
    let a = length-append zs (x ∷ []) in
    ap (take (length ys - 1)) e ∙ take_at zs (x ∷ []) (length ys - 1) (omega (arith, l, a))

pub last-slot : (xs : List Slice) (x : Slice) → slice_get xs (length xs - 1) ≡ Some x → xs ≡ take (length xs - 1) xs ++ x ∷ []
last-slot xs x got =
    let i = length xs - 1 in
    let l = slice_get_within xs i x got in
    sym (take-append-drop i xs)
    ∙ ap (λ ys. take i xs ++ ys) (drop_more xs i x l ∙ (λ j. get_or_from_slice_get xs i x x got j ∷ drop_all (i + 1) xs (omega arith) j))

pub last-got : (ys zs : List Slice) (x : Slice) → ys ≡ zs ++ x ∷ [] → slice_get ys (length ys - 1) ≡ Some x
last-got ys zs x e =
    let l = ap length e in
    let a = length-append zs (x ∷ []) in
    (λ i. slice_get (e i) (let n : length ys - 1 ≡ length zs + 0 = omega (arith, l, a) in n i)) ∙ get-right zs (x ∷ []) 0

pub last-of-all : (rs : List Row) (r : Row) (x : Slice) → slice_get rs (length rs - 1) ≡ Some r → slice_get r.slots (length r.slots - 1) ≡ Some x → flat rs ≡ take (length (flat rs) - 1) (flat rs) ++ x ∷ []
last-of-all rs r x got here =
    let front = flat (take (length rs - 1) rs) in
    let few = take (length r.slots - 1) r.slots in
    let shape : flat rs ≡ (front ++ few) ++ x ∷ [] = last-row rs r got ∙ ap (λ ys. front ++ ys) (last-slot r.slots x here) ∙ sym (append_assoc front few (x ∷ [])) in
    shape ∙ ap (λ ys. ys ++ x ∷ []) (sym (push-front (flat rs) (front ++ few) x shape))

-- what is left from a place on that isn't the first
pub left-some : (n at : ℕ) → 1 ≤ at → left_from n at ≡ n - at
left-some n zero l = absurd (omega (arith, l))
left-some n (suc at) l = refl
