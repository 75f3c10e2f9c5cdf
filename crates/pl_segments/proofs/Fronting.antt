-- Slots that leave at the front, and bytes that are read there.
use Rattle.std.proofs.Common.{◌≡◌, ◌≢◌, ℕ, zero, suc, ◌+◌, ◌-◌, ◌<◌, ◌≤◌, List, [], ◌∷◌, ◌++◌, refl, sym, ◌∙◌, ap, subst, inl, inr, nat_eq, length, take, drop, min, arith}
use Rattle.std.specs.Prelude.{if◌then◌else◌}
use Rattle.std.specs.Prelude.{◌⊎◌}
use Rattle.std.proofs.lemmas.Bool.{le-leb, lt-leb, lt-ltb, le-ltb, ne_eqb, cases_lt}
use Rattle.std.proofs.lemmas.Bool.Decides.{leb_tells, eqb_tells}
use Rattle.std.proofs.lemmas.List.{append-nil, take-append-le, drop-append-le, drop-drop, drop_at, take_all, take_min, length-take}
use Rattle.pl_segments.specs.declared.slice.Slice.{Slice}
use Rattle.pl_segments.specs.Segments.{Map}
use Rattle.pl_segments.specs.Slices.{reads, all_read, AllLie}
use Rattle.pl_segments.specs.Turns.{Holds, Turns}
use Rattle.pl_segments.proofs.Changing.{length-reads, begins-same}
use Rattle.pl_segments.proofs.Turning.{turns-before, read-before}
use Rattle.pl_segments.specs.Slots.{total, AllSolid, cut_front, cut_end, drop_bytes, front_of}
use Rattle.pl_segments.proofs.SlotLemmas.{reads-cut_front, reads-cut_end, lies-cut_front, lies-cut_end}

-- bytes past the first part
pub drop-past : (n : ℕ) (p q : List ℕ) → length p ≤ n → drop n (p ++ q) ≡ drop (n - length p) q
drop-past n p q l =
    let e : length p + (n - length p) ≡ n = omega arith in
    ap (λ k. drop k (p ++ q)) (sym e) ∙ sym (drop-drop (n - length p) (length p) (p ++ q)) ∙ ap (drop (n - length p)) (drop_at p q (length p) refl)

pub take-past : (p q : List ℕ) (n : ℕ) → length p ≤ n → take n (p ++ q) ≡ p ++ take (n - length p) q
take-past [] q n l = ap (λ k. take k q) (let e : n ≡ n - 0 = omega arith in e)
take-past (x ∷ p) q zero l = absurd (omega (arith, l))
take-past (x ∷ p) q (suc n) l = ap (λ bs. x ∷ bs) (take-past p q n (omega arith)) ∙ ap (λ k. (x ∷ p) ++ take k q) (let e : n - length p ≡ suc n - suc (length p) = omega arith in e)

-- as many bytes as are wanted, of a first part and the rest
pub take-parts : (c n : ℕ) (p q : List ℕ) → c ≤ length p → c ≤ n → (c < length p → c ≡ n) → take c p ++ take (n - c) q ≡ take n (p ++ q)
take-parts c n p q l k h = by (cases_lt c (length p))
  where
    by : (c < length p) ⊎ (length p ≤ c) → take c p ++ take (n - c) q ≡ take n (p ++ q)
    by (inl a) =
        let e : c ≡ n = h a in
        let z : n - c ≡ zero = omega arith in
        ap (λ j. take c p ++ take j q) z ∙ append-nil (take c p) ∙ ap (λ j. take j p) e ∙ sym (take-append-le n p q (omega arith))
    by (inr a) =
        let e : c ≡ length p = omega arith in
        (λ i. take (e i) p ++ take (n - e i) q) ∙ ap (λ bs. bs ++ take (n - length p) q) (take_all (length p) p (omega arith)) ∙ sym (take-past p q n (omega arith))

pub take-both : (n : ℕ) (p q : List ℕ) → take n p ++ take (n - length (take n p)) q ≡ take n (p ++ q)
take-both n p q =
    let e = length-take n p in
    let c = min n (length p) in
    (λ i. sym (take_min n p) i ++ take (n - e i) q)
    ∙ take-parts c n p q (omega arith) (omega arith) (λ l. omega (arith, l))

-- a slot goes whole
module _ (m n : Map) (x : Slice) (rest : List Slice) (held : Holds m (x ∷ rest)) (t : Turns m (x ∷ []) n []) where
  pub gone-turns : Turns m (x ∷ rest) n rest
  gone-turns = turns-before m n (x ∷ []) [] rest held t

  gone-same : all_read n rest ≡ all_read m rest
  gone-same = read-before m n (x ∷ []) [] rest held t

  pub gone-read : (k : ℕ) → x.len ≤ k → drop (k - x.len) (all_read n rest) ≡ drop k (all_read m (x ∷ rest))
  gone-read k l =
      let e : length (reads m x) ≡ x.len = length-reads m x held.lie.0 in
      ap (drop (k - x.len)) gone-same ∙ ap (λ j. drop (k - j) (all_read m rest)) (sym e) ∙ sym (drop-past k (reads m x) (all_read m rest) (omega (arith, e, l)))

pub drop-whole : (k : ℕ) (x : Slice) (rest : List Slice) → x.len ≤ k → drop_bytes (k - x.len) rest ≡ drop_bytes k (x ∷ rest)
drop-whole k x rest l = ap (λ b. if b then drop_bytes (k - x.len) rest else cut_front k x ∷ rest) (sym (le-leb x.len k l))

pub drop-part : (k : ℕ) (x : Slice) (rest : List Slice) → k < x.len → drop_bytes k (x ∷ rest) ≡ cut_front k x ∷ rest
drop-part k x rest l = ap (λ b. if b then drop_bytes (k - x.len) rest else cut_front k x ∷ rest) (lt-leb x.len k l)

-- a slot goes in part
module _ (m : Map) (x : Slice) (rest : List Slice) (k : ℕ) (l : k < x.len) (lie : AllLie m (x ∷ rest)) where
  pub part-turns : Turns m (x ∷ rest) m (cut_front k x ∷ rest)
  part-turns = record { counted = λ key. refl; kept = λ key h. begins-same _ _ refl; lie = (lies-cut_front m x k (omega arith) lie.0, lie.1) }

  pub part-read : all_read m (cut_front k x ∷ rest) ≡ drop k (all_read m (x ∷ rest))
  part-read =
      let e : length (reads m x) ≡ x.len = length-reads m x lie.0 in
      ap (λ bs. bs ++ all_read m rest) (reads-cut_front m x k (omega arith)) ∙ sym (drop-append-le k (reads m x) (all_read m rest) (omega (arith, e)))

-- slots keep their bytes
pub solid-drop : (xs : List Slice) (k : ℕ) → AllSolid xs → AllSolid (drop_bytes k xs)
solid-drop [] k s = tt
solid-drop (x ∷ xs) k s = elim (leb_tells x.len k) as (λ _. AllSolid (drop_bytes k (x ∷ xs))) [
  | inl e ↦ subst AllSolid (drop-whole k x xs e.1) (solid-drop xs (k - x.len) s.1)
  | inr e ↦ let part : AllSolid (cut_front k x ∷ xs) = (omega (arith, e.1), s.1) in subst AllSolid (sym (drop-part k x xs e.1)) part
]

pub total-drop : (xs : List Slice) (k : ℕ) → k ≤ total xs → total (drop_bytes k xs) + k ≡ total xs
total-drop [] k l = omega arith
total-drop (x ∷ xs) k l = elim (leb_tells x.len k) as (λ _. total (drop_bytes k (x ∷ xs)) + k ≡ x.len + total xs) [
  | inl e ↦ let r = total-drop xs (k - x.len) (omega (arith, e.1, l)) in let s : total (drop_bytes (k - x.len) xs) ≡ total (drop_bytes k (x ∷ xs)) = ap total (drop-whole k x xs e.1) in omega (arith, r, s, e.1)
  | inr e ↦ let s : total (drop_bytes k (x ∷ xs)) ≡ (x.len - k) + total xs = ap total (drop-part k x xs e.1) in omega (arith, s, e.1)
]

-- the slices of the first bytes, step by step
pub front-whole : (k : ℕ) (x : Slice) (rest : List Slice) → x.len < k → front_of k (x ∷ rest) ≡ x ∷ front_of (k - x.len) rest
front-whole k x rest l = ap (λ b. if b then x ∷ front_of (k - x.len) rest else (if nat_eq k 0 then [] else cut_end k x ∷ [])) (lt-ltb x.len k l)

pub front-part : (k : ℕ) (x : Slice) (rest : List Slice) → k ≤ x.len → k ≢ 0 → front_of k (x ∷ rest) ≡ cut_end k x ∷ []
front-part k x rest l n = ap (λ b. if b then x ∷ front_of (k - x.len) rest else (if nat_eq k 0 then [] else cut_end k x ∷ [])) (le-ltb x.len k l) ∙ ap (λ b. if b then [] else cut_end k x ∷ []) (ne_eqb k 0 n)

pub front-none : (xs : List Slice) → front_of 0 xs ≡ []
front-none [] = refl
front-none (x ∷ rest) = ap (λ b. if b then x ∷ front_of (0 - x.len) rest else (if nat_eq 0 0 then [] else cut_end 0 x ∷ [])) (le-ltb x.len 0 (omega arith))

-- they lie where the slots do, read the first bytes, and have as many
pub front-lie : (m : Map) (xs : List Slice) (k : ℕ) → AllLie m xs → AllLie m (front_of k xs)
front-lie m [] k lie = tt
front-lie m (x ∷ xs) k lie =
    let r = front-lie m xs (k - x.len) lie.1 in
    elim (cases_lt x.len k) as (λ _. AllLie m (front_of k (x ∷ xs))) [
      | inl l ↦ let p : AllLie m (x ∷ front_of (k - x.len) xs) = (lie.0, r) in subst (AllLie m) (sym (front-whole k x xs l)) p
      | inr l ↦ elim (eqb_tells k 0) as (λ _. AllLie m (front_of k (x ∷ xs))) [
        | inl e ↦ subst (λ j. AllLie m (front_of j (x ∷ xs))) (sym e.1) (subst (AllLie m) (sym (front-none (x ∷ xs))) tt)
        | inr e ↦ let p : AllLie m (cut_end k x ∷ []) = (lies-cut_end m x k l lie.0, tt) in subst (AllLie m) (sym (front-part k x xs l e.1)) p
      ]
    ]

pub front-read : (m : Map) (xs : List Slice) (k : ℕ) → AllLie m xs → all_read m (front_of k xs) ≡ take k (all_read m xs)
front-read m [] zero lie = refl
front-read m [] (suc k) lie = refl
front-read m (x ∷ xs) k lie =
    let r = front-read m xs (k - x.len) lie.1 in
    let e : length (reads m x) ≡ x.len = length-reads m x lie.0 in
    elim (cases_lt x.len k) as (λ _. all_read m (front_of k (x ∷ xs)) ≡ take k (all_read m (x ∷ xs))) [
      | inl l ↦
          ap (all_read m) (front-whole k x xs l) ∙ ap (λ bs. reads m x ++ bs) r ∙ ap (λ j. reads m x ++ take (k - j) (all_read m xs)) (sym e)
          ∙ sym (take-past (reads m x) (all_read m xs) k (omega (arith, e, l)))
      | inr l ↦ elim (eqb_tells k 0) as (λ _. all_read m (front_of k (x ∷ xs)) ≡ take k (all_read m (x ∷ xs))) [
        | inl z ↦ ap (λ j. all_read m (front_of j (x ∷ xs))) z.1 ∙ ap (all_read m) (front-none (x ∷ xs)) ∙ ap (λ j. take j (all_read m (x ∷ xs))) (sym z.1)
        | inr z ↦ ap (all_read m) (front-part k x xs l z.1) ∙ append-nil (reads m (cut_end k x)) ∙ reads-cut_end m x k l ∙ sym (take-append-le k (reads m x) (all_read m xs) (omega (arith, e, l)))
      ]
    ]

pub front-total : (xs : List Slice) (k : ℕ) → k ≤ total xs → total (front_of k xs) ≡ k
front-total [] k l = omega arith
front-total (x ∷ xs) k l = elim (cases_lt x.len k) as (λ _. total (front_of k (x ∷ xs)) ≡ k) [
  | inl h ↦ let r = front-total xs (k - x.len) (omega (arith, h, l)) in ap total (front-whole k x xs h) ∙ (let e : x.len + total (front_of (k - x.len) xs) ≡ k = omega (arith, r, h) in e)
  | inr h ↦ elim (eqb_tells k 0) as (λ _. total (front_of k (x ∷ xs)) ≡ k) [
    | inl z ↦ ap (λ j. total (front_of j (x ∷ xs))) z.1 ∙ ap total (front-none (x ∷ xs)) ∙ sym z.1
    | inr z ↦ ap total (front-part k x xs h z.1) ∙ (let e : k + 0 ≡ k = omega arith in e)
  ]
]

-- of the first slots and others
pub front-append : (k : ℕ) (xs ys : List Slice) → front_of k (xs ++ ys) ≡ front_of k xs ++ front_of (k - total xs) ys
front-append k [] ys = ap (λ j. front_of j ys) (let e : k ≡ k - 0 = omega arith in e)
front-append k (x ∷ xs) ys =
    let r = front-append (k - x.len) xs ys in
    elim (cases_lt x.len k) as (λ _. front_of k (x ∷ (xs ++ ys)) ≡ front_of k (x ∷ xs) ++ front_of (k - (x.len + total xs)) ys) [
      | inl l ↦
          front-whole k x (xs ++ ys) l ∙ ap (λ zs. x ∷ zs) r
          ∙ ap (λ j. (x ∷ front_of (k - x.len) xs) ++ front_of j ys) (let e : k - x.len - total xs ≡ k - (x.len + total xs) = omega arith in e)
          ∙ ap (λ zs. zs ++ front_of (k - (x.len + total xs)) ys) (sym (front-whole k x xs l))
      | inr l ↦
          let none : front_of (k - (x.len + total xs)) ys ≡ [] = ap (λ j. front_of j ys) (let e : k - (x.len + total xs) ≡ 0 = omega arith in e) ∙ front-none ys in
          elim (eqb_tells k 0) as (λ _. front_of k (x ∷ (xs ++ ys)) ≡ front_of k (x ∷ xs) ++ front_of (k - (x.len + total xs)) ys) [
            | inl z ↦
                ap (λ j. front_of j (x ∷ (xs ++ ys))) z.1 ∙ front-none (x ∷ (xs ++ ys)) ∙ sym (front-none (x ∷ xs)) ∙ ap (λ j. front_of j (x ∷ xs)) (sym z.1)
                ∙ sym (append-nil (front_of k (x ∷ xs))) ∙ ap (λ zs. front_of k (x ∷ xs) ++ zs) (sym none)
            | inr z ↦
                front-part k x (xs ++ ys) l z.1 ∙ sym (front-part k x xs l z.1) ∙ sym (append-nil (front_of k (x ∷ xs))) ∙ ap (λ zs. front_of k (x ∷ xs) ++ zs) (sym none)
          ]
    ]

-- nothing goes
pub drop-none : (xs : List Slice) → AllSolid xs → drop_bytes 0 xs ≡ xs
drop-none [] s = refl
drop-none (x ∷ xs) s = drop-part 0 x xs s.0 ∙ (let f : x.from + 0 ≡ x.from = omega arith in let e : x.len - 0 ≡ x.len = omega arith in (λ i. record { segment = x.segment; from = f i; len = e i } ∷ xs))

-- the front of slots that aren't empty has none that is
pub front-solid : (xs : List Slice) (k : ℕ) → AllSolid xs → AllSolid (front_of k xs)
front-solid [] k s = tt
front-solid (x ∷ xs) k s =
    let r = front-solid xs (k - x.len) s.1 in
    elim (cases_lt x.len k) as (λ _. AllSolid (front_of k (x ∷ xs))) [
      | inl l ↦ let p : AllSolid (x ∷ front_of (k - x.len) xs) = (s.0, r) in subst AllSolid (sym (front-whole k x xs l)) p
      | inr l ↦ elim (eqb_tells k 0) as (λ _. AllSolid (front_of k (x ∷ xs))) [
        | inl e ↦ subst (λ j. AllSolid (front_of j (x ∷ xs))) (sym e.1) (subst AllSolid (sym (front-none (x ∷ xs))) tt)
        | inr e ↦ let n = e.1 in let p : AllSolid (cut_end k x ∷ []) = (omega (arith, n), tt) in subst AllSolid (sym (front-part k x xs l n)) p
      ]
    ]

-- all goes
pub drop-all : (xs : List Slice) → drop_bytes (total xs) xs ≡ []
drop-all [] = refl
drop-all (x ∷ xs) =
    let e : (x.len + total xs) - x.len ≡ total xs = omega arith in
    sym (drop-whole (x.len + total xs) x xs (omega arith)) ∙ ap (λ k. drop_bytes k xs) e ∙ drop-all xs
