-- Slots that are put behind others, and become one with the last where they go on there.
use Rattle.std.proofs.Common.{◌≡◌, ℕ, ◌+◌, ◌-◌, ◌≤◌, true, false, List, [], ◌∷◌, ◌++◌, refl, sym, ◌∙◌, ap, inl, inr, nat_eq, length, take, drop, arith}
use Rattle.std.specs.Prelude.{◌⊎◌, if◌then◌else◌}
use Rattle.std.proofs.lemmas.Bool.{cases_lt}
use Rattle.std.proofs.lemmas.Bool.Decides.{eqb_tells}
use Rattle.std.proofs.lemmas.List.{append-nil, append_assoc, take-append-drop, take_at, drop_at, length-append}
use Rattle.pl_segments.specs.declared.slice.Slice.{Slice}
use Rattle.pl_segments.specs.Segments.{Map, filled}
use Rattle.pl_segments.specs.Slices.{Lies, AllLie, reads, all_read, naming, longer_by}
use Rattle.pl_segments.specs.Slots.{total, AllSolid, solid_of, cut_front}
use Rattle.pl_segments.specs.Turns.{Holds, Turns}
use Rattle.pl_segments.proofs.Turning.{naming-append, lie-append, lie-left, lie-right, read-append}
use Rattle.pl_segments.proofs.SlotLemmas.{reads-cut_front, reads-cut_end}
use Rattle.pl_file.specs.Joined.{goes_on, goes_from, goes_behind, behind_from, one_behind, joined, between}

-- what it means that a slice goes on where another ends
pub record Goes (x y : Slice) : Type 0 where
  pub segment : x.segment ≡ y.segment
  pub from : x.from + x.len ≡ y.from

pub goes-tells : (x y : Slice) → ((goes_on x y ≡ true) × Goes x y) ⊎ (goes_on x y ≡ false)
goes-tells x y = elim (eqb_tells x.segment y.segment) as (λ _. ((goes_on x y ≡ true) × Goes x y) ⊎ (goes_on x y ≡ false)) [
  | inl s ↦ elim (eqb_tells (x.from + x.len) y.from) as (λ _. ((goes_on x y ≡ true) × Goes x y) ⊎ (goes_on x y ≡ false)) [
    | inl f ↦ inl ((λ i. if s.0 i then f.0 i else false), record { segment = s.1; from = f.1 })
    | inr f ↦ inr (λ i. if s.0 i then f.0 i else false)
  ]
  | inr s ↦ inr (ap (λ b. if b then nat_eq (x.from + x.len) y.from else false) s.0)
]

pub goes-means : (x y : Slice) → goes_on x y ≡ true → Goes x y
goes-means x y e = elim (goes-tells x y) as (λ _. Goes x y) [
  | inl g ↦ g.1
  | inr f ↦ absurd (cc (e, f))
]

-- the last of some slots
pub goes-last : (front : List Slice) (x y : Slice) → goes_behind (front ++ x ∷ []) y ≡ goes_on x y
goes-last [] x y = refl
goes-last (z ∷ zs) x y = by z zs
  where
    by : (z : Slice) (zs : List Slice) → goes_from z (zs ++ x ∷ []) y ≡ goes_on x y
    by z [] = refl
    by z (w ∷ ws) = by w ws

pub behind-last : (front : List Slice) (x y : Slice) → one_behind (front ++ x ∷ []) y ≡ front ++ (if goes_on x y then longer_by y.len x ∷ [] else x ∷ y ∷ [])
behind-last [] x y = refl
behind-last (z ∷ zs) x y = by z zs
  where
    by : (z : Slice) (zs : List Slice) → behind_from z (zs ++ x ∷ []) y ≡ z ∷ (zs ++ (if goes_on x y then longer_by y.len x ∷ [] else x ∷ y ∷ []))
    by z [] = refl
    by z (w ∷ ws) = ap (λ ys. z ∷ ys) (by w ws)

-- where it doesn't go on there, it stands behind
pub behind-apart : (xs : List Slice) (y : Slice) → goes_behind xs y ≡ false → one_behind xs y ≡ xs ++ y ∷ []
behind-apart [] y e = refl
behind-apart (x ∷ xs) y e = by x xs e
  where
    by : (x : Slice) (xs : List Slice) → goes_from x xs y ≡ false → behind_from x xs y ≡ x ∷ (xs ++ y ∷ [])
    by x [] e = ap (λ b. if b then longer_by y.len x ∷ [] else x ∷ y ∷ []) e
    by x (z ∷ zs) e = ap (λ ys. x ∷ ys) (by z zs e)

-- and where it does, the last is longer
pub behind-one : (front : List Slice) (x y : Slice) → goes_on x y ≡ true → one_behind (front ++ x ∷ []) y ≡ front ++ longer_by y.len x ∷ []
behind-one front x y e = behind-last front x y ∙ ap (λ b. front ++ (if b then longer_by y.len x ∷ [] else x ∷ y ∷ [])) e

-- both as one slice
module _ (x y : Slice) (goes : Goes x y) where
  rest-is : cut_front x.len (longer_by y.len x) ≡ y
  rest-is = λ i. record { segment = goes.segment i; from = goes.from i; len = (let e : x.len + y.len - x.len ≡ y.len = omega arith in e i) }

  pub one-lies : (m : Map) → Lies m x → Lies m y → Lies m (longer_by y.len x)
  one-lies m a b = record {
    here = a.here;
    within =
        let w = b.within in
        let s = ap (λ k. length (filled m k)) goes.segment in
        let f = goes.from in
        omega (arith, w, s, f);
  }

  pub one-reads : (m : Map) → reads m (longer_by y.len x) ≡ reads m x ++ reads m y
  one-reads m =
      let z = longer_by y.len x in
      sym (take-append-drop x.len (reads m z))
      ∙ (λ i. sym (reads-cut_end m z x.len (omega arith)) i ++ sym (reads-cut_front m z x.len (omega arith)) i)
      ∙ ap (λ s. reads m x ++ reads m s) rest-is

-- what holds of a slice behind others
pub naming-behind : (xs : List Slice) (y : Slice) (key : ℕ) → naming (one_behind xs y) key ≤ naming xs key + naming (y ∷ []) key
naming-behind [] y key = omega arith
naming-behind (x ∷ xs) y key = by x xs
  where
    by : (x : Slice) (xs : List Slice) → naming (behind_from x xs y) key ≤ naming (x ∷ xs) key + naming (y ∷ []) key
    by x [] = elim (goes_on x y) as (λ b. naming (if b then longer_by y.len x ∷ [] else x ∷ y ∷ []) key ≤ naming (x ∷ []) key + naming (y ∷ []) key) [
      | true ↦ omega arith
      | false ↦ omega arith
    ]
    by x (z ∷ zs) = let r = by z zs in omega (arith, r)

total-behind : (xs : List Slice) (y : Slice) → total (one_behind xs y) ≡ total xs + y.len
total-behind [] y = omega arith
total-behind (x ∷ xs) y = by x xs
  where
    by : (x : Slice) (xs : List Slice) → total (behind_from x xs y) ≡ total (x ∷ xs) + y.len
    by x [] = elim (goes_on x y) as (λ b. total (if b then longer_by y.len x ∷ [] else x ∷ y ∷ []) ≡ total (x ∷ []) + y.len) [
      | true ↦ omega arith
      | false ↦ omega arith
    ]
    by x (z ∷ zs) = let r = by z zs in omega (arith, r)

length-behind : (xs : List Slice) (y : Slice) → (length xs ≤ length (one_behind xs y)) × (length (one_behind xs y) ≤ length xs + 1)
length-behind [] y = (omega arith, omega arith)
length-behind (x ∷ xs) y = by x xs
  where
    by : (x : Slice) (xs : List Slice) → (length (x ∷ xs) ≤ length (behind_from x xs y)) × (length (behind_from x xs y) ≤ length (x ∷ xs) + 1)
    by x [] = elim (goes_on x y) as (λ b. (length (x ∷ []) ≤ length (if b then longer_by y.len x ∷ [] else x ∷ y ∷ [])) × (length (if b then longer_by y.len x ∷ [] else x ∷ y ∷ []) ≤ length (x ∷ []) + 1)) [
      | true ↦ (omega arith, omega arith)
      | false ↦ (omega arith, omega arith)
    ]
    by x (z ∷ zs) = let r = by z zs in (let a = r.0 in omega (arith, a), let b = r.1 in omega (arith, b))

solid-behind : (xs : List Slice) (y : Slice) → AllSolid xs → 1 ≤ y.len → AllSolid (one_behind xs y)
solid-behind [] y s l = (l, tt)
solid-behind (x ∷ xs) y s l = by x xs s
  where
    by : (x : Slice) (xs : List Slice) → AllSolid (x ∷ xs) → AllSolid (behind_from x xs y)
    by x [] s = elim (goes_on x y) as (λ b. AllSolid (if b then longer_by y.len x ∷ [] else x ∷ y ∷ [])) [
      | true ↦ (let a = s.0 in omega (arith, a), tt)
      | false ↦ (s.0, (l, tt))
    ]
    by x (z ∷ zs) s = (s.0, by z zs s.1)

-- one slice alone
pub joined-one : (x : Slice) → joined [] (solid_of (x ∷ [])) ≡ solid_of (x ∷ [])
joined-one x = elim (nat_eq x.len 0) as (λ b. joined [] (if b then [] else x ∷ []) ≡ (if b then [] else x ∷ [])) [
  | true ↦ refl
  | false ↦ refl
]

-- and of slices behind others
pub joined-append : (xs ys zs : List Slice) → joined xs (ys ++ zs) ≡ joined (joined xs ys) zs
joined-append xs [] zs = refl
joined-append xs (y ∷ ys) zs = joined-append (one_behind xs y) ys zs

pub naming-joined : (xs ys : List Slice) (key : ℕ) → naming (joined xs ys) key ≤ naming xs key + naming ys key
naming-joined xs [] key = omega arith
naming-joined xs (y ∷ ys) key =
    let r = naming-joined (one_behind xs y) ys key in
    let o = naming-behind xs y key in
    omega (arith, r, o)

pub total-joined : (xs ys : List Slice) → total (joined xs ys) ≡ total xs + total ys
total-joined xs [] = omega arith
total-joined xs (y ∷ ys) = let r = total-joined (one_behind xs y) ys in let o = total-behind xs y in omega (arith, r, o)

pub length-joined : (xs ys : List Slice) → (length xs ≤ length (joined xs ys)) × (length (joined xs ys) ≤ length xs + length ys)
length-joined xs [] = (omega arith, omega arith)
length-joined xs (y ∷ ys) =
    let r = length-joined (one_behind xs y) ys in
    let o = length-behind xs y in
    let a = r.0 in
    let b = r.1 in
    let c = o.0 in
    let d = o.1 in
    (omega (arith, a, c), omega (arith, b, d))

pub solid-joined : (xs ys : List Slice) → AllSolid xs → AllSolid ys → AllSolid (joined xs ys)
solid-joined xs [] s t = s
solid-joined xs (y ∷ ys) s t = solid-joined (one_behind xs y) ys (solid-behind xs y s t.0) t.1

-- a last slot that becomes longer by what goes on there names what it did
module _ (m : Map) (front : List Slice) (x y : Slice) (goes : Goes x y) (held : Holds m (front ++ x ∷ [])) (lies : Lies m y) where
  longer-names : (key : ℕ) → naming (front ++ longer_by y.len x ∷ []) key ≡ naming (front ++ x ∷ []) key
  longer-names key = naming-append front (longer_by y.len x ∷ []) key ∙ sym (naming-append front (x ∷ []) key)

  longer-lie : AllLie m (front ++ longer_by y.len x ∷ [])
  longer-lie =
      lie-append m front (longer_by y.len x ∷ []) (lie-left m front (x ∷ []) held.lie)
      (one-lies x y goes m (lie-right m front (x ∷ []) held.lie).0 lies, tt)

  pub longer-turns : Turns m (front ++ x ∷ []) m (front ++ longer_by y.len x ∷ [])
  longer-turns = record {
    counted = λ key. (let e = longer-names key in omega (arith, e));
    kept = λ key l. record { more = []; is = sym (append-nil (filled m key)) };
    lie = longer-lie;
  }

  pub longer-read : all_read m (front ++ longer_by y.len x ∷ []) ≡ all_read m (front ++ x ∷ []) ++ all_read m (y ∷ [])
  longer-read =
      read-append m front (longer_by y.len x ∷ [])
      ∙ ap (λ bs. all_read m front ++ bs) (append-nil (reads m (longer_by y.len x)) ∙ one-reads x y goes m)
      ∙ sym (append_assoc (all_read m front) (reads m x) (reads m y))
      ∙ (λ i. (all_read m front ++ sym (append-nil (reads m x)) i) ++ sym (append-nil (reads m y)) i)
      ∙ ap (λ bs. bs ++ all_read m (y ∷ [])) (sym (read-append m front (x ∷ [])))

-- slots between others, by their parts
pub between-is : (front one new part rest before after : List Slice) → before ≡ front ++ one → length one ≤ 1 → (1 ≤ length before → 1 ≤ length one)
    → after ≡ part ++ rest → length part ≤ 1 → (1 ≤ length rest → 1 ≤ length part) → between before new after ≡ front ++ (joined one (new ++ part) ++ rest)
between-is front one new part rest before after e few some f few2 some2 =
    let n = ap length e in
    let a = length-append front one in
    let k : length front ≡ length before - 1 = by (length front) (length one) (length before) n a few some in
    let t : take (length before - 1) before ≡ front = ap (take (length before - 1)) e ∙ take_at front one (length before - 1) k in
    let d : drop (length before - 1) before ≡ one = ap (drop (length before - 1)) e ∙ drop_at front one (length before - 1) k in
    let u = split part rest few2 some2 in
    (λ i. t i ++ (joined (d i) (new ++ take 1 (f i)) ++ drop 1 (f i)))
    ∙ (λ i. front ++ (joined one (new ++ u.0 i) ++ u.1 i))
  where
    by : (a b c : ℕ) → c ≡ length (front ++ one) → length (front ++ one) ≡ a + b → b ≤ 1 → (1 ≤ c → 1 ≤ b) → a ≡ c - 1
    by a b c n s few some = elim (cases_lt c 1) as (λ _. a ≡ c - 1) [
      | inl l ↦ omega (arith, n, s, l)
      | inr l ↦ let h = some l in omega (arith, n, s, few, h)
    ]

    split : (ps rs : List Slice) → length ps ≤ 1 → (1 ≤ length rs → 1 ≤ length ps) → (take 1 (ps ++ rs) ≡ ps) × (drop 1 (ps ++ rs) ≡ rs)
    split [] [] l some = (refl, refl)
    split [] (r ∷ rs) l some = absurd (let s : 1 ≤ 0 = some (omega arith) in omega (arith, s))
    split (p ∷ []) rs l some = (refl, refl)
    split (p ∷ q ∷ ps) rs l some = absurd (omega (arith, l))

-- a file names no more with slices between its slots than its slots and the slices do
pub naming-between : (before new after : List Slice) (key : ℕ) → naming (between before new after) key ≤ naming before key + naming new key + naming after key
naming-between before new after key =
    let k = length before - 1 in
    let a = naming-append (take k before) (joined (drop k before) (new ++ take 1 after) ++ drop 1 after) key in
    let b = naming-append (joined (drop k before) (new ++ take 1 after)) (drop 1 after) key in
    let c = naming-joined (drop k before) (new ++ take 1 after) key in
    let d = naming-append new (take 1 after) key in
    let e = sym (naming-append (take k before) (drop k before) key) ∙ ap (λ xs. naming xs key) (take-append-drop k before) in
    let f = sym (naming-append (take 1 after) (drop 1 after) key) ∙ ap (λ xs. naming xs key) (take-append-drop 1 after) in
    omega (arith, a, b, c, d, e, f)
