-- What the front of a ring makes after other slots: of its slices the first two and the last alone may become one with what stands before them.
use Rattle.std.proofs.Common.{◌≡◌, ℕ, ◌+◌, ◌-◌, ◌*◌, ◌<◌, ◌≤◌, Bool, true, false, List, [], ◌∷◌, ◌++◌, refl, sym, ◌∙◌, ap, subst, length, arith, inl, inr, take, drop, slice_index_or}
use Rattle.std.proofs.Math.Seq.{take-append_seam, drop-append_seam}
use Rattle.std.proofs.lemmas.List.{length_push}
use Rattle.std.proofs.lemmas.Bool.{cases_lt}
use Rattle.std.proofs.lemmas.Bool.Decides.{eqb_tells}
use Rattle.pl_segments.specs.declared.slice.Slice.{Slice}
use Rattle.pl_segments.specs.Slots.{total, AllSolid, solid_of, front_of}
use Rattle.pl_segments.proofs.Fronting.{front-whole, front-part, front-none, front-solid}
use Rattle.pl_ring.specs.Merging.{lens, AreMerged, joins, merges, IsFront}
use Rattle.pl_ring.proofs.Merging.{AreCut, joins-long, merges-no, merges-yes, solid-same, cut-front}
use Rattle.pl_ring.proofs.Placing.{lens-append, length-lens}

-- one slice more: how many slots there are after it, and how long the last is at least
record Stepped (count last x : ℕ) : Type 0 where
  pub slots : ℕ
  pub last' : ℕ
  pub long : x ≤ last'
  pub merges : (rest : List ℕ) → merges count last (x ∷ rest) + slots ≡ merges slots last' rest + (count + 1)

step : (count last x : ℕ) → Stepped count last x
step count last x = by (joins count last x) refl
  where
    by : (b : Bool) → joins count last x ≡ b → Stepped count last x
    by true e = record {
      slots = count;
      last' = last + x;
      long = omega arith;
      merges = λ rest. let y = merges-yes count last x rest e in omega (arith, y);
    }
    by false e = record {
      slots = count + 1;
      last' = x;
      long = omega arith;
      merges = λ rest. let n = merges-no count last x rest e in omega (arith, n);
    }

-- the last of some numbers, or another one where there are none
abbrev pub final : ℕ → List ℕ → ℕ
final d [] = d
final d (x ∷ xs) = final x xs

-- where neighbours don't fit one segment, none becomes one with what stands before it, but the last one may
middle : (ys : List ℕ) (y z count last p : ℕ) → p ≤ last → AreCut (p ∷ y ∷ (ys ++ z ∷ [])) → merges count last (y ∷ (ys ++ z ∷ [])) ≡ merges (count + length (y ∷ ys)) (final y ys) (z ∷ [])
middle [] y z count last p l c =
    let long = c.0 in
    merges-no count last y (z ∷ []) (joins-long count last y (omega (arith, long, l)))
middle (x ∷ ys) y z count last p l c =
    let long = c.0 in
    merges-no count last y (x ∷ (ys ++ z ∷ [])) (joins-long count last y (omega (arith, long, l)))
    ∙ middle ys x z (count + 1) y y (omega arith) c.1
    ∙ ap (λ k. merges k (final x ys) (z ∷ [])) (let e : count + 1 + length (x ∷ ys) ≡ count + length (y ∷ x ∷ ys) = omega arith in e)

-- so two plans make one
pub two-plans : (ys : List ℕ) (a b y z count last : ℕ) → AreCut (b ∷ y ∷ (ys ++ z ∷ []))
    → merges count last (a ∷ b ∷ y ∷ (ys ++ z ∷ [])) ≡ merges count last (a ∷ b ∷ []) + merges (count + 2 - merges count last (a ∷ b ∷ []) + length (y ∷ ys)) (final y ys) (z ∷ [])
two-plans ys a b y z count last cut =
    let s = step count last a in
    let t = step s.slots s.last' b in
    let rest = y ∷ (ys ++ z ∷ []) in
    let s_all = s.merges (b ∷ rest) in
    let t_all = t.merges rest in
    let s_two = s.merges (b ∷ []) in
    let t_two = t.merges [] in
    let m = middle ys y z t.slots t.last' b t.long cut in
    let head = merges count last (a ∷ b ∷ []) in
    let slots : t.slots ≡ count + 2 - head = omega (arith, s_two, t_two) in
    let all : merges count last (a ∷ b ∷ rest) ≡ head + merges t.slots t.last' rest = omega (arith, s_all, t_all, s_two, t_two) in
    all ∙ ap (λ k. head + k) (m ∙ ap (λ k. merges (k + length (y ∷ ys)) (final y ys) (z ∷ [])) slots)

-- what follows the first
abbrev after_first : List Slice → List Slice
after_first [] = []
after_first (x ∷ xs) = xs

-- the front of a ring, but for its first slice, stands so
pub front-cut : (xs : List Slice) (k : ℕ) (x : Slice) (ys : List Slice) → AreMerged (lens xs) → x ∷ ys ≡ front_of k xs → AreCut (lens ys)
front-cut [] k x ys m e = absurd (cc)
front-cut (z ∷ xs) k x ys m e = elim (cases_lt z.len k) as (λ _. AreCut (lens ys)) [
  | inl l ↦ subst (λ zs. AreCut (lens zs)) (sym (ap after_first (e ∙ front-whole k z xs l))) (cut-front xs (k - z.len) m)
  | inr l ↦ elim (eqb_tells k 0) as (λ _. AreCut (lens ys)) [
    | inl o ↦ let none : x ∷ ys ≡ [] = e ∙ ap (λ j. front_of j (z ∷ xs)) o.1 ∙ front-none (z ∷ xs) in absurd (cc)
    | inr o ↦ subst (λ zs. AreCut (lens zs)) (sym (ap after_first (e ∙ front-part k z xs l o.1))) tt
  ]
]

-- slices, the last of them apart
last-apart : (x : Slice) (xs : List Slice) → (ys : List Slice) × (z : Slice) × (x ∷ xs ≡ ys ++ z ∷ [])
last-apart x [] = ([], x, refl)
last-apart x (y ∷ xs) = let i = last-apart y xs in (x ∷ i.0, i.1, ap (λ zs. x ∷ zs) i.2)

last-solid : (ys : List Slice) (z : Slice) → AllSolid (ys ++ z ∷ []) → 1 ≤ z.len
last-solid [] z s = s.0
last-solid (y ∷ ys) z s = last-solid ys z s.1

at-last : (y : Slice) (ys : List Slice) (d : Slice) → (slice_index_or (y ∷ ys) (length ys) d).len ≡ final y.len (lens ys)
at-last y [] d = refl
at-last y (x ∷ ys) d = at-last x ys d

-- what stands in slices, and their last, is at most what all have
parts-few : (y : Slice) (ys : List Slice) (z : Slice) → AllSolid (y ∷ (ys ++ z ∷ [])) → length (y ∷ ys) + final y.len (lens ys) + 2 * z.len ≤ 2 * total (y ∷ (ys ++ z ∷ []))
parts-few y [] z s = let l = s.0 in omega (arith, l)
parts-few y (x ∷ ys) z s = let l = s.0 in let r = parts-few x ys z s.1 in omega (arith, l, r)

-- how the slices of the front of a ring are planned in two parts, and what stands between them
pub record InParts (slices : List Slice) (count last : ℕ) (d : Slice) (head mid end : List Slice) : Type 0 where
  pub merges : merges count last (lens (solid_of slices)) ≡ merges count last (lens (solid_of head)) + merges (count + 2 - merges count last (lens (solid_of head)) + length mid) (slice_index_or mid (length mid - 1) d).len (lens (solid_of end))
  pub all : length (solid_of slices) ≡ length mid + 3
  pub first : length (solid_of head) ≡ 2
  pub one : length (solid_of end) ≡ 1
  pub begins : total head ≤ total slices
  pub few : length mid + (slice_index_or mid (length mid - 1) d).len + 2 * total end ≤ 2 * total slices

pub in-parts : (slices : List Slice) (count last : ℕ) (d : Slice) → IsFront slices → 3 < length slices
    → InParts slices count last d (take 2 slices) (take (length (drop 2 slices) - 1) (drop 2 slices)) (drop (length (drop 2 slices) - 1) (drop 2 slices))
in-parts [] count last d f l = omega (arith, l)
in-parts (a ∷ []) count last d f l = omega (arith, l)
in-parts (a ∷ b ∷ []) count last d f l = omega (arith, l)
in-parts (a ∷ b ∷ y ∷ []) count last d f l = omega (arith, l)
in-parts (a ∷ b ∷ y ∷ w ∷ r) count last d f l =
    let i = last-apart w r in
    let ys = i.0 in
    let z = i.1 in
    let shape : y ∷ w ∷ r ≡ y ∷ (ys ++ z ∷ []) = ap (λ zs. y ∷ zs) i.2 in
    let solid : AllSolid (a ∷ b ∷ y ∷ w ∷ r) = subst AllSolid (sym f.is) (front-solid f.source f.count f.solid) in
    let rest_solid : AllSolid (y ∷ (ys ++ z ∷ [])) = subst AllSolid shape solid.1.1 in
    let z_some = last-solid (y ∷ ys) z rest_solid in
    let n : length (y ∷ w ∷ r) - 1 ≡ length (y ∷ ys) = (let p = length_push (y ∷ ys) z in let q = ap length shape in omega (arith, p, q)) in
    let mid : take (length (y ∷ w ∷ r) - 1) (y ∷ w ∷ r) ≡ y ∷ ys = (λ j. take (n j) (shape j)) ∙ take-append_seam (y ∷ ys) (z ∷ []) in
    let end : drop (length (y ∷ w ∷ r) - 1) (y ∷ w ∷ r) ≡ z ∷ [] = (λ j. drop (n j) (shape j)) ∙ drop-append_seam (y ∷ ys) (z ∷ []) in
    let all_lens : lens (y ∷ w ∷ r) ≡ y.len ∷ (lens ys ++ z.len ∷ []) = ap lens shape ∙ ap (λ ns. y.len ∷ ns) (lens-append ys (z ∷ [])) in
    let cut : AreCut (b.len ∷ y.len ∷ (lens ys ++ z.len ∷ [])) = subst (λ ns. AreCut (b.len ∷ ns)) all_lens (front-cut f.source f.count a (b ∷ y ∷ w ∷ r) f.merged f.is) in
    let plans = two-plans (lens ys) a.len b.len y.len z.len count last cut in
    let whole : lens (solid_of (a ∷ b ∷ y ∷ w ∷ r)) ≡ a.len ∷ b.len ∷ y.len ∷ (lens ys ++ z.len ∷ []) = ap lens (solid-same (a ∷ b ∷ y ∷ w ∷ r) solid) ∙ ap (λ ns. a.len ∷ b.len ∷ ns) all_lens in
    let heads : solid_of (a ∷ b ∷ []) ≡ a ∷ b ∷ [] = solid-same (a ∷ b ∷ []) (solid.0, (solid.1.0, tt)) in
    let ends : solid_of (z ∷ []) ≡ z ∷ [] = solid-same (z ∷ []) (z_some, tt) in
    let long : length (y ∷ ys) ≡ length (y.len ∷ lens ys) = (let g = length-lens ys in omega (arith, g)) in
    let at_end : (slice_index_or (y ∷ ys) (length (y ∷ ys) - 1) d).len ≡ final y.len (lens ys) =
    ap (λ k. (slice_index_or (y ∷ ys) k d).len) (let e : length (y ∷ ys) - 1 ≡ length ys = omega arith in e) ∙ at-last y ys d in
    let is : InParts (a ∷ b ∷ y ∷ w ∷ r) count last d (a ∷ b ∷ []) (y ∷ ys) (z ∷ []) = record {
      merges =
          ap (merges count last) whole ∙ plans
          ∙ (λ j. merges count last (lens (sym heads j)) + merges (count + 2 - merges count last (lens (sym heads j)) + sym long j) (sym at_end j) (lens (sym ends j)));
      all = (let e = ap length (solid-same (a ∷ b ∷ y ∷ w ∷ r) solid) in let p = length_push (y ∷ ys) z in let q = ap length shape in omega (arith, e, p, q));
      first = ap length heads;
      one = ap length ends;
      begins = omega arith;
      few = (let p = parts-few y ys z rest_solid in let e = ap total shape in omega (arith, p, at_end, e));
    } in
    subst (λ ms. InParts (a ∷ b ∷ y ∷ w ∷ r) count last d (a ∷ b ∷ []) ms (drop (length (y ∷ w ∷ r) - 1) (y ∷ w ∷ r))) (sym mid) (subst (InParts (a ∷ b ∷ y ∷ w ∷ r) count last d (a ∷ b ∷ []) (y ∷ ys)) (sym end) is)
