-- A file's slots as some of them are replaced: what is made beforehand leaves them alone, and what goes afterwards leaves the rest.
use Rattle.std.proofs.Common.{◌≡◌, ℕ, zero, suc, ◌+◌, ◌-◌, ◌<◌, ◌≤◌, List, [], ◌∷◌, ◌++◌, refl, sym, ◌∙◌, ap, subst, inl, inr, length, take, drop, arith}
use Rattle.std.specs.Prelude.{replicate, max, Option, None, Some}
use Rattle.std.proofs.lemmas.Bool.Decides.{leb_tells}
use Rattle.std.proofs.lemmas.List.{append-nil, append_assoc, take-append-drop, take-take, take_all, length-append, length-take, length-drop, length-replicate}
use Rattle.pl_model.specs.Numbers.{most_file_bytes}
use Rattle.pl_segments.specs.declared.slice.Slice.{Slice}
use Rattle.pl_segments.specs.Segments.{segment_size, Segment, Map, at, bytes_in, holders, IsGood, AreGood}
use Rattle.pl_segments.specs.Slices.{Lies, reads, all_read, AllLie, naming}
use Rattle.pl_segments.specs.Turns.{Holds, Turns}
use Rattle.pl_segments.specs.Slots.{total, AllSolid, solid_of, drop_bytes}
use Rattle.pl_segments.proofs.Changing.{length-reads}
use Rattle.pl_segments.proofs.Turning.{naming-append, read-append, lie-append, lie-left, lie-right, turns-then, holds-turned, others-lie, others-read}
use Rattle.pl_segments.proofs.SlotLemmas.{total-read, total-append, total-solid, solid-append, solid-left, solid-right}
use Rattle.pl_segments.proofs.Fronting.{drop-past, drop-whole, drop-part, part-read, part-turns, total-drop}
use Rattle.pl_segments.proofs.Pushing.{pushes-turns, lies-still}
use Rattle.pl_segments.proofs.Together.{holds-left, holds-right}
use Rattle.pl_file.specs.Rows.{AllWithin}
use Rattle.pl_file.specs.File.{written}
use Rattle.pl_file.specs.Written.{Becomes, IsFile}
use Rattle.pl_file.proofs.Placed.{total-parts}
use Rattle.pl_file.proofs.Patching.{solid-some, all-still}

-- the slots behind the first bytes lie where all do, and read the bytes behind
pub lie-drop : (m : Map) (xs : List Slice) (k : ℕ) → AllLie m xs → AllLie m (drop_bytes k xs)
lie-drop m [] k lie = tt
lie-drop m (x ∷ xs) k lie = elim (leb_tells x.len k) as (λ _. AllLie m (drop_bytes k (x ∷ xs))) [
  | inl e ↦ subst (AllLie m) (drop-whole k x xs e.1) (lie-drop m xs (k - x.len) lie.1)
  | inr e ↦ subst (AllLie m) (sym (drop-part k x xs e.1)) (part-turns m x xs k e.1 lie).lie
]

drop-none : (k : ℕ) → drop {A = ℕ} k [] ≡ []
drop-none zero = refl
drop-none (suc k) = refl

drop-over : (k : ℕ) (xs : List ℕ) → length xs ≤ k → drop k xs ≡ []
drop-over k [] l = drop-none k
drop-over zero (x ∷ xs) l = absurd (omega (arith, l))
drop-over (suc k) (x ∷ xs) l = drop-over k xs (omega (arith, l))

pub drop-read : (m : Map) (xs : List Slice) (k : ℕ) → AllLie m xs → all_read m (drop_bytes k xs) ≡ drop k (all_read m xs)
drop-read m [] k lie = sym (drop-none k)
drop-read m (x ∷ xs) k lie =
    let long : length (reads m x) ≡ x.len = length-reads m x lie.0 in
    elim (leb_tells x.len k) as (λ _. all_read m (drop_bytes k (x ∷ xs)) ≡ drop k (all_read m (x ∷ xs))) [
      | inl e ↦
          ap (all_read m) (sym (drop-whole k x xs e.1)) ∙ drop-read m xs (k - x.len) lie.1
          ∙ ap (λ j. drop (k - j) (all_read m xs)) (sym long) ∙ sym (drop-past k (reads m x) (all_read m xs) (let l = e.1 in omega (arith, l, long)))
      | inr e ↦ ap (all_read m) (drop-part k x xs e.1) ∙ part-read m x xs k e.1 lie
    ]

-- slots up to a place have no more bytes than those up to a later one
pub total-take : (xs : List Slice) (i j : ℕ) → i ≤ j → total (take i xs) ≤ total (take j xs)
total-take [] zero j l = omega arith
total-take [] (suc i) j l = omega arith
total-take (x ∷ xs) zero j l = omega arith
total-take (x ∷ xs) (suc i) zero l = absurd (omega (arith, l))
total-take (x ∷ xs) (suc i) (suc j) l = let r = total-take xs i j (omega (arith, l)) in omega (arith, r)

-- where there are bytes there are slots
pub total-some : (xs : List Slice) → 1 ≤ total xs → 1 ≤ length xs
total-some [] l = absurd (omega (arith, l))
total-some (x ∷ xs) l = omega arith

-- no more slots than bytes
pub solid-length : (xs : List Slice) → AllSolid xs → length xs ≤ total xs
solid-length [] s = omega arith
solid-length (x ∷ xs) s = let r = solid-length xs s.1 in let h = s.0 in omega (arith, r, h)

pub naming-length : (xs : List Slice) (key : ℕ) → naming xs key ≤ length xs
naming-length [] key = omega arith
naming-length (x ∷ xs) key = let r = naming-length xs key in let o = naming-one x key in omega (arith, r, o)
  where
    naming-one : (x : Slice) (key : ℕ) → naming (x ∷ []) key ≤ 1
    naming-one x key = grind arith

-- slots in three parts
pub in-three : (xs : List Slice) (f e : ℕ) → f ≤ e → take f xs ++ (drop f (take e xs) ++ drop e xs) ≡ xs
in-three xs f e l =
    ap (λ ys. ys ++ (drop f (take e xs) ++ drop e xs)) (sym (take-take f e xs l))
    ∙ sym (append_assoc (take f (take e xs)) (drop f (take e xs)) (drop e xs))
    ∙ ap (λ ys. ys ++ drop e xs) (take-append-drop f (take e xs))
    ∙ take-append-drop e xs

-- a part that isn't empty is one slot
pub one-lies : (m : Map) (part : Slice) → AllLie m (solid_of (part ∷ [])) → 1 ≤ part.len → Lies m part
one-lies m part lie some = (subst (AllLie m) (solid-some part (λ z. absurd (omega (arith, z, some)))) lie).0

-- what is made beforehand
module _ (m n : Map) (xs ps : List Slice) (held : Holds m xs) (t : Turns m [] n ps) where
  pub made-turns : Turns m xs n (xs ++ ps)
  made-turns = pushes-turns m n xs ps held t

  pub made-held : Holds n (xs ++ ps)
  made-held = holds-turned m n xs (xs ++ ps) held made-turns

module _ (m n : Map) (ps : List Slice) (t : Turns m [] n ps) where
  pub still-lie : (zs : List Slice) → AllLie m zs → AllLie n zs
  still-lie [] lie = tt
  still-lie (z ∷ zs) lie = (lies-still m n ps t z lie.0, still-lie zs lie.1)

  pub still-few : (key : ℕ) → holders n key ≤ holders m key + length ps
  still-few key = let c = t.counted key in let l = naming-length ps key in omega (arith, c, l)

-- what goes afterwards
module _ (m n : Map) (xs ps : List Slice) (f e : ℕ) (order : f ≤ e) (held : Holds m (xs ++ ps)) where
  abbrev pub before : List Slice
  before = take f xs

  abbrev pub span : List Slice
  span = drop f (take e xs)

  abbrev pub after : List Slice
  after = drop e xs

  named : (key : ℕ) → naming (xs ++ ps) key ≡ naming before key + (naming span key + naming after key) + naming ps key
  named key =
      naming-append xs ps key
      ∙ ap (λ zs. naming zs key + naming ps key) (sym (in-three xs f e order))
      ∙ ap (λ k. k + naming ps key) (naming-append before (span ++ after) key ∙ ap (λ k. naming before key + k) (naming-append span after key))

  named-new : (key : ℕ) → naming (before ++ (ps ++ after)) key ≡ naming before key + (naming ps key + naming after key)
  named-new key = naming-append before (ps ++ after) key ∙ ap (λ k. naming before key + k) (naming-append ps after key)

  apart : Holds m (before ++ (span ++ after))
  apart = subst (Holds m) (sym (in-three xs f e order)) (holds-left m xs ps held)

  pub span-held : Holds m span
  span-held = holds-left m span after (holds-right m before (span ++ after) apart)

  stay-lie : AllLie m (before ++ (ps ++ after))
  stay-lie =
      lie-append m before (ps ++ after) (lie-left m before (span ++ after) apart.lie)
      (lie-append m ps after (lie-right m xs ps held.lie) (lie-right m span after (lie-right m before (span ++ after) apart.lie)))

  module _ (t : Turns m span n []) where
    few : (key : ℕ) → naming span key + naming (before ++ (ps ++ after)) key ≤ holders m key
    few key = let h = held.few key in let a = named key in let b = named-new key in omega (arith, h, a, b)

    pub gone-turns : Turns m (xs ++ ps) n (before ++ (ps ++ after))
    gone-turns = record {
      counted = λ key. let c = t.counted key in let a = named key in let b = named-new key in omega (arith, c, a, b);
      kept = λ key l. t.kept key (let a = named key in omega (arith, l, a));
      lie = others-lie m n span [] t (before ++ (ps ++ after)) few stay-lie;
    }

    pub gone-read : all_read n (before ++ (ps ++ after)) ≡ all_read m before ++ (all_read m ps ++ all_read m after)
    gone-read =
        others-read m n span [] t (before ++ (ps ++ after)) few stay-lie
        ∙ read-append m before (ps ++ after)
        ∙ ap (λ bs. all_read m before ++ bs) (read-append m ps after)

-- a slot that is put in the place of others
pub change-solid : (xs ps : List Slice) (f e : ℕ) → AllSolid xs → AllSolid ps → AllSolid (take f xs ++ (ps ++ drop e xs))
change-solid xs ps f e s t =
    solid-append (take f xs) (ps ++ drop e xs) (solid-left (take f xs) (drop f xs) (subst AllSolid (sym (take-append-drop f xs)) s))
    (solid-append ps (drop e xs) t (solid-right (take e xs) (drop e xs) (subst AllSolid (sym (take-append-drop e xs)) s)))

-- lists put together in another order
pub put-read : (front one bytes part whole all : List ℕ) → all ≡ (one ++ bytes) ++ part → front ++ one ≡ whole → front ++ all ≡ (whole ++ bytes) ++ part
put-read front one bytes part whole all a w =
    ap (λ bs. front ++ bs) a ∙ sym (append_assoc front (one ++ bytes) part)
    ∙ ap (λ bs. bs ++ part) (sym (append_assoc front one bytes) ∙ ap (λ bs. bs ++ bytes) w)

-- the meaning of a write of some bytes
pub written-some : (place : ℕ) (bytes old : List ℕ) → 1 ≤ length bytes → written place bytes old ≡ take place old ++ (replicate (place - length old) 0 ++ (bytes ++ drop (place + length bytes) old))
written-some place [] old l = absurd (omega (arith, l))
written-some place (b ∷ bytes) old l = refl

-- it is no longer than it was, or reaches to the end of what is written
pub written-length : (place : ℕ) (bytes old : List ℕ) → 1 ≤ length bytes → length (written place bytes old) ≤ max (length old) (place + length bytes)
written-length place bytes old some =
    let w = ap length (written-some place bytes old some) in
    let zeros = replicate (place - length old) 0 in
    let rest = drop (place + length bytes) old in
    let a = length-append (take place old) (zeros ++ (bytes ++ rest)) in
    let b = length-append zeros (bytes ++ rest) in
    let c = length-append bytes rest in
    let t = length-take place old in
    let z : length zeros ≡ place - length old = length-replicate (place - length old) (zero) in
    let d = length-drop (place + length bytes) old in
    omega (arith, w, a, b, c, t, z, d)

-- of no bytes it is nothing
pub written-none : (place : ℕ) (bytes old : List ℕ) → length bytes ≡ 0 → written place bytes old ≡ old
written-none place [] old e = refl
written-none place (b ∷ bytes) old e = absurd (omega (arith, e))

-- at the end it is an addition
pub written-end : (place : ℕ) (bytes old : List ℕ) → 1 ≤ length bytes → place ≡ length old → written place bytes old ≡ old ++ bytes
written-end place bytes old some e =
    let none : drop (place + length bytes) old ≡ [] = drop-over (place + length bytes) old (omega (arith, e)) in
    written-some place bytes old some
    ∙ (λ i. take_all place old (omega (arith, e)) i ++ (replicate (no-gap i) 0 ++ (bytes ++ none i)))
    ∙ ap (λ bs. old ++ bs) (append-nil bytes)
  where
    no-gap : place - length old ≡ 0
    no-gap = omega (arith, e)

-- slots that lie in segments end within them
pub lie-within : (held : List (Option Segment)) (xs : List Slice) → AreGood held → AllLie (at held) xs → AllWithin xs
lie-within held [] good lie = tt
lie-within held (x ∷ xs) good lie = (one (at held x.segment) (good.good x.segment) lie.0.within, lie-within held xs good lie.1)
  where
    one : (o : Option Segment) → IsGood o → x.from + x.len ≤ length (bytes_in o) → x.from + x.len ≤ segment_size
    one None g l = omega (arith, l)
    one (Some s) g l = let m = g.1 in omega (arith, l, m)

-- the cut behind what is put in
module _ (xs : List Slice) (e k : ℕ) (part : Slice) (rest : drop_bytes k xs ≡ solid_of (part ∷ []) ++ drop e xs) where
  pub part-total : total (solid_of (part ∷ [])) ≡ part.len
  part-total = let t = total-solid (part ∷ []) in omega (arith, t)

  -- where slots stay behind it, it ends where they start
  pub rest-ends : (e < length xs → k < total (take e xs)) → e < length xs → k + part.len ≡ total (take e xs)
  rest-ends starts l =
      let s = starts l in
      let all = total-parts e xs in
      let d = total-drop xs k (omega (arith, s, all)) in
      let a : total (drop_bytes k xs) ≡ total (solid_of (part ∷ [])) + total (drop e xs) = ap total rest ∙ total-append (solid_of (part ∷ [])) (drop e xs) in
      let p = part-total in
      omega (arith, s, all, d, a, p)

  pub part-most : part.len ≤ total xs
  part-most =
      let a : total (drop_bytes k xs) ≡ total (solid_of (part ∷ [])) + total (drop e xs) = ap total rest ∙ total-append (solid_of (part ∷ [])) (drop e xs) in
      let p = part-total in
      let d = total-drop-le xs k in
      omega (arith, a, p, d)
    where
      total-drop-le : (xs : List Slice) (k : ℕ) → total (drop_bytes k xs) ≤ total xs
      total-drop-le [] k = omega arith
      total-drop-le (x ∷ xs) k = elim (leb_tells x.len k) as (λ _. total (drop_bytes k (x ∷ xs)) ≤ x.len + total xs) [
        | inl e ↦ let r = total-drop-le xs (k - x.len) in let s : total (drop_bytes (k - x.len) xs) ≡ total (drop_bytes k (x ∷ xs)) = ap total (drop-whole k x xs e.1) in omega (arith, r, s)
        | inr e ↦ let s : total (drop_bytes k (x ∷ xs)) ≡ (x.len - k) + total xs = ap total (drop-part k x xs e.1) in omega (arith, s)
      ]

  -- the part lies where the slots do
  pub part-lies : (m : Map) → AllLie m xs → AllLie m (solid_of (part ∷ []))
  part-lies m lie = lie-left m (solid_of (part ∷ [])) (drop e xs) (subst (AllLie m) rest (lie-drop m xs k lie))

  pub part-lies-some : (m : Map) → AllLie m xs → 1 ≤ part.len → Lies m part
  part-lies-some m lie some = one-lies m part (part-lies m lie) some

-- the whole of a change: the patch made, then put in the place of what goes
module _ (m0 m n : Map) (xs ps ys : List Slice) (f e place : ℕ) (part : Slice) (bytes : List ℕ) (held : Holds m0 xs) (t : Turns m0 [] m ps)
    (rest : drop_bytes (place + length bytes) xs ≡ solid_of (part ∷ []) ++ drop e xs) (some : 1 ≤ length bytes)
    (read : all_read m0 (take f xs) ++ all_read m ps ≡ ((take place (all_read m0 xs) ++ replicate (place - total xs) 0) ++ bytes) ++ all_read m0 (solid_of (part ∷ [])))
    (u : Turns m (xs ++ ps) n ys) (r : all_read n ys ≡ all_read m (take f xs) ++ (all_read m ps ++ all_read m (drop e xs))) where
  pub change-turns : Turns m0 xs n ys
  change-turns = turns-then m0 m n xs (xs ++ ps) ys (made-turns m0 m xs ps held t) u

  abbrev pub old : List ℕ
  old = all_read m0 xs

  front-lie0 : AllLie m0 (take f xs)
  front-lie0 = lie-left m0 (take f xs) (drop f xs) (subst (AllLie m0) (sym (take-append-drop f xs)) held.lie)

  after-lie0 : AllLie m0 (drop e xs)
  after-lie0 = lie-right m0 (take e xs) (drop e xs) (subst (AllLie m0) (sym (take-append-drop e xs)) held.lie)

  rest-read : all_read m0 (solid_of (part ∷ [])) ++ all_read m0 (drop e xs) ≡ drop (place + length bytes) old
  rest-read = sym (read-append m0 (solid_of (part ∷ [])) (drop e xs)) ∙ ap (all_read m0) (sym rest) ∙ drop-read m0 xs (place + length bytes) held.lie

  pub change-read : all_read n ys ≡ written place bytes old
  change-read =
      let zeros = replicate (place - total xs) 0 in
      let tail = all_read m0 (drop e xs) in
      let cut = all_read m0 (solid_of (part ∷ [])) in
      r
      ∙ (λ i. all-still m0 m ps t (take f xs) front-lie0 i ++ (all_read m ps ++ all-still m0 m ps t (drop e xs) after-lie0 i))
      ∙ sym (append_assoc (all_read m0 (take f xs)) (all_read m ps) tail)
      ∙ ap (λ bs. bs ++ tail) read
      ∙ append_assoc ((take place old ++ zeros) ++ bytes) cut tail
      ∙ ap (λ bs. ((take place old ++ zeros) ++ bytes) ++ bs) rest-read
      ∙ append_assoc (take place old ++ zeros) bytes (drop (place + length bytes) old)
      ∙ append_assoc (take place old) zeros (bytes ++ drop (place + length bytes) old)
      ∙ ap (λ k. take place old ++ (replicate (place - k) 0 ++ (bytes ++ drop (place + length bytes) old))) (sym (total-read m0 xs held.lie))
      ∙ sym (written-some place bytes old some)

  pub change-most : (most : ℕ) → total xs ≤ most → place + length bytes ≤ most → AllLie n ys → total ys ≤ most
  change-most most l k lie =
      let t = total-read n ys lie in
      let w = ap length change-read in
      let long = written-length place bytes old some in
      let o = total-read m0 xs held.lie in
      omega (arith, l, k, t, w, long, o)

  pub change-becomes : Becomes m0 xs n ys (written place bytes old)
  change-becomes = record { turns = change-turns; read = change-read }

  pub change-file : total xs ≤ most_file_bytes → place + length bytes ≤ most_file_bytes → AllSolid ys → AllWithin ys → IsFile n ys
  change-file l k solid within = record {
    held = holds-turned m0 n xs ys held change-turns;
    solid = solid;
    within = within;
    most = change-most most_file_bytes l k u.lie;
  }
