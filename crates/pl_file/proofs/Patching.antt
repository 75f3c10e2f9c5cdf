-- Slots that are put into a file, and slots that leave it.
use Rattle.std.proofs.Common.{◌≡◌, ◌≢◌, ℕ, ◌+◌, ◌-◌, ◌<◌, ◌≤◌, true, false, List, [], ◌∷◌, ◌++◌, Some, refl, sym, ◌∙◌, ap, subst, inl, inr, nat_eq, length, take, drop, min, arith}
use Rattle.std.specs.Prelude.{if◌then◌else◌, slice_get, replicate}
use Rattle.std.proofs.lemmas.Bool.{eq-eqb, ne_eqb, cases_lt}
use Rattle.std.proofs.lemmas.Bool.Decides.{eqb_tells}
use Rattle.std.proofs.lemmas.List.{append-nil, append_assoc, length_push, length-take, length-append, length-replicate, take-append-drop, drop_more, get_or-take, take-replicate, replicate-append-replicate}
use Rattle.std.proofs.lemmas.Option.{slice_get_within, get_or_from_slice_get}
use Rattle.pl_segments.specs.declared.slice.Slice.{Slice}
use Rattle.pl_segments.specs.Segments.{Map}
use Rattle.pl_segments.specs.Slices.{Lies, AllLie, reads, all_read}
use Rattle.pl_segments.specs.Turns.{Holds, Turns}
use Rattle.pl_segments.specs.Slots.{total, AllSolid, solid_of, front_of, cut_end, last_len}
use Rattle.pl_segments.proofs.Changing.{length-reads}
use Rattle.pl_segments.proofs.Turning.{turns-same, turns-then, holds-turned, read-append}
use Rattle.pl_file.specs.Joined.{joined}
use Rattle.pl_file.proofs.Joining.{joined-append}
use Rattle.pl_segments.proofs.SlotLemmas.{total-append, solid-append, lies-cut_end, reads-cut_end}
use Rattle.pl_segments.proofs.Pushing.{push-turns, push-read, pushes-turns, lies-still, reads-still, reads-empty}
use Rattle.pl_segments.proofs.Fronting.{front-whole, front-part, front-none, front-lie, front-read}

-- a slot, and those behind it
pub from-got : (xs : List Slice) (i n : ℕ) (x : Slice) → slice_get xs i ≡ Some x → i < n → drop i (take n xs) ≡ x ∷ drop (i + 1) (take n xs)
from-got xs i n x e l =
    let here = slice_get_within xs i x e in
    let len = length-take n xs in
    drop_more (take n xs) i x (omega (arith, here, len, l))
    ∙ ap (λ y. y ∷ drop (i + 1) (take n xs)) (get_or-take n xs i x l ∙ get_or_from_slice_get xs i x x e)

-- where the last slot has bytes there is one
pub last-there : (xs : List Slice) → last_len xs ≢ 0 → 1 ≤ length xs
last-there [] n = absurd (n refl)
last-there (x ∷ xs) n = omega arith

-- one slot more
module _ (xs zs : List Slice) (x : Slice) (shape : zs ≡ xs ++ x ∷ []) where
  pub added-solid : AllSolid xs → 1 ≤ x.len → AllSolid zs
  added-solid s l = subst AllSolid (sym shape) (solid-append xs (x ∷ []) s (l, tt))

  pub added-total : total zs ≡ total xs + x.len
  added-total = let a = ap total shape in let b = total-append xs (x ∷ []) in omega (arith, a, b)

  pub added-length : length zs ≡ length xs + 1
  added-length = ap length shape ∙ length_push xs x

-- one slot more, which holds its segment
module _ (m n : Map) (xs zs : List Slice) (x : Slice) (bytes : List ℕ) (held : Holds m xs) (t : Turns m [] n (x ∷ [])) (shape : zs ≡ xs ++ x ∷ []) where
  pub added-turns : Turns m xs n zs
  added-turns = subst (Turns m xs n) (sym shape) (push-turns m n xs x bytes held t)

  pub added-read : reads n x ≡ bytes → all_read n zs ≡ all_read m xs ++ bytes
  added-read r = ap (all_read n) shape ∙ push-read m n xs x bytes held t r

-- a slot is held beside others
module _ (m n : Map) (xs : List Slice) (x : Slice) (held : Holds m xs) (t : Turns m [] n (x ∷ [])) where
  pub beside-held : Holds n (xs ++ x ∷ [])
  beside-held = holds-turned m n xs (xs ++ x ∷ []) held (push-turns m n xs x [] held t)

  -- and then all of them become others
  module _ (o : Map) (zs : List Slice) (u : Turns n (xs ++ x ∷ []) o zs) where
    pub beside-turns : Turns m xs o zs
    beside-turns = turns-then m n o xs (xs ++ x ∷ []) zs (push-turns m n xs x [] held t) u

    pub beside-read : (bytes : List ℕ) → reads n x ≡ bytes → all_read o zs ≡ all_read n (xs ++ x ∷ []) → all_read o zs ≡ all_read m xs ++ bytes
    beside-read bytes r s = s ∙ push-read m n xs x bytes held t r

-- a slice alone, where it has bytes and where it has none
pub solid-some : (x : Slice) → x.len ≢ 0 → solid_of (x ∷ []) ≡ x ∷ []
solid-some x n = ap (λ b. if b then [] else x ∷ []) (ne_eqb x.len 0 n)

pub solid-none : (x : Slice) → x.len ≡ 0 → solid_of (x ∷ []) ≡ []
solid-none x e = ap (λ b. if b then [] else x ∷ []) (eq-eqb x.len 0 e)

pub solid-one : (x : Slice) → length (solid_of (x ∷ [])) ≤ 1
solid-one x = elim (nat_eq x.len 0) as (λ b. length (if b then [] else x ∷ []) ≤ 1) [
  | true ↦ omega arith
  | false ↦ omega arith
]

pub solid-first : (x : Slice) (xs : List Slice) → solid_of (x ∷ xs) ≡ solid_of (x ∷ []) ++ solid_of xs
solid-first x xs = elim (nat_eq x.len 0) as (λ b. (if b then solid_of xs else x ∷ solid_of xs) ≡ (if b then [] else x ∷ []) ++ solid_of xs) [
  | true ↦ refl
  | false ↦ refl
]

-- slices but those of no bytes lie where they did, and read the same
solid-lie : (m : Map) (xs : List Slice) → AllLie m xs → AllLie m (solid_of xs)
solid-lie m [] lie = tt
solid-lie m (x ∷ xs) lie =
    let r = solid-lie m xs lie.1 in
    elim (nat_eq x.len 0) as (λ b. AllLie m (if b then solid_of xs else x ∷ solid_of xs)) [
      | true ↦ r
      | false ↦ (lie.0, r)
    ]

solid-read : (m : Map) (xs : List Slice) → all_read m (solid_of xs) ≡ all_read m xs
solid-read m [] = refl
solid-read m (x ∷ xs) =
    let r = solid-read m xs in
    elim (eqb_tells x.len 0) as (λ _. all_read m (solid_of (x ∷ xs)) ≡ reads m x ++ all_read m xs) [
      | inl e ↦ ap (λ b. all_read m (if b then solid_of xs else x ∷ solid_of xs)) e.0 ∙ r ∙ ap (λ bs. bs ++ all_read m xs) (sym (reads-empty m x e.1))
      | inr e ↦ ap (λ b. all_read m (if b then solid_of xs else x ∷ solid_of xs)) e.0 ∙ ap (λ bs. reads m x ++ bs) r
    ]

-- the slices of the first bytes, but those of no bytes
pub solid-lies : (m : Map) (x : Slice) → Lies m x → AllLie m (solid_of (x ∷ []))
solid-lies m x lies = solid-lie m (x ∷ []) (lies, tt)

pub asked-lie : (m : Map) (k : ℕ) (xs : List Slice) → AllLie m xs → AllLie m (solid_of (front_of k xs))
asked-lie m k xs lie = solid-lie m (front_of k xs) (front-lie m xs k lie)

pub asked-read : (m : Map) (k : ℕ) (xs : List Slice) → AllLie m xs → all_read m (solid_of (front_of k xs)) ≡ take k (all_read m xs)
asked-read m k xs lie = solid-read m (front_of k xs) ∙ front-read m xs k lie

-- slices read the same, where nothing is let go
pub all-still : (m n : Map) (ys : List Slice) → Turns m [] n ys → (xs : List Slice) → AllLie m xs → all_read n xs ≡ all_read m xs
all-still m n ys t [] lie = refl
all-still m n ys t (x ∷ xs) lie = (λ i. reads-still m n ys t x lie.0 i ++ all-still m n ys t xs lie.1 i)

-- the next of the slices of the first bytes, and those behind it
pub front-step : (k n : ℕ) (x : Slice) (rest : List Slice) → k ≢ 0 → n ≡ min k x.len → solid_of (front_of k (x ∷ rest)) ≡ solid_of (cut_end n x ∷ []) ++ solid_of (front_of (k - n) rest)
front-step k n x rest some is = elim (cases_lt x.len k) as (λ _. solid_of (front_of k (x ∷ rest)) ≡ solid_of (cut_end n x ∷ []) ++ solid_of (front_of (k - n) rest)) [
  | inl l ↦
      let e : x.len ≡ n = omega (arith, l, is) in
      ap solid_of (front-whole k x rest l) ∙ solid-first x (front_of (k - x.len) rest) ∙ ap (λ j. solid_of (cut_end j x ∷ []) ++ solid_of (front_of (k - j) rest)) e
  | inr l ↦
      let e : k ≡ n = omega (arith, l, is) in
      let z : k - n ≡ 0 = omega (arith, e) in
      ap solid_of (front-part k x rest l some) ∙ ap (λ j. solid_of (cut_end j x ∷ [])) e
      ∙ sym (append-nil (solid_of (cut_end n x ∷ [])))
      ∙ ap (λ zs. solid_of (cut_end n x ∷ []) ++ zs) (sym (ap (λ j. solid_of (front_of j rest)) z ∙ ap solid_of (front-none rest)))
]

-- Slots are put behind others: what is added so far, and what is still to come, is what was asked.
pub record Putting (m0 m : Map) (old now asked rest : List Slice) : Type 0 where
  pub added : List Slice
  pub held : List Slice
  pub shape : now ≡ joined old added
  pub whole : added ++ rest ≡ asked
  pub turns : Turns m0 old m now
  pub holding : Turns m0 [] m held
  pub read : all_read m now ≡ all_read m0 old ++ all_read m0 added

pub putting-first : (m : Map) (old asked : List Slice) → Holds m old → Putting m m old old asked asked
putting-first m old asked h = record {
  added = [];
  held = [];
  shape = refl;
  whole = refl;
  turns = turns-same m old h.lie;
  holding = turns-same m [] tt;
  read = sym (append-nil (all_read m old));
}

module _ {m0 m : Map} {old now asked rest : List Slice} (p : Putting m0 m old now asked rest) where
  pub putting-lies : (x : Slice) → Lies m0 x → Lies m x
  putting-lies = lies-still m0 m p.held p.holding

  pub putting-next : (n : Map) (ys zs more more_held : List Slice) → rest ≡ ys ++ more → zs ≡ joined now ys → Turns m now n zs → Turns m [] n more_held →
      AllLie m0 ys → all_read n zs ≡ all_read m now ++ all_read m ys → Putting m0 n old zs asked more
  putting-next n ys zs more more_held split shape t h lie read =
      let none : Holds m0 [] = record { lie = tt; few = λ key. omega arith } in
      record {
        added = p.added ++ ys;
        held = p.held ++ more_held;
        shape = shape ∙ ap (λ zs. joined zs ys) p.shape ∙ sym (joined-append old p.added ys);
        whole = append_assoc p.added ys more ∙ ap (λ bs. p.added ++ bs) (sym split) ∙ p.whole;
        turns = turns-then m0 m n old now zs p.turns t;
        holding = turns-then m0 m n [] p.held (p.held ++ more_held) p.holding (pushes-turns m n p.held more_held (holds-turned m0 m [] p.held none p.holding) h);
        read = read
            ∙ (λ i. p.read i ++ all-still m0 m p.held p.holding ys lie i)
            ∙ append_assoc (all_read m0 old) (all_read m0 p.added) (all_read m0 ys)
            ∙ ap (λ bs. all_read m0 old ++ bs) (sym (read-append m0 p.added ys));
      }

  pub putting-turns : Turns m0 old m now
  putting-turns = p.turns

  module _ (end : rest ≡ []) where
    all_added : p.added ≡ asked
    all_added = sym (append-nil p.added) ∙ ap (λ zs. p.added ++ zs) (sym end) ∙ p.whole

    pub putting-slots : now ≡ joined old asked
    putting-slots = p.shape ∙ ap (joined old) all_added

    pub putting-read : all_read m now ≡ all_read m0 old ++ all_read m0 asked
    putting-read = p.read ∙ ap (λ zs. all_read m0 old ++ all_read m0 zs) all_added

-- parts of a slice that reads as zeros
module _ (m : Map) (zeros : Slice) (lies : Lies m zeros) (all : reads m zeros ≡ replicate zeros.len 0) (n : ℕ) (l : n ≤ zeros.len) where
  pub zeros-lie : Lies m (cut_end n zeros)
  zeros-lie = lies-cut_end m zeros n l lies

  pub zeros-read : reads m (cut_end n zeros) ≡ replicate n 0
  zeros-read = reads-cut_end m zeros n l ∙ ap (take n) all ∙ take-replicate n zeros.len 0 l

-- zeros in two parts
pub zeros-parts : (n j k : ℕ) → n + j ≡ k → ◌++◌ {A = ℕ} (replicate n 0) (replicate j 0) ≡ replicate k 0
zeros-parts n j k e = replicate-append-replicate n j 0 ∙ ap (λ i. replicate i 0) e

-- how long a slice is, by what it reads
pub read-len : (m : Map) (x : Slice) (bytes : List ℕ) → Lies m x → reads m x ≡ bytes → x.len ≡ length bytes
read-len m x bytes lies r = sym (length-reads m x lies) ∙ ap length r

pub zeros-len : (m : Map) (x : Slice) (n : ℕ) → Lies m x → reads m x ≡ replicate n 0 → x.len ≡ n
zeros-len m x n lies r = read-len m x (replicate n 0) lies r ∙ length-replicate n 0

-- bytes in two parts
module _ (n : ℕ) (bytes front back : List ℕ) (f : front ≡ take n bytes) (b : back ≡ drop n bytes) where
  pub parts-whole : front ++ back ≡ bytes
  parts-whole = (λ i. f i ++ b i) ∙ take-append-drop n bytes

  pub parts-front : length front ≡ min n (length bytes)
  parts-front = ap length f ∙ length-take n bytes

  pub parts-length : length front + length back ≡ length bytes
  parts-length = sym (length-append front back) ∙ ap length parts-whole

-- what is read after two parts were added, one after the other
pub reads-on : (now mid old front back bytes : List ℕ) → now ≡ mid ++ back → mid ≡ old ++ front → front ++ back ≡ bytes → now ≡ old ++ bytes
reads-on now mid old front back bytes r s w = r ∙ ap (λ bs. bs ++ back) s ∙ append_assoc old front back ∙ ap (λ bs. old ++ bs) w
