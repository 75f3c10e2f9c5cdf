-- Slots, and slices that are still to be pushed behind them.
use Rattle.std.proofs.Common.{◌≡◌, ◌≢◌, ℕ, ◌+◌, ◌-◌, ◌<◌, ◌≤◌, Bool, true, false, List, [], ◌∷◌, ◌++◌, refl, sym, ◌∙◌, ap, subst, get_or, drop, length, count_by, arith}
use Rattle.std.specs.Prelude.{if◌then◌else◌, min, max}
use Rattle.std.proofs.lemmas.Bool.{eq-eqb, ne_eqb}
use Rattle.std.proofs.lemmas.List.{append-nil, append_assoc, drop_more, drop_all}
use Rattle.circular_buffer.specs.Buffer.{Buffer, buffer}
use Rattle.pl_segments.specs.declared.slice.Slice.{Slice}
use Rattle.pl_segments.specs.Segments.{Map, Segments, segment_at, live_count}
use Rattle.pl_segments.specs.Slices.{all_read, one_if}
use Rattle.pl_segments.specs.Turns.{Holds, Turns}
use Rattle.pl_segments.proofs.Turning.{read-append, turns-then, turns-same, holds-turned, turns-before, read-before}
use Rattle.pl_segments.specs.Slots.{total, AllSolid, solid_of, last_len, ends_in_part}
use Rattle.pl_ring.specs.Merging.{lens, joins, joining, merges, merges_onto}
use Rattle.pl_ring.specs.Pushed.{AreOfRing, TookIn, PushedOne}
use Rattle.pl_segments.proofs.SlotLemmas.{no_slice, total-append, total-read}
use Rattle.pl_segments.proofs.Together.{holds-left}
use Rattle.pl_segments.proofs.LastSlot.{part-most}
use Rattle.pl_ring.proofs.Placing.{joining-most}
use Rattle.pl_ring.proofs.Counting.{count-append}

-- How many segments slices may take as they are pushed: one for each that becomes one with what stands before it, or one for each that
-- doesn't, and so is copied later once at most, one for the last slot if it is a part of its segment, and one to append by.
abbrev pub takes : Map → List Slice → List Slice → ℕ
takes m xs ds = min (merges_onto xs (lens ds)) (length ds + 1 + ends_in_part m xs - merges_onto xs (lens ds))

-- no more become one than there are
pub merges-few : (count last : ℕ) (ds : List Slice) → merges count last (lens ds) ≤ length ds
merges-few count last [] = omega arith
merges-few count last (x ∷ ds) = by (joins count last x.len) (merges-few count (last + x.len) ds) (merges-few (count + 1) x.len ds)
  where
    by : (b : Bool) → merges count (last + x.len) (lens ds) ≤ length ds → merges (count + 1) x.len (lens ds) ≤ length ds
        → (if b then 1 + merges count (last + x.len) (lens ds) else merges (count + 1) x.len (lens ds)) ≤ length (x ∷ ds)
    by true l r = omega (arith, l)
    by false l r = omega (arith, r)

-- Slots xs0 with slices ds0 became slots xs with slices ds, and the merges that are left were all counted.
pub record Underway (m0 : Map) (xs0 ds0 : List Slice) (live0 : ℕ) (m : Map) (xs ds : List Slice) (live room : ℕ) : Type 0 where
  pub turns : Turns m0 (xs0 ++ ds0) m (xs ++ ds)
  pub read : all_read m (xs ++ ds) ≡ all_read m0 (xs0 ++ ds0)
  pub slots : AreOfRing xs
  pub solid : AllSolid ds
  pub enough : takes m xs ds ≤ room
  pub in_use : live + merges_onto xs (lens ds) ≤ live0 + merges_onto xs0 (lens ds0)
  pub count : length xs + length ds + merges_onto xs0 (lens ds0) ≡ length xs0 + length ds0 + merges_onto xs (lens ds)
  pub parts : (test : Slice → Bool) → count_by test (xs ++ ds) + merges_onto xs (lens ds) ≤ count_by test (xs0 ++ ds0) + merges_onto xs0 (lens ds0)

-- where the slices are those of a list from a place on, but those of no bytes
module _ {m0 : Map} {xs0 ds0 : List Slice} {live0 : ℕ} {m : Map} {xs : List Slice} {live room : ℕ} (slices : List Slice) (i : ℕ) (u : Underway m0 xs0 ds0 live0 m xs (solid_of (drop i slices)) live room) where
  abbrev it : Slice
  it = get_or slices i no_slice

  abbrev rest : List Slice
  rest = solid_of (drop (i + 1) slices)

  pub underway-at : i < length slices → it.len ≢ 0 → Underway m0 xs0 ds0 live0 m xs (it ∷ rest) live room
  underway-at l n =
      subst (λ ds. Underway m0 xs0 ds0 live0 m xs ds live room)
      (ap solid_of (drop_more slices i no_slice l) ∙ ap (λ b. if b then rest else it ∷ rest) (ne_eqb it.len 0 n)) u

  pub underway-past : i < length slices → it.len ≡ 0 → Underway m0 xs0 ds0 live0 m xs rest live room
  underway-past l e =
      subst (λ ds. Underway m0 xs0 ds0 live0 m xs ds live room)
      (ap solid_of (drop_more slices i no_slice l) ∙ ap (λ b. if b then rest else it ∷ rest) (eq-eqb it.len 0 e)) u

  pub underway-end : length slices ≤ i → Underway m0 xs0 ds0 live0 m xs [] live room
  underway-end l = subst (λ ds. Underway m0 xs0 ds0 live0 m xs ds live room) (ap solid_of (drop_all i slices l)) u

-- the store and the slots under other names
pub underway-as : {m0 : Map} {xs0 ds0 : List Slice} {live0 : ℕ} {ds : List Slice} (s t : Segments) (ys zs : List Slice) → s ≡ t → ys ≡ zs
    → Underway m0 xs0 ds0 live0 (segment_at t) zs ds (live_count t.held) t.room → Underway m0 xs0 ds0 live0 (segment_at s) ys ds (live_count s.held) s.room
underway-as {m0} {xs0} {ds0} {live0} {ds} s t ys zs e f u =
    subst (λ (k : Segments). Underway m0 xs0 ds0 live0 (segment_at k) ys ds (live_count k.held) k.room) (sym e)
    (subst (λ ks. Underway m0 xs0 ds0 live0 (segment_at t) ks ds (live_count t.held) t.room) (sym f) u)

-- before the first
pub underway-first : (m : Map) (xs ds : List Slice) (live room : ℕ) → Holds m (xs ++ ds) → AreOfRing xs → AllSolid ds → takes m xs ds ≤ room → Underway m xs ds live m xs ds live room
underway-first m xs ds live room held slots solid enough = record {
  turns = turns-same m (xs ++ ds) held.lie;
  read = refl;
  slots = slots;
  solid = solid;
  enough = enough;
  in_use = omega arith;
  count = refl;
  parts = λ test. omega arith;
}

-- one more slice
module _ {m0 : Map} {xs0 ds0 : List Slice} {live0 : ℕ} {m : Map} {xs : List Slice} {x : Slice} {ds : List Slice} {live room : ℕ}
    (held0 : Holds m0 (xs0 ++ ds0)) (u : Underway m0 xs0 ds0 live0 m xs (x ∷ ds) live room) where
  apart : xs ++ (x ∷ ds) ≡ (xs ++ x ∷ []) ++ ds
  apart = sym (append_assoc xs (x ∷ []) ds)

  held : Holds m ((xs ++ x ∷ []) ++ ds)
  held = subst (Holds m) apart (holds-turned m0 m (xs0 ++ ds0) (xs ++ (x ∷ ds)) held0 u.turns)

  pub next-held : Holds m (xs ++ x ∷ [])
  next-held = holds-left m (xs ++ x ∷ []) ds held

  pub next-some : 1 ≤ x.len
  next-some = u.solid.0

  pub next-total : total xs + x.len ≤ total (xs0 ++ ds0)
  next-total =
      let all : total (xs ++ (x ∷ ds)) ≡ total (xs0 ++ ds0) = sym (total-read m (xs ++ (x ∷ ds)) u.turns.lie) ∙ ap length u.read ∙ total-read m0 (xs0 ++ ds0) held0.lie in
      let sum : total (xs ++ (x ∷ ds)) ≡ total xs + (x.len + total ds) = total-append xs (x ∷ ds) in
      omega (arith, all, sum)

  pub next-room : joining xs x ≤ room
  next-room = by (joins (length xs) (last_len xs) x.len) (merges-few (length xs) (last_len xs + x.len) ds) u.enough
    where
      by : (b : Bool) → merges (length xs) (last_len xs + x.len) (lens ds) ≤ length ds
          → min (if b then 1 + merges (length xs) (last_len xs + x.len) (lens ds) else merges (length xs + 1) x.len (lens ds))
          (length (x ∷ ds) + 1 + ends_in_part m xs - (if b then 1 + merges (length xs) (last_len xs + x.len) (lens ds) else merges (length xs + 1) x.len (lens ds))) ≤ room → one_if b ≤ room
      by true few l = omega (arith, few, l)
      by false few l = omega arith

  module _ (places : ℕ) (n : Map) (new : Buffer Slice) (live1 room1 : ℕ) (took : TookIn m (buffer xs places) (x ∷ []) n new) (one : PushedOne xs x new.items)
      (left : room ≤ room1 + joining xs x) (once : ends_in_part n new.items + room ≤ room1 + max (1 - joining xs x) (ends_in_part m xs)) (made : live1 ≤ live + joining xs x) where
    pub underway-next : Underway m0 xs0 ds0 live0 n new.items ds live1 room1
    underway-next =
        let ys = new.items in
        let p = one.plan (lens ds) in
        record {
          turns = turns-then m0 m n (xs0 ++ ds0) (xs ++ (x ∷ ds)) (ys ++ ds) u.turns (subst (λ zs. Turns m zs n (ys ++ ds)) (sym apart) (turns-before m n (xs ++ x ∷ []) ys ds held took.turns));
          read = read-before m n (xs ++ x ∷ []) ys ds held took.turns ∙ ap (λ bs. bs ++ all_read m ds) took.read ∙ sym (read-append m (xs ++ x ∷ []) ds) ∙ ap (all_read m) (sym apart) ∙ u.read;
          slots = took.slots;
          solid = u.solid.1;
          enough =
              let e = u.enough in
              let most = joining-most xs x in
              let was = part-most m xs in
              let now = part-most n ys in
              omega (arith, p, e, left, once, most, was, now);
          in_use = (let e = u.in_use in omega (arith, p, e, made));
          count = (let e = u.count in let f = one.count in omega (arith, p, e, f));
          parts = λ test.
              let w = one.parts test in let o = u.parts test in
              let a = count-append test ys ds in let b = ap (count_by test) apart ∙ count-append test (xs ++ x ∷ []) ds in
              omega (arith, p, w, o, a, b);
        }

-- after the last
module _ {m0 : Map} {xs0 ds0 : List Slice} {live0 : ℕ} {m : Map} {xs : List Slice} {live room : ℕ} (u : Underway m0 xs0 ds0 live0 m xs [] live room) where
  pub last-turns : Turns m0 (xs0 ++ ds0) m xs
  last-turns = subst (Turns m0 (xs0 ++ ds0) m) (append-nil xs) u.turns

  pub last-read : all_read m xs ≡ all_read m0 (xs0 ++ ds0)
  last-read = ap (all_read m) (sym (append-nil xs)) ∙ u.read

  pub last-in_use : live ≤ live0 + merges_onto xs0 (lens ds0)
  last-in_use = let e = u.in_use in omega (arith, e)

  pub last-count : length xs + merges_onto xs0 (lens ds0) ≡ length xs0 + length ds0
  last-count = let e = u.count in omega (arith, e)

  pub last-parts : (test : Slice → Bool) → count_by test xs ≤ count_by test (xs0 ++ ds0) + merges_onto xs0 (lens ds0)
  last-parts test = let e = u.parts test in let a = ap (count_by test) (append-nil xs) in omega (arith, e, a)
