-- The last of some slots.
use Rattle.std.proofs.Common.{◌≡◌, ◌+◌, ◌-◌, ◌<◌, ◌≤◌, Bool, true, false, List, [], ◌∷◌, ◌++◌, Some, None, refl, sym, ◌∙◌, ap, subst, length, take, arith}
use Rattle.std.specs.Prelude.{slice_get, nat_lt}
use Rattle.std.proofs.lemmas.List.{take_all, take_more}
use Rattle.std.proofs.lemmas.Option.{get_or_from_slice_get, slice_get-get_or}
use Rattle.pl_segments.specs.declared.slice.Slice.{Slice}
use Rattle.pl_segments.specs.Segments.{segment_size, Map}
use Rattle.pl_segments.specs.Slices.{Lies, AllLie, one_if, room_after, is_part}
use Rattle.pl_segments.specs.Slots.{last_len, tail_room, ends_in_part}
use Rattle.pl_segments.proofs.Turning.{lie-right}
use Rattle.pl_segments.proofs.SlotLemmas.{last-len, room-last}

pub last-split : (xs : List Slice) (x : Slice) → 0 < length xs → slice_get xs (length xs - 1) ≡ Some x → xs ≡ take (length xs - 1) xs ++ x ∷ []
last-split xs x l e =
    let k : length xs - 1 + 1 ≡ length xs = omega arith in
    sym (take_all (length xs) xs (omega arith)) ∙ ap (λ n. take n xs) (sym k) ∙ take_more xs (length xs - 1) x (omega arith)
    ∙ ap (λ y. take (length xs - 1) xs ++ y ∷ []) (get_or_from_slice_get xs (length xs - 1) x x e)

pub last-got : (xs : List Slice) (x : Slice) → slice_get xs (length xs - 1) ≡ Some x → last_len xs ≡ x.len
last-got [] x e = absurd (cc)
last-got (y ∷ r) x e = ap last_len (last-split (y ∷ r) x (omega arith) e) ∙ last-len (take (length (y ∷ r) - 1) (y ∷ r)) x

pub none-last : (xs : List Slice) → slice_get xs (length xs - 1) ≡ None → xs ≡ []
none-last [] e = refl
none-last (y ∷ r) e = let s = slice_get-get_or (y ∷ r) (length (y ∷ r) - 1) y (omega arith) in absurd (cc)

pub last-lies : (m : Map) (xs : List Slice) (x : Slice) → slice_get xs (length xs - 1) ≡ Some x → AllLie m xs → Lies m x
last-lies m [] x e lie = absurd (cc)
last-lies m (y ∷ r) x e lie = (lie-right m (take (length (y ∷ r) - 1) (y ∷ r)) (x ∷ []) (subst (AllLie m) (last-split (y ∷ r) x (omega arith) e) lie)).0

pub room-got : (m : Map) (xs : List Slice) (x : Slice) → slice_get xs (length xs - 1) ≡ Some x → tail_room m xs ≡ room_after m x
room-got m [] x e = absurd (cc)
room-got m (y ∷ r) x e = ap (tail_room m) (last-split (y ∷ r) x (omega arith) e) ∙ room-last m (take (length (y ∷ r) - 1) (y ∷ r)) x

-- whether the last slot is a part of its segment, or all of it
pub part-last : (m : Map) (front : List Slice) (x : Slice) → ends_in_part m (front ++ x ∷ []) ≡ is_part m x
part-last m front x = λ i. one_if (nat_lt (room-last m front x i + last-len front x i) segment_size)

pub part-most : (m : Map) (xs : List Slice) → ends_in_part m xs ≤ 1
part-most m xs = by (nat_lt (tail_room m xs + last_len xs) segment_size)
  where
    by : (b : Bool) → one_if b ≤ 1
    by true = omega arith
    by false = omega arith
