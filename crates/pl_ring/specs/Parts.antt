-- Slots that were there before, or lie within others.
use Rattle.std.specs.Prelude.{ℕ, ◌+◌, nat_eq, nat_le, Bool, false, not, ◌&&◌, ◌||◌, List, [], ◌∷◌, count_by}
use Rattle.pl_segments.specs.declared.slice.Slice.{Slice}

-- a slice is another: it is of the same segment, begins where that one does, and is as long
abbrev pub is_same : Slice → Slice → Bool
is_same x y = nat_eq x.segment y.segment && (nat_eq x.from y.from && nat_eq x.len y.len)

-- one of some slices
abbrev pub is_among : List Slice → Slice → Bool
is_among [] x = false
is_among (y ∷ ys) x = is_same x y || is_among ys x

-- a slice lies within another: it is of the same segment, and begins no earlier and ends no later
abbrev pub within : Slice → Slice → Bool
within x y = nat_eq x.segment y.segment && (nat_le y.from x.from && nat_le (x.from + x.len) (y.from + y.len))

-- within one of some slices
abbrev pub within_any : List Slice → Slice → Bool
within_any [] x = false
within_any (y ∷ ys) x = within x y || within_any ys x

-- how many slots are none of some slices
abbrev pub fresh : List Slice → List Slice → ℕ
fresh ys xs = count_by (λ x. not (is_among ys x)) xs

-- how many slots are none of those that were there, and lie within none of some others
abbrev pub strange : (there others : List Slice) → List Slice → ℕ
strange there others xs = count_by (λ x. not (is_among there x || within_any others x)) xs
