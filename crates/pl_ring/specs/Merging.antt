-- When slots become one, as arithmetic on their lengths.
use Rattle.std.specs.Prelude.{◌≡◌, ◌<◌, ℕ, ◌+◌, nat_le, Bool, ◌&&◌, List, [], ◌∷◌, length, if◌then◌else◌}
use Rattle.pl_segments.specs.declared.slice.Slice.{Slice}
use Rattle.pl_segments.specs.Segments.{segment_size}
use Rattle.pl_segments.specs.Slices.{one_if}
use Rattle.pl_segments.specs.Slots.{AllSolid, front_of, last_len}

-- the lengths of slices
abbrev pub lens : List Slice → List ℕ
lens [] = []
lens (x ∷ xs) = x.len ∷ lens xs

-- neighbours have more bytes together than fit a segment
abbrev pub AreTight : List ℕ → Type 0
AreTight [] = Unit {0}
AreTight (x ∷ []) = Unit {0}
AreTight (x ∷ y ∷ r) = (segment_size < x + y) × AreTight (y ∷ r)

-- the same, the first pair excepted
abbrev pub AreMerged : List ℕ → Type 0
AreMerged [] = Unit {0}
AreMerged (x ∷ r) = AreTight r

-- Whether a slot that is pushed becomes one with the last of so many slots: they aren't the first pair, and fit together.
abbrev pub joins : ℕ → ℕ → ℕ → Bool
joins count last x = nat_le 2 count && nat_le (last + x) segment_size

-- how many of some slots become one with the one before, where the last of so many slots has this length
abbrev pub merges : ℕ → ℕ → List ℕ → ℕ
merges count last [] = 0
merges count last (x ∷ xs) = if joins count last x then 1 + merges count (last + x) xs else merges (count + 1) x xs

-- 1 where a slot becomes one with the last of these, else 0
abbrev pub joining : List Slice → Slice → ℕ
joining xs x = one_if (joins (length xs) (last_len xs) x.len)

-- how many slots of these lengths become one with what stands before them, pushed behind these
abbrev pub merges_onto : List Slice → List ℕ → ℕ
merges_onto xs ns = merges (length xs) (last_len xs) ns

-- slices are the front of a ring
pub record IsFront (slices : List Slice) : Type 0 where
  pub source : List Slice
  pub count : ℕ
  pub solid : AllSolid source
  pub merged : AreMerged (lens source)
  pub is : slices ≡ front_of count source
