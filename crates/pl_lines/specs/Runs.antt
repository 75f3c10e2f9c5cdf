-- How long the pieces are as which bytes are shown.
use Rattle.std.specs.Prelude.{◌≡◌, ℕ, ◌+◌, ◌<◌, ◌≤◌, ◌≢◌, List, length, slice_index}

-- at this place three equal bytes begin
pub record ThreeBegin (bytes : List ℕ) (place : ℕ) : Type 0 where
  pub second : slice_index bytes (place + 1) ≡ slice_index bytes place
  pub third : slice_index bytes (place + 2) ≡ slice_index bytes place

-- at this place four equal bytes begin
pub record FourBegin (bytes : List ℕ) (place : ℕ) : Type 0 where
  pub within : place + 3 < length bytes
  pub second : slice_index bytes (place + 1) ≡ slice_index bytes place
  pub third : slice_index bytes (place + 2) ≡ slice_index bytes place
  pub fourth : slice_index bytes (place + 3) ≡ slice_index bytes place

-- the first place where four equal bytes begin, or the end of the bytes if there is none
pub record IsBeforeFour (bytes : List ℕ) (place : ℕ) : Type 0 where
  pub within : place ≤ length bytes
  pub none_before : (k : ℕ) → k < place → FourBegin bytes k → ⊥
  pub there : place < length bytes → FourBegin bytes place

-- the first of the places from here on where four equal bytes begin, or the end of these places if there is none
pub record IsFirstFour (bytes : List ℕ) (from end place : ℕ) : Type 0 where
  pub begun : from ≤ place
  pub within : place ≤ end
  pub none_before : (k : ℕ) → from ≤ k → k < place → FourBegin bytes k → ⊥
  pub there : place < end → FourBegin bytes place

-- so many bytes in front are equal, and the next one, if there is one, is another
pub record IsFirstRun (bytes : List ℕ) (len : ℕ) : Type 0 where
  pub some : 0 < len
  pub within : len ≤ length bytes
  pub equal : (k : ℕ) → k < len → slice_index bytes k ≡ slice_index bytes 0
  pub ends : len < length bytes → slice_index bytes len ≢ slice_index bytes 0
