-- Rows of masks, with a bit for each number, and a row above another.
use Rattle.std.specs.Prelude.{◌≡◌, ◌≢◌, ◌≤◌, ◌<◌, ℕ, ◌*◌, ◌/◌, ◌%◌, Bool, true, false, not, if◌then◌else◌, nat_eq, List, length, slice_index_or}
use Rattle.std.specs.Int.{bit_at}

-- the mask at a place
abbrev pub mask_at : List ℕ → ℕ → ℕ
mask_at masks place = slice_index_or masks place 0

-- the bit of a number is set, of 64 in each mask
unfoldable pub is_set : List ℕ → ℕ → Bool
is_set masks n = nat_eq (bit_at (mask_at masks (n / 64)) (n % 64)) 1

-- The bit of a number is set, and none of the numbers before it from one on.
pub record IsFirst (masks : List ℕ) (from n : ℕ) : Type 0 where
  pub high : from ≤ n
  pub here : is_set masks n ≡ true
  pub none : (k : ℕ) → from ≤ k → k < n → is_set masks k ≡ false

-- The bit of one number is put, and no other mask changes.
pub record IsPut (old new : List ℕ) (number : ℕ) (bit : Bool) : Type 0 where
  pub value : (n : ℕ) → is_set new n ≡ (if nat_eq n number then bit else is_set old n)
  pub others : (place : ℕ) → place ≢ number / 64 → mask_at new place ≡ mask_at old place
  pub len : length new ≡ length old

-- the upper masks have a bit exactly where the lower mask has one
abbrev pub IsAbove : List ℕ → List ℕ → Type 0
IsAbove lower upper = (place : ℕ) → is_set upper place ≡ not (nat_eq (mask_at lower place) 0)

-- Each of three rows is above the one before.
pub record AreMasked (numbers masks top : List ℕ) : Type 0 where
  pub fits : length numbers ≤ 64 * length masks
  pub few : length masks ≤ 64
  pub middle : IsAbove numbers masks
  pub last : IsAbove masks top
