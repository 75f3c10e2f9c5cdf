-- The numbers that stand at places.
use Rattle.std.specs.Prelude.{◌≡◌, ◌≤◌, ◌<◌, ℕ, ◌+◌, Option, if◌then◌else◌, ◌==◌}
use Rattle.std.specs.declared.option.Option.TheVariants.{None, Some}
use Rattle.pl_least.specs.declared.least.Least.{Least}
use Rattle.pl_least.specs.None.{none}
use Rattle.pl_least.specs.Tournament.{entry}

-- a number, or none
abbrev pub number_of : ℕ → Option ℕ
number_of n = if n == none then None else Some n

module _ {A : Type 0} where
  -- there is such a place
  abbrev pub has_place : Least A → ℕ → Type 0
  has_place l place = place < l.places

  -- what stands at a place, and nothing where there is no such place
  abbrev pub number_at : Least A → ℕ → Option ℕ
  number_at l place = number_of (entry l.entries.items (l.places + place))

  -- A number stands at the place, and no lesser one at another.
  pub record IsFirst (l : Least A) (place : ℕ) : Type 0 where
    pub there : has_place l place
    pub number : ℕ
    pub here : number_at l place ≡ Some number
    pub least : (other n : ℕ) → number_at l other ≡ Some n → number ≤ n
