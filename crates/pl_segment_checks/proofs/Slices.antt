-- What each of two slices of a store has of the laws on holding.
use Rattle.std.proofs.Common.{[], ◌∷◌, arith}
use Rattle.pl_segments.specs.declared.slice.Slice.{Slice}
use Rattle.pl_segments.specs.Segments.{Map}
use Rattle.pl_segments.specs.Slices.{Lies}
use Rattle.pl_segments.specs.Turns.{Holds, Turns}
use Rattle.pl_segments.proofs.Turning.{turns-behind, turns-before, holds-turned}

-- one of two slices changes
module _ (m n : Map) (a b : Slice) (held : Holds m (a ∷ b ∷ [])) where
  pub first-turned : (y : Slice) → Turns m (a ∷ []) n (y ∷ []) → Holds n (y ∷ b ∷ [])
  first-turned y t = holds-turned m n (a ∷ b ∷ []) (y ∷ b ∷ []) held (turns-before m n (a ∷ []) (y ∷ []) (b ∷ []) held t)

  pub second-turned : (y : Slice) → Turns m (b ∷ []) n (y ∷ []) → Holds n (a ∷ y ∷ [])
  second-turned y t = holds-turned m n (a ∷ b ∷ []) (a ∷ y ∷ []) held (turns-behind m n (a ∷ []) (b ∷ []) (y ∷ []) held t)

  -- the first is held still as the second goes
  pub first-left : Turns m (b ∷ []) n [] → Lies n a
  first-left t = (turns-behind m n (a ∷ []) (b ∷ []) [] held t).lie.0

-- a slice that is held once more
pub held-again : (m n o : Map) (a : Slice) → Turns m [] n (a ∷ []) → Turns n [] o (a ∷ []) → Holds o (a ∷ a ∷ [])
held-again m n o a t u =
    let once : Holds n (a ∷ []) = holds-turned m n [] (a ∷ []) (record { lie = tt; few = λ key. omega arith }) t in
    holds-turned n o (a ∷ []) (a ∷ a ∷ []) once (turns-behind n o (a ∷ []) [] (a ∷ []) once u)
