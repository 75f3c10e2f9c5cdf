-- What each of two rings and a file over one store has of the laws on sharing.
use Rattle.std.proofs.Common.{◌≡◌, ℕ, zero, suc, ◌-◌, ◌<◌, ◌≤◌, ◌^◌, Bool, true, false, List, [], ◌∷◌, ◌++◌, nat_eq, arith}
use Rattle.pl_segments.specs.declared.slice.Slice.{Slice}
use Rattle.pl_segments.specs.Segments.{Map}
use Rattle.pl_segments.specs.Slices.{AllLie, naming, one_if}
use Rattle.pl_segments.specs.Slots.{total, AllSolid, drop_bytes, front_of}
use Rattle.pl_segments.specs.Turns.{Holds, Turns}
use Rattle.pl_segments.specs.Sharing.{AreShared, named, slots_at}
use Rattle.pl_segments.proofs.Fronting.{front-total, total-drop}
use Rattle.pl_segments.proofs.Turning.{naming-append, lie-append, lie-left, lie-right, others-lie}
use Rattle.pl_segments.proofs.Shared.{one-held, shared-turned}

one-le : (b : Bool) → one_if b ≤ 1
one-le true = omega arith
one-le false = omega arith

naming-le : (xs : List Slice) (key : ℕ) → AllSolid xs → naming xs key ≤ total xs
naming-le [] key s = omega arith
naming-le (x ∷ xs) key s = let r = naming-le xs key s.1 in let b = one-le (nat_eq x.segment key) in let l = s.0 in omega (arith, r, b, l)

-- slots that aren't empty name a segment no more often than they have bytes
pub few : (xs ys zs : List Slice) → AllSolid xs → AllSolid ys → AllSolid zs → total xs < 2 ^ 64 → total ys < 2 ^ 64 → total zs < 2 ^ 64 → (key : ℕ) → named (xs ∷ ys ∷ zs ∷ []) key < 2 ^ 100
few xs ys zs s t u k l m key =
    let a = naming-le xs key s in
    let b = naming-le ys key t in
    let c = naming-le zs key u in
    omega (arith, a, b, c, k, l, m)

module _ (m : Map) (xs ys zs : List Slice) (shared : AreShared m (xs ∷ ys ∷ zs ∷ [])) where
  pub left-held : Holds m xs
  left-held = one-held m m (xs ∷ ys ∷ zs ∷ []) 0 xs (omega arith) shared

  pub right-held : Holds m ys
  right-held = one-held m m (xs ∷ ys ∷ zs ∷ []) 1 ys (omega arith) shared

  pub file-held : Holds m zs
  file-held = one-held m m (xs ∷ ys ∷ zs ∷ []) 2 zs (omega arith) shared

  pub swapped : AreShared m (ys ∷ xs ∷ zs ∷ [])
  swapped = record { counted = λ key. let c = shared.counted key in omega (arith, c); lie = lie }
    where
      lie : (p : ℕ) → AllLie m (slots_at (ys ∷ xs ∷ zs ∷ []) p)
      lie zero = right-held.lie
      lie (suc zero) = left-held.lie
      lie (suc (suc zero)) = file-held.lie
      lie (suc (suc (suc p))) = tt

  module _ (n : Map) (new : List Slice) where
    pub left-turned : Turns m xs n new → AreShared n (new ∷ ys ∷ zs ∷ [])
    left-turned t = shared-turned m n (xs ∷ ys ∷ zs ∷ []) 0 new (omega arith) shared t

    pub right-turned : Turns m ys n new → AreShared n (xs ∷ new ∷ zs ∷ [])
    right-turned t = shared-turned m n (xs ∷ ys ∷ zs ∷ []) 1 new (omega arith) shared t

    pub file-turned : Turns m zs n new → AreShared n (xs ∷ ys ∷ new ∷ [])
    file-turned t = shared-turned m n (xs ∷ ys ∷ zs ∷ []) 2 new (omega arith) shared t

-- bytes of the one ring go to the other
pub ring-passed : (m n : Map) (xs ys zs left got : List Slice) → AreShared m (xs ∷ ys ∷ zs ∷ []) → Turns m (ys ++ xs) n (got ++ left) → AreShared n (left ∷ got ∷ zs ∷ [])
ring-passed m n xs ys zs left got shared t = record {
  counted = λ key. let a = naming-append ys xs key in let b = naming-append got left key in let c = shared.counted key in let d = t.counted key in omega (arith, a, b, c, d);
  lie = lie;
}
  where
    file : AllLie n zs
    file = others-lie m n (ys ++ xs) (got ++ left) t zs (λ key. let a = naming-append ys xs key in let c = shared.counted key in omega (arith, a, c)) (shared.lie 2)

    lie : (p : ℕ) → AllLie n (slots_at (left ∷ got ∷ zs ∷ []) p)
    lie zero = lie-right n got left t.lie
    lie (suc zero) = lie-left n got left t.lie
    lie (suc (suc zero)) = file
    lie (suc (suc (suc p))) = tt

-- both rings are held
pub both-held : (m : Map) (xs ys zs : List Slice) → AreShared m (xs ∷ ys ∷ zs ∷ []) → Holds m (ys ++ xs)
both-held m xs ys zs shared = record {
  lie = lie-append m ys xs (shared.lie 1) (shared.lie 0);
  few = λ key. let a = naming-append ys xs key in let c = shared.counted key in omega (arith, a, c);
}

-- how many bytes the slices of a range have
pub listed-total : (xs : List Slice) (from count : ℕ) → from ≤ total xs → count ≤ total xs - from → total (front_of count (drop_bytes from xs)) ≡ count
listed-total xs from count l k = let d = total-drop xs from l in front-total (drop_bytes from xs) count (omega (arith, d, k, l))
