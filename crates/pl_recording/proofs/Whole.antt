-- A text that is whole, or as it was.
use Rattle.std.proofs.Common.{◌≡◌, List, ◌++◌, ℕ, length, take, ap, ◌∙◌, Result, Ok, Err}
use Rattle.std.specs.Prelude.{OnOk, OnErr}
use Rattle.pl_lines.specs.Pushed.{Pushes}
use Rattle.pl_lines.proofs.Pushing.{cut}

module _ {X E : Type 0} (before now after more : List ℕ) where
  pub whole : (r : Result X E) → Pushes r before now more → OnOk r (after ≡ now) → OnOk r (after ≡ before ++ more)
  whole (Ok x) one done = done ∙ one.added ∙ ap (λ t. before ++ t) one.whole
  whole (Err e) one done = tt

  pub as_it_was : (r : Result X E) → Pushes r before now more → (len : ℕ) → len ≡ length before → OnErr r (after ≡ take len now) → OnErr r (after ≡ before)
  as_it_was (Ok x) one len is undone = tt
  as_it_was (Err e) one len is undone = undone ∙ ap (λ n. take n now) is ∙ cut one
