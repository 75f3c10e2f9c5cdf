use Rattle.std.proofs.Common.{◌≡◌, true, drop}
use Rattle.std.specs.Prelude.{◌⊎◌}
use Rattle.std.specs.List.{list_any}
use Rattle.pl_model.specs.Keys.{Node}
use Rattle.pl_model.specs.Modes.{any_mode}
use Rattle.pl_model.specs.Live.{is_end}
use Rattle.pl_model.specs.Numbered.{numbers}
use Rattle.pl_state.specs.Contents.{core_of}
use Rattle.pl_kernel.specs.ToldNodes.{key_of}
use Rattle.pl_kernel.specs.Index.{IsNoLess, IsTouched}
use Rattle.pl_kernel.proofs.touch.touch_kept.Given as goal

-- A node at which one of the descriptions is, is touched, or one of those to come is at it.
abbrev pub invariant-loop-key : goal.invariant-loop-key
invariant-loop-key g l = record {
  less : IsNoLess l.initial.waiters l.waiters;
  touched : (node : Node numbers) → list_any (λ d. is_end any_mode node ((core_of l.state).descriptions d)) l.kept ≡ true
      → (list_any (λ d. is_end any_mode node ((core_of l.state).descriptions d)) (drop l.key-index l.kept) ≡ true) ⊎ IsTouched l.initial.waiters l.waiters (key_of node);
}
