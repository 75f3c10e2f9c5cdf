-- States between which only bytes and offsets differ.
use Rattle.std.specs.Prelude.{◌≡◌, ℕ, Bool, false, Option, IsSome}
use Rattle.std.specs.declared.option.Option.TheVariants.{None, Some}
use Rattle.pl_model.specs.declared.calls.Mode.{Mode}
use Rattle.pl_model.specs.Keys.{Node, PipeNode}
use Rattle.pl_model.specs.State.{Core, Pipe}
use Rattle.pl_model.specs.Live.{in_use, is_end, is_open}
use Rattle.pl_model.specs.Numbered.{numbers}

-- a pipe that is hung as it was, and holds what it held where it has no end
abbrev pub IsLikePipe : (has_end : Bool) → (old new : Option Pipe) → Type 0
IsLikePipe has_end None None = Unit {0}
IsLikePipe has_end (Some x) (Some y) = (y.hung ≡ x.hung) × (has_end ≡ false → y ≡ x)
IsLikePipe has_end None (Some y) = ⊥
IsLikePipe has_end (Some x) None = ⊥

-- the same descriptions are in use, on the same nodes, and the same pipes and files are there
pub record Resembles {A : Type 0} (old new : Core A numbers) : Type 0 where
  pub used : in_use new ≡ in_use old
  pub ends : (test : Mode → Bool) (node : Node numbers) (d : ℕ) → is_end test node (new.descriptions d) ≡ is_end test node (old.descriptions d)
  pub described : (d : ℕ) → IsSome (new.descriptions d) → IsSome (old.descriptions d)
  pub pipes : (p : ℕ) → IsLikePipe (is_open old (PipeNode p)) (old.pipes p) (new.pipes p)
  pub files : (f : ℕ) → IsSome (new.files f) → IsSome (old.files f)
  pub names : new.names ≡ old.names
