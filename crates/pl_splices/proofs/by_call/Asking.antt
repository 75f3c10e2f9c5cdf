-- What a move or a copy asks of a pipe, said of one that is there.
use Rattle.std.proofs.Common.{◌≡◌, ◌≤◌, ℕ, length, Option, None, Some, IfSome, sym, subst, refl}
use Rattle.std.specs.Prelude.{IsSome}
use Rattle.pl_model.specs.State.{Pipe}
use Rattle.pl_model.specs.Transfer.{room}
use Rattle.pl_nodes.specs.Moving.{IsBytePipe, HoldsBytes, HasRoom}

module _ (pipe : Option Pipe) (x : Pipe) (is : pipe ≡ Some x) (bytes : IfSome pipe (λ y. y.packets ≡ None)) (count : ℕ) where
  plain : IsBytePipe pipe
  plain = record { here = subst IsSome (sym is) refl; bytes = bytes }

  pub holds_bytes : IfSome pipe (λ y. count ≤ length y.bytes) → HoldsBytes pipe count
  holds_bytes held = record { plain = plain; held = held }

  pub has_room : IfSome pipe (λ y. count ≤ room y) → HasRoom pipe count
  has_room left = record { plain = plain; room = left }
