-- What the calls of a process are open on.
use Rattle.std.specs.Prelude.{◌≡◌, ℕ, ℤ, Bool, List, IfSome}
use Rattle.pl_model.specs.declared.calls.Mode.{Mode}
use Rattle.pl_model.specs.Keys.{Node}
use Rattle.pl_model.specs.Modes.{reads, writes}
use Rattle.pl_model.specs.State.{Core}
use Rattle.pl_model.specs.Begin.{open_for}
use Rattle.pl_model.specs.Step.{kept_at}
use Rattle.pl_model.specs.Numbered.{numbers}

module _ {A : Type 0} where
  -- the description that a call keeps at the place is on the node, if it is there
  abbrev pub Keeps : Core A numbers → List ℕ → (place : ℕ) → Node numbers → Type 0
  Keeps s kept place node = IfSome (kept_at s kept place) (λ o. o.description.node ≡ node)

  -- what the descriptor names is on the node, if it is open, and its mode passes the test
  abbrev pub Opens : (Mode → Bool) → Core A numbers → ℕ → ℤ → Node numbers → Type 0
  Opens test s pid fd node = IfSome (open_for test s pid fd) (λ o. o.description.node ≡ node)

  -- a splice or a tee keeps what it is from, and then what it is to
  abbrev pub KeepsBoth : Core A numbers → List ℕ → (from to : Node numbers) → Type 0
  KeepsBoth s kept from to = Keeps s kept 0 from × Keeps s kept 1 to

  abbrev pub OpensBoth : Core A numbers → ℕ → (from_fd to_fd : ℤ) → (from to : Node numbers) → Type 0
  OpensBoth s pid from_fd to_fd from to = Opens reads s pid from_fd from × Opens writes s pid to_fd to
