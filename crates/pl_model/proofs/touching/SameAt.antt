-- What is the same at a node in two states.
use Rattle.std.proofs.Common.{◌≡◌, ℕ, false, List, Option, Some, None, refl, nat_eq}
use Rattle.std.specs.Prelude.{All, IsSome}
use Rattle.pl_model.specs.Map.{get, EachOnce}
use Rattle.pl_model.specs.Keys.{Node, PipeNode, FileNode}
use Rattle.pl_model.specs.State.{Core, Description, Pipe, Waiting}
use Rattle.pl_model.specs.Laws.{IsSettled}
use Rattle.pl_model.specs.Numbered.{numbers}
use Rattle.pl_model.proofs.settling.WhoIsLive.{SameEnds}

module _ {A : Type 0} where
  -- what stands under the node
  abbrev pub held_at : Core A numbers → Node numbers → Option Pipe × Option (List ℕ)
  held_at s (PipeNode p) = (s.pipes p, None)
  held_at s (FileNode f) = (None, s.files f)

  -- The node has the same ends in both, and holds the same.
  pub record SameAt (c u : Core A numbers) (node : Node numbers) : Type 0 where
    pub ends : SameEnds c u node
    pub held : held_at u node ≡ held_at c node

  pub same_at_refl : (c : Core A numbers) (node : Node numbers) → SameAt c c node
  same_at_refl c node = record { ends = record { forth = λ d l o. (l, refl); back = λ d l o. (l, refl) }; held = refl }

  -- something stands under the node
  abbrev pub IsThereAt : Core A numbers → Node numbers → Type 0
  IsThereAt c (PipeNode p) = IsSome (c.pipes p)
  IsThereAt c (FileNode f) = IsSome (c.files f)

  -- What a kernel's state is known to be, as far as it is wanted here.
  pub record IsFit (c : Core A numbers) : Type 0 where
    pub settled : IsSettled c
    pub once : EachOnce nat_eq c.parked
    -- a process that isn't there names nothing
    pub rows : (pid fd : ℕ) → c.processes pid ≡ false → c.rows pid fd ≡ None
    -- what a call keeps is described
    pub kept : (number : ℕ) (w : Waiting A numbers) → get nat_eq c.parked number ≡ Some w → All (λ d. IsSome (c.descriptions d)) w.kept
    -- what is described is on a node that is there
    pub there : (d : ℕ) (x : Description numbers) → c.descriptions d ≡ Some x → IsThereAt c x.node
