-- What a splice or a tee carries from one description to another.
use Rattle.std.specs.Prelude.{◌≡◌, ◌≢◌, ⊤, ℕ, nat_eq, Bool, false, List, [], ◌∷◌, ◌++◌, length, take, IfSome, if◌then◌else◌}
use Rattle.pl_model.specs.declared.calls.Call.{Call}
use Rattle.pl_model.specs.declared.calls.Step.{Step}
use Rattle.pl_model.specs.declared.calls.Step.TheVariants.{Begin, Resume}
use Rattle.pl_model.specs.declared.replies.Reply.TheVariants.{Count}
use Rattle.pl_model.specs.Map.{get}
use Rattle.pl_model.specs.Keys.{Node, PipeNode}
use Rattle.pl_model.specs.State.{Core}
use Rattle.pl_model.specs.Numbered.{numbers, State, step}
use Rattle.pl_model.specs.Run.{after}
use Rattle.pl_model.specs.Stream.{held}
use Rattle.pl_model.specs.Streams.{added}
use Rattle.pl_model.specs.OnNodes.{KeepsBoth, OpensBoth}
use Rattle.pl_model.specs.Chunks.{Tag, tag_of, unless_empty}
use Rattle.pl_model.specs.Fates.{Ending, Answered}

module _ {A : Type 0} where
  -- the count that was answered; 0, where none was
  abbrev pub counted : Ending A → ℕ
  counted (Answered (Count n sigpipe)) = n
  counted ending = 0

  -- splice(2), tee(2): what a call that ended so carries from one node to another. These are its chunks of the pipe q, and its
  -- outs of the pipe p.
  pub record Carries (is_tee : Bool) (from to : Node numbers) (p q : ℕ) (chunks outs : List (List ℕ)) (ending : Ending A) : Type 0 where
    -- as many bytes as were counted; none, where the call answered anything else, was interrupted or dropped, or waits
    pub bytes : List ℕ
    pub counts : length bytes ≡ counted ending
    -- They are its one chunk of the pipe that it goes to,
    pub chunk : to ≡ PipeNode q → chunks ≡ unless_empty bytes
    pub no_chunk : to ≢ PipeNode q → chunks ≡ []
    -- and its one out of the pipe that it comes from. A tee has no out.
    pub out : from ≡ PipeNode p → outs ≡ (if is_tee then [] else unless_empty bytes)
    pub no_out : from ≢ PipeNode p → outs ≡ []

  abbrev pub IsSpliceOrTee : Call A → Type 0
  IsSpliceOrTee (Call.Splice from from_offset to to_offset len flags) = ⊤
  IsSpliceOrTee (Call.Tee from to len flags) = ⊤
  IsSpliceOrTee call = ⊥

  -- The step is a try of a splice or a tee from one node to another.
  abbrev pub TriesToCarry : Core A numbers → Step A → (from to : Node numbers) → Type 0
  TriesToCarry s (Begin pid (Call.Splice from_fd from_offset to_fd to_offset len flags)) from to = OpensBoth s pid from_fd to_fd from to
  TriesToCarry s (Begin pid (Call.Tee from_fd to_fd len flags)) from to = OpensBoth s pid from_fd to_fd from to
  TriesToCarry s (Resume c) from to = IfSome (get nat_eq s.parked c) (λ w. IsSpliceOrTee w.call × KeepsBoth s w.kept from to)
  TriesToCarry s x from to = ⊥

-- splice(2), tee(2): the bytes that are added are the first of those that were held.
pub record AddsFirstBytes (held added : List ℕ) : Type 0 where
  pub count : ℕ
  pub first : added ≡ take count held

-- splice(2), tee(2): each step of the run under this tag adds to the pipe q the first of the bytes that the pipe p then holds.
abbrev pub EachAddsFirst : {A : Type 0} → State A → List (Step A × Bool) → Tag → (p q : ℕ) → Type 0
EachAddsFirst {A = A} s xs tag p q =
    (before rest : List (Step A × Bool)) (x : Step A) →
    let now = after s before in
    xs ≡ before ++ (x, false) ∷ rest → tag_of (length before) x (step now x).reply ≡ tag → AddsFirstBytes (held now.core p) (added now x q)
