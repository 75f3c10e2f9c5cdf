-- What is known of a kernel as a call begins, and of a call that waits.
use Rattle.std.proofs.Common.{◌≡◌, ℕ, true, [], ◌∷◌, Some, nat_eq, sym, ap, subst, ◌∙◌}
use Rattle.pl_model.specs.declared.node.Node.TheVariants as node
use Rattle.pl_model.specs.declared.calls.Limits.{Limits}
use Rattle.pl_model.specs.Map.{get}
use Rattle.pl_model.specs.State.{Pipe}
use Rattle.pl_parked.specs.declared.call.ParkedCall.{ParkedCall}
use Rattle.pl_parked.specs.Calls.{Calls}
use Rattle.pl_desc.specs.Rows.{at, is_pid}
use Rattle.pl_desc.specs.Descs.{Descs}
use Rattle.pl_state.specs.declared.state.KernelState.TheInside.{Inside}
use Rattle.pl_nodes.specs.Nodes.{SameFiles, memory_of}
use Rattle.pl_nodes.specs.Nodes.{Nodes as KeptNodes}
use Rattle.pl_state.specs.Contents.{Contents, Nodes, nodes_of, contents, with_pipes}
use Rattle.pl_state.specs.KernelView.{view_of}
use Rattle.pl_state.specs.Opens.{OpenOn}
use Rattle.pl_state.specs.Sound.{IsSound, IsWhole, AreCounted}

-- a kernel's parts, and what holds of them whatever its calls wait for
pub record Parts (A : Type 0) : Type 0 where
  pub descs : Descs
  pub nodes : Nodes
  pub calls : Calls A
  pub limits : Limits
  pub whole : IsWhole A (contents descs nodes calls limits)
  pub are : AreCounted A limits descs calls.calls

-- a kernel's parts, and its invariant
pub record Known (A : Type 0) : Type 0 where
  pub descs : Descs
  pub nodes : Nodes
  pub calls : Calls A
  pub limits : Limits
  pub sound : IsSound A (contents descs nodes calls limits)
  pub are : AreCounted A limits descs calls.calls

abbrev pub parts_of : {A : Type 0} → Known A → Parts A
parts_of m = record { descs = m.descs; nodes = m.nodes; calls = m.calls; limits = m.limits; whole = m.sound.whole; are = m.are }

-- a process of the kernel that is there
pub record Caller (A : Type 0) : Type 0 where
  pub kernel : Known A
  pub open kernel use *
  pub pid : ℕ
  pub process : is_pid descs.tables pid ≡ true

module _ {A : Type 0} (k : Inside A) (invariant : IsSound A (view_of k) × AreCounted A k.limits k.descs k.parked.calls) where
  -- what is known of its fields
  abbrev pub known : Known A
  known = record { descs = k.descs; nodes = nodes_of k.nodes; calls = k.parked; limits = k.limits; sound = invariant.0; are = invariant.1 }

  -- and of the process that calls
  abbrev pub caller : (self : Contents A) → view_of k ≡ self → (pid : ℕ) → is_pid self.tables pid ≡ true → Caller A
  caller self is pid process = record { kernel = known; pid = pid; process = ap (λ (z : Contents A). is_pid z.tables pid) is ∙ process }

  -- the same, where the descriptors are as they were
  pub still_sound : (descs : Descs) → k.descs ≡ descs → (IsSound A (contents descs (nodes_of k.nodes) k.parked k.limits)) × (AreCounted A k.limits descs k.parked.calls)
  still_sound descs same = subst (λ (d : Descs). (IsSound A (contents d (nodes_of k.nodes) k.parked k.limits)) × (AreCounted A k.limits d k.parked.calls)) same invariant

-- what a call on a pipe leaves: other pipes, and all else as it was
pub moved_view : {A : Type 0} (k : Inside A) (new : KeptNodes) → SameFiles k.nodes new → with_pipes (view_of k) (nodes_of new) ≡ view_of (record k { nodes = new })
moved_view k new same = (λ i. contents k.descs (record { pipes = new.pipes; files = sym same.files i; names = sym same.names i; limits = sym same.limits i; memory = memory_of new }) k.parked k.limits)

-- A call is parked, and waits on a description that is open on a pipe.
pub record CallOnPipe {A : Type 0} (k : Contents A) : Type 0 where
  pub sound : IsSound A k
  pub number : ℕ
  pub call : ParkedCall A
  pub here : get nat_eq k.calls.calls number ≡ Some call
  pub key : ℕ
  pub kept : call.kept ≡ key ∷ []
  pub pipe : ℕ
  pub on : OpenOn k key (node.Pipe pipe)
  pub held : Pipe
  pub there : at k.nodes.pipes pipe ≡ Some held
