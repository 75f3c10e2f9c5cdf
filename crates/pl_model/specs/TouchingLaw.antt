-- What a step leaves of the calls that wait.
use Rattle.std.specs.Prelude.{◌≡◌, ℕ, ◌<◌, Bool, true, false, nat_eq, length, All, IsSome, Some, None}
use Rattle.pl_model.specs.declared.calls.Call.{Call}
use Rattle.pl_model.specs.declared.calls.Step.{Step}
use Rattle.pl_model.specs.declared.calls.Step.TheVariants.{Begin, Resume}
use Rattle.pl_model.specs.declared.replies.Reply.TheVariants.{Parked}
use Rattle.pl_model.specs.Map.{get}
use Rattle.pl_model.specs.Keys.{Node, PipeNode, FileNode}
use Rattle.pl_model.specs.State.{Core, Description, Waiting}
use Rattle.pl_model.specs.Numbered.{numbers, State, step}
use Rattle.pl_model.specs.Laws.{IsSound}
use Rattle.pl_model.specs.InOrder.{AreInOrder}
use Rattle.pl_model.specs.Renaming.{Renamings, rename, rename_node}
use Rattle.pl_model.specs.Waking.{can_progress}
use Rattle.pl_model.specs.Touching.{keeps_at, touches, is_of_call}

-- the call is an open of a name
abbrev pub opens_name : {A : Type 0} → Call A → Bool
opens_name (Call.OpenName name mode flags) = true
opens_name call = false

module _ {A : Type 0} where
  -- something stands under the node
  abbrev pub StandsUnder : Core A numbers → Node numbers → Type 0
  StandsUnder c (PipeNode p) = IsSome (c.pipes p)
  StandsUnder c (FileNode f) = IsSome (c.files f)

  -- What is known of a state, as far as the law wants it.
  pub record IsWhole (s : State A) : Type 0 where
    pub sound : IsSound s
    pub order : AreInOrder s.core
    -- a process that isn't there names nothing
    pub rows : (pid fd : ℕ) → s.core.processes pid ≡ false → s.core.rows pid fd ≡ None
    -- what a call keeps is described
    pub kept : (number : ℕ) (w : Waiting A numbers) → get nat_eq s.core.parked number ≡ Some w → All (λ d. IsSome (s.core.descriptions d)) w.kept
    -- what is described is on a node that is there
    pub there : (d : ℕ) (x : Description numbers) → s.core.descriptions d ≡ Some x → StandsUnder s.core x.node

  -- The call waits under its number as it did, and can get on where it could.
  pub record IsUndisturbed (s u : State A) (number : ℕ) (w : Waiting A numbers) : Type 0 where
    pub parked : get nat_eq u.core.parked number ≡ Some w
    pub progress : can_progress u.core number ≡ can_progress s.core number

-- A step leaves each call undisturbed that keeps descriptions, and none on a node which the step touches.
abbrev pub LeavesTheUntouched : Type 0 → Type 0
LeavesTheUntouched A =
    (s : State A) (x : Step A) (number : ℕ) (w : Waiting A numbers) → IsWhole s → get nat_eq s.core.parked number ≡ Some w → 0 < length w.kept →
    ((node : Node numbers) → keeps_at s.core node w ≡ true → touches s.core x node ≡ false) → IsUndisturbed s (step s x).state number w

-- So it does with one that keeps none, as a poll of negative descriptors, unless the step is of that call.
abbrev pub LeavesAnother : Type 0 → Type 0
LeavesAnother A =
    (s : State A) (x : Step A) (number : ℕ) (w : Waiting A numbers) → IsWhole s → get nat_eq s.core.parked number ≡ Some w → is_of_call x number w ≡ false →
    ((node : Node numbers) → keeps_at s.core node w ≡ true → touches s.core x node ≡ false) → IsUndisturbed s (step s x).state number w

-- A call that begins, waits, and took no byte leaves each other undisturbed, if it opens no name.
abbrev pub WaitsAlone : Type 0 → Type 0
WaitsAlone A =
    (s : State A) (pid : ℕ) (call : Call A) (n : ℕ) (v : Waiting A numbers) (number : ℕ) (w : Waiting A numbers) → IsWhole s → opens_name call ≡ false →
    (step s (Begin pid call)).reply ≡ Parked n → get nat_eq (step s (Begin pid call)).state.core.parked n ≡ Some v → v.taken ≡ 0 →
    get nat_eq s.core.parked number ≡ Some w → IsUndisturbed s (step s (Begin pid call)).state number w

-- A Resume of a call that can't get on leaves each call undisturbed, this one too.
abbrev pub ResumesAlone : Type 0 → Type 0
ResumesAlone A =
    (s : State A) (c number : ℕ) (w : Waiting A numbers) → IsWhole s → can_progress s.core c ≡ false → get nat_eq s.core.parked number ≡ Some w →
    IsUndisturbed s (step s (Resume c)).state number w

-- The call waits under its number, and is the same: of its process, with what it asks, keeps and took. If it is an open, another one may
-- have met it.
abbrev pub GoesOn : {A : Type 0} → Core A numbers → ℕ → Waiting A numbers → Type 0
GoesOn c number w = (met : Bool) × (get nat_eq c.parked number ≡ Some (record w { met = met }))

-- A call that waits goes on waiting under its number, unless the step is of that call: it tries it again, interrupts it, or ends its
-- process.
abbrev pub EndsByItsOwn : Type 0 → Type 0
EndsByItsOwn A =
    (s : State A) (x : Step A) (number : ℕ) (w : Waiting A numbers) → get nat_eq s.core.parked number ≡ Some w → is_of_call x number w ≡ false →
    GoesOn (step s x).state.core number w

-- Whatever keys the state has, the same step touches the same nodes.
abbrev pub TouchesUnderRenaming : Type 0 → Type 0
TouchesUnderRenaming A = (r : Renamings) (s : Core A numbers) (x : Step A) (node : Node numbers) → touches (rename r s) x (rename_node r node) ≡ touches s x node
