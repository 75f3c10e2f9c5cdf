-- What a parked read comes to that is tried again, by what the kernel answered.
use Rattle.std.proofs.Common.{◌≡◌, ℕ, Some, ap, ◌∙◌}
use Rattle.std.specs.Prelude.{option_map, unwrap_or}
use Rattle.bindingclay.specs.Heap.{InBudget}
use Rattle.pl_model.specs.Fates.{taken_by}
use Rattle.pl_model.specs.Numbered.{State}
use Rattle.pl_state.specs.Contents.{Contents, core_of, waiting_of}
use Rattle.pl_state.specs.Makes.{Stands}
use Rattle.pl_state.proofs.waiting.Calls.{get-parked}
use Rattle.pl_polls.specs.Counts.{masks_again, masks_of_try}
use Rattle.pl_kernel.specs.Progress.{ready_entries}
use Rattle.pl_kernel.specs.Taken.{TellsTaken}
use Rattle.pl_kernel.specs.Buffers.{IsWaitingRead}

-- a read has no entries
pub no_entries : (k : Contents InBudget) (number : ℕ) → IsWaitingRead k number → ready_entries k number ≡ 0
unfolding core_of
no_entries k number read =
    let r = read.2 in
    ap (masks_again (core_of k)) (get-parked k.calls.calls number ∙ ap (λ o. option_map waiting_of o) r.here)
    ∙ ap (masks_of_try (core_of k) (waiting_of r.call)) r.asked

-- and took nothing
pub took_none : (k : Contents InBudget) (number : ℕ) → TellsTaken k number (Some 0) → (s : State InBudget) → Stands k s → 0 ≡ taken_by s.core number
took_none k number told s stands = ap (λ o. unwrap_or o 0) (told s stands)
