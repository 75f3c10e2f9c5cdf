-- What is told of whether a call can get on, whatever keys the machine has.
use Rattle.std.proofs.Common.{◌≡◌, ℕ, Bool, sym, ◌∙◌, ap}
use Rattle.pl_model.specs.Waking.{can_progress}
use Rattle.pl_model.proofs.by_call.InVain.{waits_in_vain}
use Rattle.pl_model.proofs.renaming.Renames.{can_progress-rename}
use Rattle.pl_state.specs.Contents.{Contents, core_of}
use Rattle.pl_kernel.specs.Progress.{TellsProgress, OrWaitsInVain}

module _ {A : Type 0} (k : Contents A) (number : ℕ) (told : Bool) where
  pub tells_progress : told ≡ can_progress (core_of k) number → TellsProgress k number told
  tells_progress is = λ s. λ stands. is ∙ sym (can_progress-rename stands.numbered (core_of k) number) ∙ ap (λ z. can_progress z number) stands.renamed

  pub waits_where_not : TellsProgress k number told → OrWaitsInVain k number told
  waits_where_not tells = λ vain. λ s. λ stands. waits_in_vain s number (sym (tells s stands) ∙ vain)
