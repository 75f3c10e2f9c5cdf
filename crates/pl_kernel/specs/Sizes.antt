-- How long the list of a reply is.
use Rattle.std.specs.Prelude.{◌≡◌, ℕ, min, length}
use Rattle.pl_model.specs.declared.calls.Call.{Call}
use Rattle.pl_model.specs.declared.calls.Step.{Step}
use Rattle.pl_model.specs.declared.replies.Reply.{Reply}
use Rattle.pl_model.specs.declared.replies.Reply.TheVariants.{Bytes, Masks}
use Rattle.pl_model.specs.Keys.{Keys, NewKeys, drawn}
use Rattle.pl_model.specs.Modes.{reads}
use Rattle.pl_model.specs.State.{Core}
use Rattle.pl_model.specs.Begin.{open_for}
use Rattle.pl_model.specs.Step.{core_step}
use Rattle.pl_model.specs.Numbered.{numbers}
use Rattle.pl_state.specs.Contents.{Contents, core_of}
use Rattle.pl_transfers.specs.Readable.{readable}
use Rattle.pl_polls.specs.Counts.{masks_begun}
use Rattle.pl_kernel.specs.declared.sizes.ReplySizes.{ReplySizes}

-- a reply without a list
abbrev pub no_list : ReplySizes
no_list = record { bytes = 0; masks = 0 }

abbrev pub sizes_of : {A : Type 0} → Reply A → ReplySizes
sizes_of (Bytes bytes) = record { bytes = length bytes; masks = 0 }
sizes_of (Masks ready masks) = record { bytes = 0; masks = length masks }
sizes_of other = no_list

module _ {A : Type 0} {K : Keys} where
  -- the sizes of the reply of a call that a process begins: only a read and a poll have a list
  abbrev pub sizes_begun : Core A K → ℕ → Call A → ReplySizes
  sizes_begun s pid (Call.Read fd n) = record { bytes = min n (readable s (open_for reads s pid fd)); masks = 0 }
  sizes_begun s pid (Call.Poll entries wait) = record { bytes = 0; masks = masks_begun s pid entries wait }
  sizes_begun s pid other = no_list

-- These are the sizes of the reply that the machine gives to the step, under the kernel's own keys.
abbrev pub TellsSizes : {A : Type 0} → Contents A → Step A → ReplySizes → Type 0
TellsSizes k x sizes = (new : NewKeys numbers) → sizes_of (drawn new (core_step (core_of k) x)).reply ≡ sizes
