-- What a call that duplicates a descriptor leaves.
use Rattle.std.specs.Prelude.{◌≡◌, ℕ, pos, Option, None, Some}
use Rattle.pl_model.specs.declared.replies.Reply.{Reply}
use Rattle.pl_model.specs.declared.replies.Reply.TheVariants.{Fault, Fd}
use Rattle.pl_model.specs.declared.replies.Errno.TheVariants.{EMFILE}
use Rattle.pl_model.specs.Settle.{settle}
use Rattle.pl_model.specs.Tables.{install}
use Rattle.pl_state.specs.Contents.{Contents, core_of}

-- POSIX.1-2017, dup: the free descriptor names the description of the key too, with nothing to tidy after it. Where none is
-- free, nothing changes.
abbrev pub Duplicates : {A : Type 0} → Contents A → ℕ → ℕ → Option ℕ → Reply A → Contents A → Type 0
Duplicates old pid key None reply new = (reply ≡ Fault EMFILE) × (new ≡ old)
Duplicates old pid key (Some free) reply new = (reply ≡ Fd (pos free)) × (core_of new ≡ install (core_of old) pid free key) × (settle (core_of old) (core_of new) ≡ core_of new)
