-- Whether a read, a write or an open that waits can get on, at the kernel's keys.
use Rattle.std.proofs.Common.{◌≡◌, ℕ, ℤ, Bool, true, false, Option, Some, None, List, refl, ◌∙◌, ap, nat_eq}
use Rattle.std.specs.Prelude.{not}
use Rattle.std.proofs.lemmas.Bool.{eq-eqb}
use Rattle.pl_model.specs.declared.calls.Call.TheVariants.{Read, Write}
use Rattle.pl_model.specs.declared.cases.ReadCase.{ReadCase}
use Rattle.pl_model.specs.declared.cases.WriteCase.{WriteCase}
use Rattle.pl_model.specs.Packets.{front}
use Rattle.pl_model.specs.State.{Core}
use Rattle.pl_model.specs.Transfer.{read_case, read_row, write_row}
use Rattle.pl_model.specs.Waking.{gets_on, can_progress}
use Rattle.pl_model.specs.Numbered.{numbers}
use Rattle.pl_model.specs.Tables.{lowest}
use Rattle.pl_state.specs.Contents.{Contents, contents, core_of}
use Rattle.pl_state.specs.LastHold.{has_writer}
use Rattle.pl_state.specs.Parking.{OpenWaits}
use Rattle.pl_state.proofs.Known.{Known, CallOnPipe}
use Rattle.pl_state.proofs.by_call.Resumed.{progress-is}
use Rattle.pl_transfers.proofs.by_call.Resuming.{Comes_to, tries_read, tries_write}
use Rattle.pl_transfers.proofs.by_call.OpensAgain.{tried, tries}

-- a read gets on where it gives something
abbrev pub read_gets_on : ReadCase → Bool
read_gets_on (ReadCase.Gives n) = true
read_gets_on ReadCase.EndOfFile = true
read_gets_on ReadCase.Waits = false

-- a write gets on where it ends, or more of it goes in
abbrev pub write_gets_on : ℕ → WriteCase → Bool
write_gets_on taken WriteCase.Broken = true
write_gets_on taken WriteCase.CutShort = true
write_gets_on taken (WriteCase.Ends from to) = true
write_gets_on taken (WriteCase.Waits from to) = not (nat_eq to taken)

module _ {A : Type 0} (k : Contents A) (o : CallOnPipe k) where
  open o use {sound, number as n, call as w, here, pipe as p, held as y}

  abbrev c : Core A numbers
  c = core_of k

  pub read-progress : (fd : ℤ) (m : ℕ) → w.call ≡ Read fd m → w.taken ≡ 0 → (row : ReadCase) → read_case m (front y) (has_writer k.opened p) ≡ row → can_progress c n ≡ read_gets_on row
  read-progress fd m asked none row r = progress-is k sound n w here _ (tries_read k o fd m asked row r) ∙ by row
    where
      by : (row : ReadCase) → gets_on w.taken (read_row c p y row) ≡ read_gets_on row
      by (ReadCase.Gives count) = refl
      by ReadCase.EndOfFile = refl
      by ReadCase.Waits = ap (λ t. not (nat_eq 0 t)) none

  pub write-progress : (fd : ℤ) (bytes : List ℕ) (asked : w.call ≡ Write fd bytes) (row : WriteCase) → Comes_to k o fd bytes asked row → can_progress c n ≡ write_gets_on w.taken row
  write-progress fd bytes asked row r = progress-is k sound n w here _ (tries_write k o fd bytes asked row r) ∙ by row
    where
      by : (row : WriteCase) → gets_on w.taken (write_row c p bytes w.taken row) ≡ write_gets_on w.taken row
      by WriteCase.Broken = refl
      by WriteCase.CutShort = refl
      by (WriteCase.Ends from to) = refl
      by (WriteCase.Waits from to) = refl

-- an open gets on once it met its other end, whatever descriptor is free
module _ {A : Type 0} (m : Known A) (n pid d : ℕ) (met : Bool) (waits : OpenWaits (contents m.descs m.nodes m.calls m.limits) n pid d met) where
  abbrev k : Contents A
  k = contents m.descs m.nodes m.calls m.limits

  pub open-progress : can_progress (core_of k) n ≡ met
  open-progress = progress-is k m.sound n waits.call waits.here _ (tries m n pid d met waits) ∙ by met (lowest (core_of k) pid 0)
    where
      by : (has_met : Bool) (place : Option ℕ) → gets_on waits.call.taken (tried m n pid d met waits has_met place) ≡ has_met
      by true None = refl
      by true (Some fd) = refl
      by false place = ap not (eq-eqb waits.call.taken waits.call.taken refl)
