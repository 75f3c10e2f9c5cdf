-- What is told of a parked call, whatever keys the machine has for what it keeps.
use Rattle.std.proofs.Common.{◌≡◌, ℕ, Option, Some, None, IfSome, refl, sym, ◌∙◌, ap, subst, nat_eq}
use Rattle.std.specs.Prelude.{option_map}
use Rattle.pl_model.specs.Map.{get}
use Rattle.pl_model.specs.Numbered.{State, numbers}
use Rattle.pl_model.specs.State.{Core, Waiting}
use Rattle.pl_model.specs.Renaming.{rename_waiting}
use Rattle.pl_parked.specs.declared.call.ParkedCall.{ParkedCall}
use Rattle.pl_state.specs.Contents.{Contents, core_of, waiting_of}
use Rattle.pl_state.specs.Makes.{Stands}
use Rattle.pl_state.specs.Parking.{ReadWaits}
use Rattle.pl_state.specs.Sound.{IsSound, IsWaiting, MayWait}
use Rattle.pl_state.proofs.by_call.Resumed.{parked-is}
use Rattle.pl_state.proofs.waiting.Calls.{get-each}
use Rattle.pl_kernel.specs.Taken.{TellsTaken, TellsOwner}

-- a field that a change leaves, of a call that may be there
same-field : {A : Type 0} (field : Waiting A numbers → ℕ) (f : Waiting A numbers → Waiting A numbers) → ((w : Waiting A numbers) → field (f w) ≡ field w)
    → (o : Option (Waiting A numbers)) → option_map field (option_map f o) ≡ option_map field o
same-field field f same None = refl
same-field field f same (Some w) = ap (λ n. Some n) (same w)

own-field : {A : Type 0} (field : Waiting A numbers → ℕ) (own : ParkedCall A → ℕ) → ((w : ParkedCall A) → field (waiting_of w) ≡ own w)
    → (o : Option (ParkedCall A)) → option_map field (option_map waiting_of o) ≡ option_map own o
own-field field own is None = refl
own-field field own is (Some w) = ap (λ n. Some n) (is w)

-- the field of the machine's call is that of the kernel's
module _ {A : Type 0} (k : Contents A) (sound : IsSound A k) (number : ℕ) (call : Option (ParkedCall A)) (here : get nat_eq k.calls.calls number ≡ call) where
  field-told : (field : Waiting A numbers → ℕ) (own : ParkedCall A → ℕ) → ((w : ParkedCall A) → field (waiting_of w) ≡ own w) → (s : State A) (stands : Stands k s)
      → ((w : Waiting A numbers) → field (rename_waiting stands.numbered w) ≡ field w) → option_map own call ≡ option_map field (get nat_eq s.core.parked number)
  field-told field own is s stands same =
      let c = core_of k in
      sym (
      ap (λ (z : Core A numbers). option_map field (get nat_eq z.parked number)) (sym stands.renamed)
      ∙ ap (option_map field) (get-each (rename_waiting stands.numbered) c.parked number)
      ∙ same-field field (rename_waiting stands.numbered) same (get nat_eq c.parked number)
      ∙ ap (option_map field) (parked-is k sound number call here)
      ∙ own-field field own is call)

  pub tells_taken : TellsTaken k number (option_map (λ w. w.taken) call)
  tells_taken = λ s. λ stands. field-told (λ w. w.taken) (λ w. w.taken) (λ w. refl) s stands (λ w. refl)

  pub tells_owner : TellsOwner k number (option_map (λ w. w.pid) call)
  tells_owner = λ s. λ stands. field-told (λ w. w.pid) (λ w. w.pid) (λ w. refl) s stands (λ w. refl)

-- a read that waits took nothing
pub read_took_none : {A : Type 0} (k : Contents A) (sound : IsSound A k) (number key n : ℕ) → ReadWaits k number key n → TellsTaken k number (Some 0)
read_took_none {A} k sound number key n read =
    let waiting : IsWaiting A read.call = subst (λ o. IfSome o (IsWaiting A)) read.here (sound.waiting number) in
    let none : read.call.taken ≡ 0 = subst (λ z. MayWait z read.call.taken) read.asked waiting.may in
    subst (λ m. TellsTaken k number (Some m)) none (tells_taken k sound number (Some read.call) read.here)
