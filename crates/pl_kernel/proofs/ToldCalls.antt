-- What is told of a parked call, whatever keys the machine has for what it keeps.
use Rattle.std.proofs.Common.{◌≡◌, ℕ, [], ◌∷◌, Option, Some, None, IsSome, IfSome, refl, sym, ◌∙◌, ap, subst, nat_eq}
use Rattle.std.specs.Prelude.{map, option_map, option_and_then, IsSomeAnd}
use Rattle.std.proofs.lemmas.Bool.{eqb-true}
use Rattle.pl_model.specs.declared.calls.Call.{Call}
use Rattle.pl_model.specs.declared.calls.Call.TheVariants as call
use Rattle.pl_model.specs.Map.{get}
use Rattle.pl_model.specs.Numbered.{State, numbers}
use Rattle.pl_model.specs.State.{Core}
use Rattle.pl_model.specs.Renaming.{rename_waiting, Renamings}
use Rattle.pl_parked.specs.declared.call.ParkedCall.{ParkedCall}
use Rattle.pl_state.specs.Contents.{Contents, core_of, waiting_of}
use Rattle.pl_state.specs.Makes.{Stands}
use Rattle.pl_state.specs.Parking.{ReadWaits}
use Rattle.pl_state.specs.Sound.{IsSound, IsWaiting, MayWait}
use Rattle.pl_state.proofs.by_call.Resumed.{parked-is}
use Rattle.pl_state.proofs.waiting.Calls.{get-each}
use Rattle.pl_kernel.specs.declared.told_calls.CallFacts.{CallFacts}
use Rattle.pl_kernel.specs.ToldCalls.{facts_of_call, IsReadAt, IsReadOf, TellsAlike, TellsCall, TellsEach}

-- each call that may wait is told of
may-told : {A : Type 0} (pid taken : ℕ) (x : Call A) → MayWait x taken → IsSome (facts_of_call pid x)
may-told pid taken (call.Read fd n) may = refl
may-told pid taken (call.Write fd bytes) may = refl
may-told pid taken (call.OpenName name mode flags) may = refl
may-told pid taken (call.Splice from from_offset to to_offset len flags) may = refl
may-told pid taken (call.Tee from to len flags) may = refl
may-told pid taken (call.Poll entries wait) may = refl
may-told pid taken other may = absurd may

module _ {A : Type 0} (k : Contents A) (sound : IsSound A k) (number : ℕ) (found : Option (ParkedCall A)) (here : get nat_eq k.calls.calls number ≡ found) where
  -- the call of the machine, under its keys
  of_state : (s : State A) (stands : Stands k s) → get nat_eq s.core.parked number ≡ option_map (rename_waiting stands.numbered) (option_map waiting_of found)
  of_state s stands =
      ap (λ (z : Core A numbers). get nat_eq z.parked number) (sym stands.renamed)
      ∙ get-each (rename_waiting stands.numbered) (core_of k).parked number
      ∙ ap (option_map (rename_waiting stands.numbered)) (parked-is k sound number found here)

  abbrev told : Option CallFacts
  told = option_and_then (λ w. facts_of_call w.pid w.call) found

  same-told : (r : Renamings) (o : Option (ParkedCall A)) → option_and_then (λ w. facts_of_call w.pid w.call) o ≡ option_and_then (λ w. facts_of_call w.pid w.call) (option_map (rename_waiting r) (option_map waiting_of o))
  same-told r None = refl
  same-told r (Some w) = refl

  pub tells_call : TellsCall k number told
  tells_call = λ s. λ stands. same-told stands.numbered found ∙ ap (option_and_then (λ w. facts_of_call w.pid w.call)) (sym (of_state s stands))

  pub tells_each : TellsEach k number told
  tells_each = λ s. λ stands. λ parked.
      by stands.numbered found here (subst (λ o. IsSome o) (of_state s stands) parked)
    where
      by : (r : Renamings) (o : Option (ParkedCall A)) → get nat_eq k.calls.calls number ≡ o → IsSome (option_map (rename_waiting r) (option_map waiting_of o)) → IsSome (option_and_then (λ w. facts_of_call w.pid w.call) o)
      by r None stood parked = absurd (cc)
      by r (Some w) stood parked = (let waits : IsWaiting A w = subst (λ o. IfSome o (IsWaiting A)) stood (sound.waiting number) in may-told w.pid w.taken w.call waits.may)

module _ {A : Type 0} (k : Contents A) (sound : IsSound A k) where
  -- a read that waits in the kernel waits in the machine, and keeps what the machine has in its place
  read_at : (number key n : ℕ) → ReadWaits k number key n → (s : State A) (stands : Stands k s) → IsReadAt s.core (map stands.numbered.description.to (key ∷ [])) number
  read_at number key n r s stands =
      let waits : IsWaiting A r.call = subst (λ o. IfSome o (IsWaiting A)) r.here (sound.waiting number) in
      let kept = map stands.numbered.description.to (key ∷ []) in
      subst (λ o. IsSomeAnd o (IsReadOf kept)) (sym (of_state k sound number (Some r.call) r.here s stands)) (
      record {
        fd = r.fd;
        n = n;
        asked = r.asked;
        keeps = ap (map stands.numbered.description.to) r.kept;
        nothing = subst (λ (x : Call A). MayWait x r.call.taken) r.asked waits.may;
      }
      )

  pub tells_alike : (number other key second n m : ℕ) → ReadWaits k number key n → ReadWaits k other second m → TellsAlike k number other (nat_eq key second)
  tells_alike number other key second n m a b = λ same. λ s. λ stands.
      let to = stands.numbered.description.to in
      let is : key ≡ second = eqb-true key second same in
      (map to (key ∷ []), read_at number key n a s stands, subst (λ x. IsReadAt s.core (map to (x ∷ [])) other) (sym is) (read_at other second m b s stands))
