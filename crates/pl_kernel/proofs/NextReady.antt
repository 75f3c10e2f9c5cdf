-- The next call that can get on, among the kernel's and among the machine's.
use Rattle.std.proofs.Common.{◌≡◌, ℕ, ◌+◌, ◌<◌, ◌≤◌, Bool, true, false, Option, Some, None, IsSome, refl, sym, ◌∙◌, ap, subst, inl, inr, ⊎_elim, ◌⊎◌, nat_eq, arith}
use Rattle.std.specs.Prelude.{◌&&◌, is_some, option_map}
use Rattle.std.proofs.Math.Path.{fun_ext}
use Rattle.std.proofs.lemmas.Bool.{cases_order}
use Rattle.pl_model.specs.Map.{get}
use Rattle.pl_model.specs.Waking.{can_progress}
use Rattle.pl_model.specs.Numbered.{State, numbers}
use Rattle.pl_model.specs.State.{Core}
use Rattle.pl_model.specs.Renaming.{rename_waiting}
use Rattle.pl_model.proofs.renaming.Renames.{can_progress-rename}
use Rattle.pl_parked.specs.declared.call.ParkedCall.{ParkedCall}
use Rattle.pl_state.specs.Contents.{Contents, core_of}
use Rattle.pl_state.specs.Makes.{Stands}
use Rattle.pl_state.specs.Sound.{IsSound}
use Rattle.pl_state.proofs.by_call.Resumed.{parked-is}
use Rattle.pl_state.proofs.waiting.Calls.{get-each}
use Rattle.pl_kernel.specs.Progress.{is_ready, IsLeastFrom, TellsNextReady}

-- one number is below the other, or it isn't
pub sides : (a b : ℕ) → (a < b) ⊎ (b ≤ a)
sides a b = ⊎_elim (λ e. inr (omega arith)) (λ o. ⊎_elim (λ l. inl l) (λ l. inr (omega arith)) o) (cases_order a b)

pub mapped : {X Y : Type 0} (f : X → Y) (o : Option X) → is_some (option_map f o) ≡ is_some o
mapped f None = refl
mapped f (Some x) = refl

-- The calls that can get on are the same, whatever keys the machine has.
module _ {A : Type 0} (k : Contents A) (s : State A) (stands : Stands k s) where
  same_ready : (number : ℕ) → is_ready s.core number ≡ is_ready (core_of k) number
  same_ready number =
      let c = core_of k in
      λ i. (
      (ap (λ (z : Core A numbers). is_some (get nat_eq z.parked number)) (sym stands.renamed)
      ∙ ap is_some (get-each (rename_waiting stands.numbered) c.parked number)
      ∙ mapped (rename_waiting stands.numbered) (get nat_eq c.parked number)) i
      && (ap (λ z. can_progress z number) (sym stands.renamed) ∙ can_progress-rename stands.numbered c number) i)

pub tells_next_ready : {A : Type 0} (k : Contents A) (from : ℕ) (told : Option ℕ) → IsLeastFrom (is_ready (core_of k)) from told → TellsNextReady k from told
tells_next_ready k from told is = λ s. λ stands. subst (λ test. IsLeastFrom test from told) (sym (fun_ext (same_ready k s stands))) is

-- No call from `from` on, and below `least`, can get on.
abbrev pub NoneYet : (test : ℕ → Bool) → (from least : ℕ) → Type 0
NoneYet test from least = (other : ℕ) → from ≤ other → other < least → test other ≡ false

module _ {A : Type 0} (k : Contents A) (sound : IsSound A k) where
  abbrev test : ℕ → Bool
  test = is_ready (core_of k)

  -- what isn't parked can't be ready
  unparked : (other : ℕ) → get nat_eq k.calls.calls other ≡ None → test other ≡ false
  unparked other none = λ i. (ap is_some (parked-is k sound other None none) i) && can_progress (core_of k) other

  parked_there : (other : ℕ) → IsSome (get nat_eq k.calls.calls other) → is_some (get nat_eq (core_of k).parked other) ≡ true
  parked_there other there = by (get nat_eq k.calls.calls other) refl there
    where
      by : (o : Option (ParkedCall A)) → get nat_eq k.calls.calls other ≡ o → IsSome o → is_some (get nat_eq (core_of k).parked other) ≡ true
      by None h t = absurd (cc)
      by (Some w) h t = ap is_some (parked-is k sound other (Some w) h)

  -- what is ready is parked
  module _ (from least : ℕ) (up : from ≤ least) (none : NoneYet test from least) where
    -- where nothing is parked any more, nothing is ready
    pub none_left : ((number : ℕ) → least ≤ number → get nat_eq k.calls.calls number ≡ None) → IsLeastFrom test from None
    none_left h = λ other on. ⊎_elim (λ l. none other on l) (λ l. unparked other (h other l)) (sides other least)

    -- the first that is parked
    module _ (number : ℕ) (on : least ≤ number) (there : IsSome (get nat_eq k.calls.calls number)) (first : (other : ℕ) → least ≤ other → IsSome (get nat_eq k.calls.calls other) → number ≤ other) where
      -- nothing before it is ready
      before : NoneYet test from number
      before other l early = by (test other) refl
        where
          is_parked : (o : Option (ParkedCall A)) → get nat_eq k.calls.calls other ≡ o → test other ≡ true → IsSome o
          is_parked None h t = let f : false ≡ true = sym (unparked other h) ∙ t in absurd (cc)
          is_parked (Some w) h t = refl

          by : (b : Bool) → test other ≡ b → b ≡ false
          by false h = refl
          by true h = ⊎_elim
              (λ low. sym h ∙ none other l low)
              (λ high. let up = first other high (is_parked (get nat_eq k.calls.calls other) refl h) in absurd (omega (arith, up, early)))
              (sides other least)

      pub it_is : can_progress (core_of k) number ≡ true → IsLeastFrom test from (Some number)
      it_is can = (omega (arith, up, on), (λ i. parked_there number there i && can i), least_of)
        where
          least_of : (other : ℕ) → from ≤ other → test other ≡ true → number ≤ other
          least_of other l t = ⊎_elim (λ early. let f : false ≡ true = sym (before other l early) ∙ t in absurd (cc)) (λ late. late) (sides other number)

      pub it_is_not : can_progress (core_of k) number ≡ false → NoneYet test from (number + 1)
      it_is_not can other l early = ⊎_elim
          (λ below. before other l below)
          (λ at. let same : other ≡ number = omega (arith, at, early) in ap test same ∙ (λ i. is_some (get nat_eq (core_of k).parked number) && can i) ∙ and_false (is_some (get nat_eq (core_of k).parked number)))
          (sides other number)
        where
          and_false : (b : Bool) → (b && false) ≡ false
          and_false true = refl
          and_false false = refl
