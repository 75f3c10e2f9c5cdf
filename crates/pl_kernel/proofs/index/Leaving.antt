-- What a step leaves of the calls that wait.
use Rattle.std.proofs.Common.{◌≡◌, ℕ, ◌≤◌, ◌<◌, Option, List, sym, ◌∙◌, ap, nat_eq, arith}
use Rattle.std.specs.declared.option.Option.TheVariants.{None, Some}
use Rattle.std.proofs.lemmas.Bool.{eqb-true}
use Rattle.pl_model.specs.declared.calls.Step.{Step}
use Rattle.pl_model.specs.Map.{get}
use Rattle.pl_model.specs.Keys.{NewKeys, drawn}
use Rattle.pl_model.specs.State.{Core, Waiting}
use Rattle.pl_model.specs.Trial.{Flow, flowed, lost, gained}
use Rattle.pl_model.specs.Settle.{settle}
use Rattle.pl_model.specs.Step.{core_step, happen}
use Rattle.pl_model.specs.Numbered.{numbers}
use Rattle.pl_model.specs.InOrder.{AreInOrder}
use Rattle.pl_model.proofs.by_call.Keeps as all_keep
use Rattle.pl_model.proofs.by_call.Keeps.{Changes, step-keeps}
use Rattle.pl_model.proofs.streams.StayingMet.{IsOfCall, happen_met}
use Rattle.pl_model.proofs.touching.SameAt.{IsFit}
use Rattle.pl_model.proofs.touching.Parked.{core_step-is, settled-parked}
use Rattle.pl_state.specs.Sound.{Keeps}

-- what is known of a kernel's state, as far as it is wanted here
pub record IsKnown {A : Type 0} (c : Core A numbers) : Type 0 where
  pub fit : IsFit c
  pub order : AreInOrder c
  pub keeps : (number : ℕ) (v : Waiting A numbers) → get nat_eq c.parked number ≡ Some v → Keeps v.call v.kept

-- The numbers of calls only rise.
module _ {A : Type 0} (n : ℕ) where
  abbrev IsPast : Core A numbers → Type 0
  IsPast s = n ≤ s.next_call

  past_flowed : (s : Core A numbers) (flow : Flow numbers) → IsPast s → IsPast (flowed s flow)
  unfolding flowed
  past_flowed s flow h = into (lost s flow.out) flow.into (out flow.out)
    where
      into : (u : Core A numbers) (i : Option (ℕ × List ℕ)) → IsPast u → IsPast (gained u i)
      into u None h = h
      into u (Some i) h = h

      out : (o : Option (ℕ × ℕ)) → IsPast (lost s o)
      out None = h
      out (Some o) = h

  past_settled : (before s : Core A numbers) → IsPast s → IsPast (settle before s)
  unfolding settle
  past_settled before s h = h

  past_kept : (new : NewKeys numbers) → all_keep.Keeps {A = A} new IsPast
  past_kept new =
      let changes : Changes new IsPast = record {
        one = eqb-true;
        install = λ s pid fd k h. h;
        close_row = λ s pid fd h. h;
        describe_other = λ s n mode flags h. h;
        describe = λ s n mode flags h. h;
        set_description = λ s k y on h. h;
        new_pipe = λ s direct h. h;
        set_capacity = λ s k size h. h;
        set_file = λ s f bytes h. h;
        create_file = λ s name h. h;
        create_fifo = λ s name h. h;
        meet = λ s p mode h. h;
        forget_name = λ s name h. h;
        fork = λ s pid child h. h;
        exit = λ s pid h. h;
      } in
      record {
        changes = changes;
        start = λ s pid h. h;
        flowed = past_flowed;
        parked = λ s w h. omega (arith, h);
        parked_again = λ s c w h. h;
        without_call = λ s c h. h;
        settle = past_settled;
      }

module _ {A : Type 0} where
  -- No call is of neither kind.
  nothing : IsOfCall {A = A} (λ w. ⊥)
  nothing = record { taken = λ w t h. h; met = λ w h. h }

module _ {A : Type 0} (c : Core A numbers) (x : Step A) (new : NewKeys numbers) where
  -- what the step leaves
  abbrev pub left : Core A numbers
  left = (drawn new (core_step c x)).state

  pub rises : c.next_call ≤ left.next_call
  rises = step-keeps (past_kept c.next_call new) c x (omega arith)

  parked_is : left.parked ≡ (drawn new (happen c x)).state.parked
  parked_is = ap (λ z. z.state.parked) (core_step-is c x new) ∙ settled-parked c (drawn new (happen c x)).state

  -- What isn't parked is parked by a step only under the next number.
  pub none_comes : AreInOrder c → (n : ℕ) → n < c.next_call → get nat_eq c.parked n ≡ None → (v : Waiting A numbers) → get nat_eq left.parked n ≡ Some v → ⊥
  none_comes order n low none v there = happen_met n (λ w. ⊥) nothing new c order low (λ w h. no (sym none ∙ h)) x v (ap (λ ps. get nat_eq ps n) (sym parked_is) ∙ there)
    where
      no : {w : Waiting A numbers} → None ≡ Some w → ⊥
      no e = cc
