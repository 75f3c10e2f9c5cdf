-- A call that stays parked keeps the same descriptions, and each that stays has the node and the mode that it had.
use Rattle.std.proofs.Common.{◌≡◌, ◌≢◌, ℕ, Bool, true, false, cond, Option, List, nat_eq, refl, sym, ◌∙◌, ap, subst}
use Rattle.std.specs.Prelude.{option_map}
use Rattle.std.specs.declared.option.Option.TheVariants.{None, Some}
use Rattle.std.proofs.lemmas.Bool.{eqb-true}
use Rattle.pl_model.specs.declared.calls.Mode.{Mode}
use Rattle.pl_model.specs.declared.calls.Step.{Step}
use Rattle.pl_model.specs.Map.{get, kept_if}
use Rattle.pl_model.specs.Keys.{Node, NewKeys, drawn}
use Rattle.pl_model.specs.State.{Core, Description, Waiting, set_description}
use Rattle.pl_model.specs.Settle.{settle}
use Rattle.pl_model.specs.Live.{is_live}
use Rattle.pl_model.specs.Trial.{Flow, lost, gained, flowed}
use Rattle.pl_model.specs.Step.{core_step}
use Rattle.pl_model.specs.Numbered.{numbers}
use Rattle.pl_model.specs.InOrder.{AreInOrder}
use Rattle.pl_model.specs.StandsFor.{AreUnused}
use Rattle.pl_model.proofs.by_call.Keeps as all_keep
use Rattle.pl_model.proofs.by_call.Keeps.{Changes, end, end_of, step-keeps}
use Rattle.pl_model.proofs.streams.Maps.{differ}
use Rattle.pl_model.proofs.streams.StayingMet.{IsOfCall, happen_met, holds_at_first}
use Rattle.pl_model.proofs.touching.Parked.{core_step-is}

module _ {A : Type 0} (kept : List ℕ) where
  abbrev keeps_these : Waiting A numbers → Type 0
  keeps_these w = w.kept ≡ kept

  keeps_these_stays : IsOfCall keeps_these
  keeps_these_stays = record { taken = λ w t k. k; met = λ w k. k }

module _ {A : Type 0} (c : Core A numbers) (x : Step A) (new : NewKeys numbers) where
  -- What stays parked under a number keeps what was kept there.
  pub kept_stays : AreInOrder c → (n : ℕ) (w : Waiting A numbers) → get nat_eq c.parked n ≡ Some w → (v : Waiting A numbers) → get nat_eq (drawn new (core_step c x)).state.parked n ≡ Some v → v.kept ≡ w.kept
  unfolding settle
  kept_stays order n w here v there =
      happen_met n (keeps_these w.kept) (keeps_these_stays w.kept) new c order (order.below n w here) (holds_at_first (keeps_these w.kept) (keeps_these_stays w.kept) c.parked n w here refl) x v
      (ap (λ z. get nat_eq z.state.parked n) (sym (core_step-is c x new)) ∙ there)

module _ {A : Type 0} (d : ℕ) (had : Node numbers × Mode) where
  -- the description of the key is on the node, with the mode, if it is there
  abbrev IsOn : Core A numbers → Type 0
  IsOn s = (x : Description numbers) → s.descriptions d ≡ Some x → end x ≡ had

  on_other : (s : Core A numbers) (k : ℕ) (y : Description numbers) → k ≢ d → IsOn s → IsOn (set_description s k y)
  on_other s k y apart h x e = h x (subst (λ b. cond b (Some y) (s.descriptions d) ≡ Some x) (differ k d apart) e)

  on_node : (s : Core A numbers) (k : ℕ) (y : Description numbers) → end_of s k ≡ Some (end y) → IsOn s → IsOn (set_description s k y)
  on_node s k y on h x e = at (nat_eq k d) refl e where
    own : (o : Option (Description numbers)) → s.descriptions d ≡ o → option_map end o ≡ Some (end y) → end y ≡ had
    own None is on = absurd (cc)
    own (Some z) is on = (let same : end z ≡ end y = cc in sym same ∙ h z is)

    at : (b : Bool) → nat_eq k d ≡ b → cond b (Some y) (s.descriptions d) ≡ Some x → end x ≡ had
    at true is e = (let same : y ≡ x = cc in ap end (sym same) ∙ own (s.descriptions d) refl (ap (end_of s) (sym (eqb-true k d is)) ∙ on))
    at false is e = h x e

  on_flowed : (s : Core A numbers) (flow : Flow numbers) → IsOn s → IsOn (flowed s flow)
  unfolding flowed
  on_flowed s flow h = into (lost s flow.out) flow.into (out flow.out) where
    into : (u : Core A numbers) (i : Option (ℕ × List ℕ)) → IsOn u → IsOn (gained u i)
    into u None h = h
    into u (Some i) h = h

    out : (o : Option (ℕ × ℕ)) → IsOn (lost s o)
    out None = h
    out (Some o) = h

  on_settled : (before s : Core A numbers) → IsOn s → IsOn (settle before s)
  unfolding settle
  on_settled before s h x e = at (is_live s d) e where
    at : (b : Bool) → kept_if b (s.descriptions d) ≡ Some x → end x ≡ had
    at true e = h x e
    at false e = absurd (cc)

  on_kept : (new : NewKeys numbers) → new.description ≢ d → new.other_description ≢ d → all_keep.Keeps {A = A} new IsOn
  on_kept new first second =
      let changes : Changes new IsOn = record {
        one = eqb-true;
        install = λ s pid fd k h. h;
        close_row = λ s pid fd h. h;
        describe_other = λ s n mode flags h. on_other s new.other_description _ second h;
        describe = λ s n mode flags h. on_other s new.description _ first h;
        set_description = λ s k y on h. on_node s k y on h;
        new_pipe = λ s direct h. h;
        set_capacity = λ s k size h. h;
        set_file = λ s f bytes h. h;
        create_file = λ s name h. h;
        create_fifo = λ s name h. h;
        meet = λ s p mode h. h;
        forget_name = λ s name h. h;
        fork = λ s pid child h. h;
        exit = λ s pid h. h;
      } in
      record {
        changes = changes;
        start = λ s pid h. h;
        flowed = on_flowed;
        parked = λ s w h. h;
        parked_again = λ s c w h. h;
        without_call = λ s c h. h;
        settle = on_settled;
      }

  -- A description that stays has the node and the mode that it had.
  pub end_stays : (c : Core A numbers) (x : Step A) (new : NewKeys numbers) → AreUnused c new → (y : Description numbers) → c.descriptions d ≡ Some y → end y ≡ had →
      (z : Description numbers) → (drawn new (core_step c x)).state.descriptions d ≡ Some z → end z ≡ had
  end_stays c x new unused y here on z there = step-keeps (on_kept new (apart new.description unused.description.descriptions) (apart new.other_description unused.other_description.descriptions)) c x first z there where
    first : IsOn c
    first v e = (let same : y ≡ v = one (sym here ∙ e) in ap end (sym same) ∙ on)
      where
        one : Some y ≡ Some v → y ≡ v
        one e = cc

    apart : (k : ℕ) → c.descriptions k ≡ None → k ≢ d
    apart k none e = (let no : None ≡ Some y = sym none ∙ ap c.descriptions e ∙ here in cc)
