-- The opens that wait and weren't met, as they are listed, before and after a change of the calls.
use Rattle.std.proofs.Common.{◌≡◌, ℕ, Bool, true, false, not, Option, Some, None, refl, sym, ◌∙◌, ap, inl, inr, nat_eq}
use Rattle.std.specs.Prelude.{◌&&◌, ◌||◌, option_and_then}
use Rattle.std.specs.BTreeSet.{BTreeSet}
use Rattle.std.proofs.lemmas.Bool.{and_right}
use Rattle.std.proofs.lemmas.Bool.Decides.{eqb_tells}
use Rattle.pl_model.specs.declared.calls.Mode.{Mode}
use Rattle.pl_model.specs.Map.{Map, get}
use Rattle.pl_model.specs.Modes.{reads, writes}
use Rattle.pl_parked.specs.declared.call.ParkedCall.{ParkedCall}
use Rattle.pl_parked.specs.declared.opens.WaitingOpen.{WaitingOpen}
use Rattle.pl_parked.specs.Meeting.{meets}
use Rattle.pl_parked.specs.Waiting.{is_in, is_named, key_of, waiting_open, has_met, Lists}
use Rattle.pl_numbered.proofs.Replacing.{Replaces, and-true, lists-same, lists-more, lists-fewer}
use Rattle.pl_parked.proofs.Waiting.{other-number, listed-met}

module _ {A : Type 0} where
  -- how what stands at a number is listed
  abbrev pub shown_open : WaitingOpen → Option (ParkedCall A) → Bool
  shown_open key o = is_named (option_and_then (waiting_open key.number) o) key

  shown-at : (n : ℕ) (x : ParkedCall A) (key : WaitingOpen) → is_named (waiting_open n x) key ≡ (shown_open key (Some x) && nat_eq n key.number)
  shown-at n x key = elim (eqb_tells n key.number) as (λ _. is_named (waiting_open n x) key ≡ (shown_open key (Some x) && nat_eq n key.number)) [
    | inl t ↦ ap (λ m. is_named (waiting_open m x) key) t.1 ∙ sym (and-true (shown_open key (Some x))) ∙ ap (λ b. shown_open key (Some x) && b) (sym t.0)
    | inr t ↦ other-number n x key t.1 ∙ sym (and_right (shown_open key (Some x)) (nat_eq n key.number) t.0)
  ]

  module _ (n : ℕ) (before after : Map ℕ (ParkedCall A)) (x : ParkedCall A) (set : BTreeSet WaitingOpen) (lists : Lists set before) where
    -- a call more
    pub opens-more : Replaces n before after None (Some x) → (new : BTreeSet WaitingOpen) → ((key : WaitingOpen) → is_in new key ≡ (is_named (waiting_open n x) key || is_in set key)) → Lists new after
    opens-more r new = lists-more (λ (key : WaitingOpen). key.number) shown_open n before after None (Some x) r (is_in set) lists (is_named (waiting_open n x)) (is_in new) (shown-at n x) (λ key. refl)

    -- a call that is listed as it was
    pub opens-same : (y : ParkedCall A) → Replaces n before after (Some x) (Some y) → ((number : ℕ) → waiting_open number x ≡ waiting_open number y) → Lists set after
    opens-same y r same = lists-same (λ (key : WaitingOpen). key.number) shown_open n before after (Some x) (Some y) r (is_in set) lists (λ key. ap (λ o. is_named o key) (same key.number))

    -- a call that isn't listed any more
    pub opens-fewer : (o : Option (ParkedCall A)) → Replaces n before after (Some x) o → ((key : WaitingOpen) → shown_open key o ≡ false)
        → (new : BTreeSet WaitingOpen) → ((key : WaitingOpen) → is_in new key ≡ (not (is_named (waiting_open n x) key) && is_in set key)) → Lists new after
    opens-fewer o r none new = lists-fewer (λ (key : WaitingOpen). key.number) shown_open n before after (Some x) o r (is_in set) lists (is_named (waiting_open n x)) (is_in new) (shown-at n x) none

  -- an open that an open with the mode meets is in the set exactly if it wasn't met
  module _ (set : BTreeSet WaitingOpen) (calls : Map ℕ (ParkedCall A)) (lists : Lists set calls) (pipe : ℕ) (mode : Mode) (n : ℕ) where
    at-call : (o : Option (ParkedCall A)) → get nat_eq calls n ≡ o
        → has_met set pipe mode n ≡ ((reads mode && is_named (option_and_then (waiting_open n) o) (key_of pipe false n)) || (writes mode && is_named (option_and_then (waiting_open n) o) (key_of pipe true n)))
    at-call o is = (λ i. (reads mode && lists (key_of pipe false n) i) || (writes mode && lists (key_of pipe true n) i))
        ∙ ap (λ o. (reads mode && is_named (option_and_then (waiting_open n) o) (key_of pipe false n)) || (writes mode && is_named (option_and_then (waiting_open n) o) (key_of pipe true n))) is

    pub met-none : has_met set pipe mode n ≡ false → (x : ParkedCall A) → get nat_eq calls n ≡ Some x → meets pipe mode x ≡ true → x.met ≡ true
    met-none h x is m = by x.met (sym (ap (λ b. b && not x.met) m) ∙ sym (listed-met mode pipe n x) ∙ sym (at-call (Some x) is) ∙ h)
      where
        by : (b : Bool) → (true && not b) ≡ false → b ≡ true
        by true e = refl
        by false e = absurd (cc)
