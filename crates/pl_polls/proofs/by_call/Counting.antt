-- How many masks a parked call answers, at the kernel's keys.
use Rattle.std.proofs.Common.{◌≡◌, ℕ, ℤ, Bool, false, List, length, Some, None, refl, sym, ◌∙◌, ap, nat_eq, Bor}
use Rattle.std.specs.Prelude.{◌||◌, if◌then◌else◌}
use Rattle.std.specs.List.{list_any}
use Rattle.pl_model.specs.declared.calls.Call.{Call}
use Rattle.pl_model.specs.declared.calls.Call.TheVariants.{Poll}
use Rattle.pl_model.specs.declared.flags.PollMask.{PollMask}
use Rattle.pl_model.specs.Map.{get}
use Rattle.pl_model.specs.Poll.{is_ready}
use Rattle.pl_model.specs.State.{Core, Waiting}
use Rattle.pl_model.specs.Numbered.{numbers}
use Rattle.pl_parked.specs.declared.call.ParkedCall.{ParkedCall}
use Rattle.pl_state.specs.Contents.{Contents, core_of, waiting_of}
use Rattle.pl_state.specs.Sound.{IsSound}
use Rattle.pl_state.proofs.by_call.Resumed.{parked-is}
use Rattle.pl_polls.specs.declared.masks.Descriptions.TheVariants.{Kept}
use Rattle.pl_polls.specs.Masks.{masks_of}
use Rattle.pl_polls.specs.Counts.{masks_of_try, masks_again}
use Rattle.pl_polls.proofs.by_call.Retrying.{kept_masks}

-- another call answers none
other-none : {A : Type 0} (c : Core A numbers) (w : Waiting A numbers) (call : Call A) → ((entries : List (ℤ × PollMask)) (wait : Bool) → call ≡ Poll entries wait → ⊥) → masks_of_try c w call ≡ 0
other-none c w (Poll entries wait) other = absurd (other entries wait refl)
other-none c w call other = refl

module _ {A : Type 0} (k : Contents A) (sound : IsSound A k) (n : ℕ) where
  abbrev c : Core A numbers
  c = core_of k

  -- how many masks the call of the number answers
  abbrev pub answered : ℕ
  answered = masks_again c (get nat_eq c.parked n)

  pub none-answered : get nat_eq k.calls.calls n ≡ None → 0 ≡ masks_again {A = A} c (get nat_eq c.parked n)
  none-answered none = sym (ap (masks_again c) (parked-is k sound n None none))

  module _ (w : ParkedCall A) (here : get nat_eq k.calls.calls n ≡ Some w) where
    pub other-answered : ((entries : List (ℤ × PollMask)) (wait : Bool) → w.call ≡ Poll entries wait → ⊥) → 0 ≡ masks_again c (get nat_eq c.parked n)
    other-answered other = sym (ap (masks_again c) (parked-is k sound n (Some w) here) ∙ other-none c (waiting_of w) w.call other)

    pub poll-answered : (entries : List (ℤ × PollMask)) (wait : Bool) → w.call ≡ Poll entries wait → (keys : Bor (List ℕ)) → keys.now ≡ w.kept → (b : Bool) → list_any is_ready (masks_of k (Kept keys) entries) ≡ b →
        masks_again c (get nat_eq c.parked n) ≡ (if b || false then length entries else 0)
    poll-answered entries wait is keys same b ready =
        ap (masks_again c) (parked-is k sound n (Some w) here)
        ∙ ap (masks_of_try c (waiting_of w)) is
        ∙ ap (λ z. if z || false then length entries else 0) (ap (list_any is_ready) (sym (kept_masks k sound n w here entries wait is keys same)) ∙ ready)
