-- What a poll that is tried again comes to, at the kernel's keys.
use Rattle.std.proofs.Common.{◌≡◌, ℕ, ℤ, Bool, true, false, cond, List, map, drop, Some, refl, ◌∙◌, ap, nat_eq, Bor}
use Rattle.std.specs.List.{list_any}
use Rattle.std.specs.Prelude.{◌||◌, not}
use Rattle.pl_model.specs.declared.calls.Call.TheVariants.{Poll}
use Rattle.pl_model.specs.declared.calls.Step.TheVariants.{Resume}
use Rattle.pl_model.specs.declared.flags.PollMask.{PollMask}
use Rattle.pl_model.specs.declared.replies.Reply.TheVariants.{Parked}
use Rattle.pl_model.specs.Map.{get}
use Rattle.pl_model.specs.State.{Core, described}
use Rattle.pl_model.specs.Settle.{settle}
use Rattle.pl_model.specs.Poll.{masks, masks_reply, is_ready, try_poll}
use Rattle.pl_model.specs.Step.{try, without_call}
use Rattle.pl_model.specs.Trial.{Done, Wait, still}
use Rattle.pl_model.specs.Waking.{gets_on, can_progress}
use Rattle.pl_model.specs.Numbered.{numbers}
use Rattle.pl_model.proofs.by_call.Polls.{again-found, again-waits}
use Rattle.pl_parked.specs.declared.call.ParkedCall.{ParkedCall}
use Rattle.pl_state.specs.Contents.{Contents, core_of, waiting_of}
use Rattle.pl_state.specs.Sound.{IsSound}
use Rattle.pl_state.specs.Makes.{MakesAtKeys, MayWantAtKeys}
use Rattle.pl_state.proofs.by_call.Begun.{wants_plain}
use Rattle.pl_state.proofs.by_call.Resumed.{parked-is, progress-is, ends_still, waits_still}
use Rattle.pl_polls.specs.declared.masks.Descriptions.TheVariants.{Kept}
use Rattle.pl_polls.specs.Masks.{masks_of}

module _ {A : Type 0} (k : Contents A) (sound : IsSound A k) (n : ℕ) (w : ParkedCall A) (here : get nat_eq k.calls.calls n ≡ Some w) (entries : List (ℤ × PollMask)) (wait : Bool) (is : w.call ≡ Poll entries wait) where
  abbrev c : Core A numbers
  c = core_of k

  stands : get nat_eq c.parked n ≡ Some (waiting_of w)
  stands = parked-is k sound n (Some w) here

  -- the masks of what the poll keeps
  abbrev pub found : List PollMask
  found = masks c entries (map (described c) w.kept)

  pub kept_masks : (keys : Bor (List ℕ)) → keys.now ≡ w.kept → masks_of k (Kept keys) entries ≡ found
  kept_masks keys same = ap (λ ks. masks c entries (map (described c) (drop 0 ks))) same

  pub retry-answers : list_any is_ready found ≡ true → (new : Contents A) → core_of new ≡ settle c (without_call c n) → MakesAtKeys k (Resume n) (masks_reply found) new
  retry-answers some new is_new = ends_still k sound n w here (masks_reply found) new (again-found c n (waiting_of w) entries wait stands is some) is_new

  pub retry-wants : list_any is_ready found ≡ true → MayWantAtKeys {A = A} k (Resume n)
  retry-wants some = wants_plain k k (Resume n) _ (again-found c n (waiting_of w) entries wait stands is some) refl

  pub retry-waits : list_any is_ready found ≡ false → w.taken ≡ 0 → MakesAtKeys k (Resume n) (Parked n) k
  retry-waits none none_taken = waits_still k sound n w here 0 none_taken (again-waits c n (waiting_of w) entries wait stands is none)

  -- it gets on where something is found
  pub poll-progress : w.taken ≡ 0 → can_progress c n ≡ list_any is_ready found
  unfolding try try_poll
  poll-progress none = progress-is k sound n w here (try c (waiting_of w) (Poll entries wait) true) (ap (λ z. try c (waiting_of w) z true) is) ∙ by (list_any is_ready found)
    where
      by : (ready : Bool) → gets_on w.taken (cond (ready || false) (Done c still (masks_reply found)) (Wait c still 0)) ≡ ready
      by true = refl
      by false = ap (λ t. not (nat_eq 0 t)) none
