-- A call that waits at its first try is refused, or parked.
use Rattle.std.proofs.Common.{◌≡◌, ◌≢◌, ℕ, Bool, true, false, Option, Some, None, refl, ◌∙◌, ap, cond}
use Rattle.std.specs.Prelude.{if◌then◌else◌, not, ◌==◌, ◌&&◌, ◌||◌}
use Rattle.std.proofs.lemmas.Bool.{eq-eqb}
use Rattle.pl_model.specs.declared.replies.Reply.{Reply}
use Rattle.pl_model.specs.declared.replies.Reply.TheVariants.{Fault, Parked, CallsSpent}
use Rattle.pl_model.specs.declared.replies.Errno.TheVariants.{EAGAIN}
use Rattle.pl_model.specs.Numbers.{last_call}
use Rattle.pl_model.specs.State.{Core, Waiting, can_wait}
use Rattle.pl_model.specs.Trial.{Wait, Flow, flowed}
use Rattle.pl_model.specs.Step.{Stepped, first_tried, stepped, parked}
use Rattle.pl_model.specs.Numbered.{numbers}
use Rattle.pl_state.specs.Contents.{Contents, core_of, lets_wait}
use Rattle.pl_state.specs.Parking.{refusal_in}
use Rattle.pl_state.proofs.by_call.Begun.{may_wait-is}

module _ {A : Type 0} (k : Contents A) (w : Waiting A numbers) (nonblock : Bool) (s : Core A numbers) (flow : Flow numbers) (taken : ℕ) where
  abbrev c : Core A numbers
  c = core_of k

  abbrev as_parked : Stepped A numbers
  as_parked = record { state = parked (flowed s flow) (record w { taken = taken }); reply = Parked k.calls.next; flow = flow }

  abbrev why : Bool → Bool → Option (Reply A)
  why b spent = if b then Some (Fault EAGAIN) else if spent then Some CallsSpent else None

  abbrev waits : Bool → Stepped A numbers
  waits spent = cond spent (stepped c CallsSpent) as_parked

  abbrev refuses : Bool
  refuses = nonblock || not (lets_wait k w.pid)

  pub refused : (reply : Reply A) → refusal_in k w.pid nonblock ≡ Some reply → first_tried c w (not nonblock && can_wait c w.pid) (Wait s flow taken) ≡ stepped c reply
  unfolding core_of
  refused reply h = ap (λ b. first_tried c w b (Wait s flow taken)) (may_wait-is k w.pid nonblock) ∙ by refuses h
    where
      at_last : (spent : Bool) → why false spent ≡ Some reply → waits spent ≡ stepped c reply
      at_last true h = (let is : CallsSpent ≡ reply = cc in ap (stepped c) is)
      at_last false h = absurd (cc)

      by : (b : Bool) → why b (k.calls.next == last_call) ≡ Some reply → first_tried c w (not b) (Wait s flow taken) ≡ stepped c reply
      by true h = (let is : Fault EAGAIN ≡ reply = cc in ap (stepped c) is)
      by false h = at_last (k.calls.next == last_call) h

  pub parks : refusal_in {A = A} k w.pid nonblock ≡ None → first_tried c w (not nonblock && can_wait c w.pid) (Wait s flow taken) ≡ as_parked
  unfolding core_of
  parks h = ap (λ b. first_tried c w b (Wait s flow taken)) (may_wait-is k w.pid nonblock) ∙ by refuses h
    where
      at_last : (spent : Bool) → why false spent ≡ None → waits spent ≡ as_parked
      at_last true h = absurd (cc)
      at_last false h = refl

      by : (b : Bool) → why b (k.calls.next == last_call) ≡ None → first_tried c w (not b) (Wait s flow taken) ≡ as_parked
      by true h = absurd (cc)
      by false h = at_last (k.calls.next == last_call) h

-- where it isn't refused, a number is left
pub is_left : {A : Type 0} (k : Contents A) (pid : ℕ) (nonblock : Bool) → refusal_in {A = A} k pid nonblock ≡ None → k.calls.next ≢ last_call
is_left {A} k pid nonblock h e = by (nonblock || not (lets_wait k pid)) (k.calls.next == last_call) (eq-eqb k.calls.next last_call e) h
  where
    by : (b spent : Bool) → spent ≡ true → ◌≡◌ {A = Option (Reply A)} (if b then Some (Fault EAGAIN) else if spent then Some CallsSpent else None) None → ⊥
    by true spent s h = cc
    by false true s h = cc
    by false false s h = cc
