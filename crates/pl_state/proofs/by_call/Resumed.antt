-- What a call that is tried again comes to at the kernel's keys.
use Rattle.std.proofs.Common.{◌≡◌, ℕ, true, Option, Some, None, refl, sym, ◌∙◌, ap, nat_eq}
use Rattle.std.specs.Prelude.{option_map}
use Rattle.pl_model.specs.declared.calls.Step.TheVariants.{Resume}
use Rattle.pl_model.specs.declared.replies.Reply.{Reply}
use Rattle.pl_model.specs.declared.replies.Reply.TheVariants.{Parked, NoCall}
use Rattle.pl_model.specs.Map.{get}
use Rattle.pl_model.specs.Keys.{Plain}
use Rattle.pl_model.specs.State.{Core}
use Rattle.pl_model.specs.Settle.{settle}
use Rattle.pl_model.specs.Trial.{Trial, Done, Wait, still, flowed}
use Rattle.pl_model.specs.Waking.{gets_on, progresses, can_progress}
use Rattle.pl_model.specs.Step.{core_step, happen, ended, stepped, resumed, tried_again, try, without_call, parked_again}
use Rattle.pl_model.specs.Numbered.{numbers}
use Rattle.pl_parked.specs.declared.call.ParkedCall.{ParkedCall}
use Rattle.pl_state.specs.Contents.{Contents, waiting_of, core_of}
use Rattle.pl_state.specs.Sound.{IsSound}
use Rattle.pl_state.specs.Makes.{MakesAtKeys}
use Rattle.pl_state.proofs.waiting.Calls.{get-parked, put_same}
use Rattle.pl_state.proofs.by_call.Begun.{does_plain, does_same}
use Rattle.pl_state.proofs.by_call.Moving.{flowed-still}

module _ {A : Type 0} (k : Contents A) (sound : IsSound A k) (n : ℕ) where
  abbrev c : Core A numbers
  c = core_of k

  pub parked-is : (o : Option (ParkedCall A)) → get nat_eq k.calls.calls n ≡ o → get nat_eq c.parked n ≡ option_map waiting_of o
  unfolding core_of
  parked-is o e = get-parked k.calls.calls n ∙ ap (option_map waiting_of) e

  pub resume-none : get nat_eq k.calls.calls n ≡ None → MakesAtKeys {A = A} k (Resume n) NoCall k
  unfolding core_step happen
  resume-none none = does_same k sound (Resume n) (stepped c NoCall) NoCall (ap (λ o. Plain (ended c (resumed c n o))) (parked-is None none)) refl refl

  -- where there is no call, the answer comes at once
  pub none-progresses : get nat_eq k.calls.calls n ≡ None → can_progress c n ≡ true
  none-progresses none = ap (progresses c) (parked-is None none)

  module _ (w : ParkedCall A) (here : get nat_eq k.calls.calls n ≡ Some w) where
    -- whether it can get on is told by its try
    pub progress-is : (t : Trial A numbers) → try c (waiting_of w) w.call true ≡ t → can_progress c n ≡ gets_on w.taken t
    progress-is t e = ap (progresses c) (parked-is (Some w) here) ∙ ap (gets_on w.taken) e

    -- what the try of it is makes the step
    abbrev pub Becomes : Trial A numbers → Type 0
    Becomes t = core_step c (Resume n) ≡ Plain (ended c (tried_again n (waiting_of w) t))

    pub came : (t : Trial A numbers) → try c (waiting_of w) w.call true ≡ t → Becomes t
    unfolding core_step happen
    came t e = ap (λ o. Plain (ended c (resumed c n o))) (parked-is (Some w) here) ∙ ap (λ z. Plain (ended c (tried_again n (waiting_of w) z))) e

    -- a try that moved no bytes ends the call
    pub ends_still : (reply : Reply A) (new : Contents A) → Becomes (Done c still reply) → core_of new ≡ settle c (without_call c n) → MakesAtKeys k (Resume n) reply new
    ends_still reply new e is = does_plain k new (Resume n) _ reply e refl (is ∙ ap (λ z. settle c (without_call z n)) (sym (flowed-still k)))

    -- or the call waits on, with as many taken as before, and nothing changes
    pub waits_still : (taken : ℕ) → w.taken ≡ taken → Becomes (Wait c still taken) → MakesAtKeys k (Resume n) (Parked n) k
    waits_still taken so_far e = does_same k sound (Resume n) _ (Parked n) e refl (again ∙ flowed-still k)
      where
        same : parked_again (flowed c still) n (waiting_of w) ≡ flowed c still
        same = ap (λ ps. record (flowed c still) { parked = ps }) (put_same (flowed c still).parked n (waiting_of w) (ap (λ z. get nat_eq z.parked n) (flowed-still k) ∙ parked-is (Some w) here))

        again : parked_again (flowed c still) n (record (waiting_of w) { taken = taken }) ≡ flowed c still
        again = (λ i. parked_again (flowed c still) n (record (waiting_of w) { taken = sym so_far i })) ∙ same
