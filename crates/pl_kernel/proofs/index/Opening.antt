-- When a call is open: it waits, and can get on for the sake of its queue.
use Rattle.std.proofs.Common.{◌≡◌, ℕ, true, false, cond, Option, refl, sym, ◌∙◌, ap, nat_eq}
use Rattle.std.specs.Prelude.{◌&&◌, is_some}
use Rattle.std.specs.declared.option.Option.TheVariants.{None, Some}
use Rattle.pl_model.specs.Map.{get}
use Rattle.pl_model.specs.State.{Core, Waiting}
use Rattle.pl_model.specs.Numbered.{numbers}
use Rattle.pl_model.specs.Waking.{can_progress}
use Rattle.pl_waiters.specs.declared.waiter.Waiter.{Waiter}
use Rattle.pl_kernel.specs.Progress.{is_ready}
use Rattle.pl_kernel.specs.Queues.{is_polls, finds}
use Rattle.pl_kernel.specs.Index.{is_open}

-- a call that is parked is open if its queue's condition holds
pub open-is : {A : Type 0} (c : Core A numbers) (key : Waiter) (v : Waiting A numbers) → get nat_eq c.parked key.number ≡ Some v → is_open c key ≡ cond (is_polls key.queue) (finds c key.node key.queue) (can_progress c key.number)
open-is c key v here = ap (λ o. is_some o && cond (is_polls key.queue) (finds c key.node key.queue) (can_progress c key.number)) here

pub open-poll : {A : Type 0} (c : Core A numbers) (key : Waiter) (v : Waiting A numbers) → get nat_eq c.parked key.number ≡ Some v → is_polls key.queue ≡ true → is_open c key ≡ finds c key.node key.queue
open-poll c key v here polls = open-is c key v here ∙ ap (λ b. cond b (finds c key.node key.queue) (can_progress c key.number)) polls

pub open-call : {A : Type 0} (c : Core A numbers) (key : Waiter) (v : Waiting A numbers) → get nat_eq c.parked key.number ≡ Some v → is_polls key.queue ≡ false → is_open c key ≡ can_progress c key.number
open-call c key v here no_poll = open-is c key v here ∙ ap (λ b. cond b (finds c key.node key.queue) (can_progress c key.number)) no_poll

-- what is open is parked
pub open-parked : {A : Type 0} (c : Core A numbers) (key : Waiter) → is_open c key ≡ true → (v : Waiting A numbers) × (get nat_eq c.parked key.number ≡ Some v)
open-parked {A = A} c key h = by (get nat_eq c.parked key.number) refl
  where
    by : (o : Option (Waiting A numbers)) → get nat_eq c.parked key.number ≡ o → (v : Waiting A numbers) × (get nat_eq c.parked key.number ≡ Some v)
    by None is = absurd (let no : false ≡ true = sym (ap (λ o. is_some o && cond (is_polls key.queue) (finds c key.node key.queue) (can_progress c key.number)) is) ∙ h in cc)
    by (Some v) is = (v, is)

-- what can get on is parked
pub ready-parked : {A : Type 0} (c : Core A numbers) (n : ℕ) → is_ready c n ≡ true → (v : Waiting A numbers) × (get nat_eq c.parked n ≡ Some v)
ready-parked {A = A} c n h = by (get nat_eq c.parked n) refl
  where
    by : (o : Option (Waiting A numbers)) → get nat_eq c.parked n ≡ o → (v : Waiting A numbers) × (get nat_eq c.parked n ≡ Some v)
    by None is = absurd (let no : false ≡ true = sym (ap (λ o. is_some o && can_progress c n) is) ∙ h in cc)
    by (Some v) is = (v, is)

pub ready-is : {A : Type 0} (c : Core A numbers) (n : ℕ) (v : Waiting A numbers) → get nat_eq c.parked n ≡ Some v → is_ready c n ≡ can_progress c n
ready-is c n v here = ap (λ o. is_some o && can_progress c n) here
