-- What is known of a call that was asked.
use Rattle.std.proofs.Common.{◌≡◌, ℕ, Bool, true, false, not, cond, Option, refl, sym, ◌∙◌, ap, nat_eq}
use Rattle.std.specs.declared.option.Option.TheVariants.{None, Some}
use Rattle.std.proofs.lemmas.Bool.{eqb-true}
use Rattle.pl_waiters.specs.declared.waiter.Waiter.{Waiter}
use Rattle.pl_waiters.specs.Queue.{is_waiter}
use Rattle.std.specs.Prelude.{◌&&◌, is_some, IsSome, if◌then◌else◌}
use Rattle.pl_model.specs.Map.{get}
use Rattle.pl_model.specs.State.{Core}
use Rattle.pl_model.specs.Numbered.{numbers}
use Rattle.pl_model.specs.Waking.{can_progress}
use Rattle.pl_kernel.specs.Queues.{is_polls, finds}
use Rattle.pl_kernel.specs.Index.{is_open}
use Rattle.pl_kernel.specs.Asking.{Prunes}
use Rattle.pl_waiters.specs.declared.waiters.Waiters.{Waiters}
use Rattle.pl_waiters.specs.Seen.{stands, SameTouched, SameLeast, SameKnown}
use Rattle.pl_state.specs.declared.waits.WaitingCall.{WaitingCall}
use Rattle.pl_state.specs.declared.waits.WaitingCall.TheVariants.{Read, Write, Open, Move, Poll}
use Rattle.pl_state.specs.Contents.{Contents, core_of}
use Rattle.pl_state.specs.Waits.{WaitsAs}
use Rattle.pl_kernel.proofs.index.Touching.{parked-some}

was-other : (a b : Bool) → (not a && b) ≡ true → b ≡ true
was-other true b h = absurd (cc)
was-other false b h = h

of-all : (a b d : Bool) → (a && (b && d)) ≡ true → d ≡ true
of-all true true d h = h
of-all true false d h = absurd (cc)
of-all false b d h = absurd (cc)

is-there : {X : Type 0} (o : Option X) → IsSome o → is_some o ≡ true
is-there {X = X} None h = absurd (let none : IsSome {T = X} None = h in cc)
is-there (Some x) h = refl

-- a call that waits isn't one that is gone
another : {A : Type 0} (c : Core A numbers) (gone key : Waiter) → is_some (get nat_eq c.parked gone.number) ≡ false → IsSome (get nat_eq c.parked key.number) → is_waiter gone key ≡ false
another c gone key none some = by (is_waiter gone key) refl
  where
    by : (b : Bool) → is_waiter gone key ≡ b → b ≡ false
    by false is = refl
    by true is =
        let same : gone.number ≡ key.number = eqb-true gone.number key.number (of-all (nat_eq gone.node key.node) (nat_eq gone.queue key.queue) (nat_eq gone.number key.number) is) in
        absurd (let no : false ≡ true = sym none ∙ ap (λ n. is_some (get nat_eq c.parked n)) same ∙ is-there (get nat_eq c.parked key.number) some in cc)

left-in : (a b : Bool) → a ≡ false → b ≡ true → (not a && b) ≡ true
left-in true b h t = absurd (cc)
left-in false b h t = t

pub unparked-open : {A : Type 0} (c : Core A numbers) (key : Waiter) → is_some (get nat_eq c.parked key.number) ≡ false → is_open c key ≡ false
unparked-open c key none = ap (λ b. b && cond (is_polls key.queue) (finds c key.node key.queue) (can_progress c key.number)) none

-- of a call that waits only its queue is asked
pub open-parked : {A : Type 0} (c : Core A numbers) (key : Waiter) → is_some (get nat_eq c.parked key.number) ≡ true → is_open c key ≡ (if is_polls key.queue then finds c key.node key.queue else can_progress c key.number)
open-parked c key some = ap (λ b. b && cond (is_polls key.queue) (finds c key.node key.queue) (can_progress c key.number)) some

-- A call that ended was taken out of a queue.
pub taken-out : {A : Type 0} (c : Core A numbers) (call : Waiter) (old new : Waiters A) → is_some (get nat_eq c.parked call.number) ≡ false
    → ((key : Waiter) → stands new key ≡ (not (is_waiter call key) && stands old key)) → SameTouched old new → SameLeast old new → SameKnown old new → Prunes c old new
taken-out c call old new gone queues touched least known = record {
  fewer = λ key there. was-other (is_waiter call key) (stands old key) (sym (queues key) ∙ there);
  kept = λ key some there. queues key ∙ left-in (is_waiter call key) (stands old key) (another c call key gone some) there;
  touched = touched;
  least_ones = least;
  known = known;
}

-- what waits so is parked
pub waits-parked : {A : Type 0} (k : Contents A) (n : ℕ) (call : WaitingCall) → WaitsAs k n call → is_some (get nat_eq (core_of k).parked n) ≡ true
waits-parked k n (Read key m) w = parked-some k n ∙ ap (λ o. is_some o) w.here
waits-parked k n (Write key length taken) w = parked-some k n ∙ ap (λ o. is_some o) w.here
waits-parked k n (Open key pid met) w = parked-some k n ∙ ap (λ o. is_some o) w.here
waits-parked k n (Move m) w = parked-some k n ∙ ap (λ o. is_some o) w.here
waits-parked k n Poll w = parked-some k n ∙ ap (λ o. is_some o) w.here
