-- A parked read that gives bytes is tried again, and ends.
use Rattle.std.proofs.Common.{◌≡◌, ◌<◌, ◌≤◌, ℕ, Bool, true, Option, None, Some, IfSome, sym, ap, subst, ◌∙◌, nat_eq, nat_lt, length, arith}
use Rattle.std.specs.Prelude.{not, min, if◌then◌else◌}
use Rattle.std.proofs.Math.Nat.{min-le_right}
use Rattle.pl_model.specs.declared.cases.ReadCase.TheVariants.{Gives, EndOfFile, Waits}
use Rattle.pl_model.specs.Map.{get}
use Rattle.pl_model.specs.Numbered.{numbers}
use Rattle.pl_model.specs.Packets.{front}
use Rattle.pl_model.specs.Settle.{settle}
use Rattle.pl_model.specs.State.{Core, Pipe}
use Rattle.pl_model.specs.Step.{without_call}
use Rattle.pl_model.specs.Transfer.{read_case}
use Rattle.pl_state.proofs.waiting.Calls.{without_absent}

some_held : (n held m : ℕ) → m ≡ min n held → 0 < m → nat_lt 0 held ≡ true
some_held n held m is some = positive held (let low = min-le_right n held in omega (arith, is, some, low))
  where
    positive : (n : ℕ) → 0 < n → nat_lt 0 n ≡ true
    positive n l = grind arith

-- a read that can get bytes gets them
pub gives-some : (n held m : ℕ) (w : Bool) → m ≡ min n held → 0 < m → read_case n held w ≡ Gives m
gives-some n held m w is some = ap (λ (b : Bool). if b then Gives (min n held) else if not w then EndOfFile else Waits) (some_held n held m is some) ∙ ap (λ z. Gives z) (sym is)

-- what is told of the front of a pipe
pub front-held : (o : Option Pipe) (n held m : ℕ) → m ≡ min n held → IfSome o (λ x. held ≡ front x) → IfSome o (λ x. held ≤ length x.bytes) → IfSome o (λ x. (m ≡ min n (front x)) × (front x ≤ length x.bytes))
front-held None n held m is told within = tt
front-held (Some x) n held m is told within = (is ∙ ap (min n) told, subst (λ z. z ≤ length x.bytes) told within)

-- the call is parked no more
pub gone : {A : Type 0} (before s new : Core A numbers) (n : ℕ) → new ≡ settle before (without_call s n) → get nat_eq new.parked n ≡ None
unfolding settle
gone before s new n is = ap (λ (z : Core _ numbers). get nat_eq z.parked n) is ∙ without_absent s.parked n
