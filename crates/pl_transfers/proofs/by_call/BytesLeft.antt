-- A write that waits has bytes left.
use Rattle.std.proofs.Common.{◌≡◌, ℕ, ◌+◌, ◌-◌, ◌<◌, Bool, true, false, cond, refl, subst, nat_lt, nat_le, arith}
use Rattle.std.specs.Prelude.{not, ◌&&◌, ◌==◌, min, ⊤}
use Rattle.std.proofs.lemmas.Bool.Decides.{nat_tests}
use Rattle.pl_model.specs.declared.cases.WriteCase.{WriteCase}
use Rattle.pl_model.specs.declared.cases.WriteCase.TheVariants.{Broken, CutShort, Ends, Waits}
use Rattle.pl_model.specs.Numbers.{pipe_buf}
use Rattle.pl_model.specs.Transfer.{write_case}

-- up to which byte a write is in the pipe that waits, and nothing of another
abbrev up_to : WriteCase → ℕ → Type 0
up_to (Waits from to) n = to < n
up_to other n = ⊤

-- what goes in is less than what is left, where that doesn't fit
fits_less : (n t space : ℕ) → t < n → nat_le (n - t) space ≡ false → t + space < n
fits_less n t space l f = (let more : space < n - t = grind (arith, nat_tests, f) in omega (arith, l, more))

module _ (n t space : ℕ) (left : t < n) where
  rest : (fits : Bool) → nat_le (n - t) space ≡ fits → up_to (cond fits (Ends t n) (Waits t (t + space))) n
  rest true f = tt
  rest false f = fits_less n t space left f

  by : (reader none small fits may_wait some : Bool) → up_to (cond (not reader && none) Broken (cond (not reader) CutShort (cond (small && fits) (Ends 0 n) (cond small (Waits t t)
      (cond (not may_wait && some) (Ends 0 (min n space)) (cond (not may_wait) (Waits t t) (cond (nat_le (n - t) space) (Ends t n) (Waits t (t + space))))))))) n
  by false true small fits may_wait some = tt
  by false false small fits may_wait some = tt
  by true none true true may_wait some = tt
  by true none true false may_wait some = left
  by true none false fits false true = tt
  by true none false fits false false = left
  by true none false fits true some = rest (nat_le (n - t) space) refl

pub waits_left : (n t space : ℕ) (has_reader may_wait : Bool) (from to : ℕ) → t < n → write_case n t space has_reader may_wait ≡ Waits from to → to < n
waits_left n t space has_reader may_wait from to left is =
    subst (λ row. up_to row n) is (by n t space left has_reader (t == 0) (nat_le n pipe_buf) (nat_le n space) may_wait (nat_lt 0 space))
