use Rattle.std.proofs.Common.{◌≡◌, ◌∙◌, false, not, None, Some, Option, ℕ, refl, ap}
use Rattle.std.specs.Prelude.{is_some}
use Rattle.pl_kernel.proofs.asking.least_if_any.Goals as goal

pub returns-then-is_none-clause-prunes : goal.returns-then-is_none-clause-prunes
returns-then-is_none-clause-prunes g c = record { fewer = λ key there. there; kept = λ key some there. there; touched = refl; least_ones = refl; known = refl }

-- no number is none
no-number : (o : Option ℕ) (m : ℕ) → o ≡ Some m → is_some o ≡ false → ⊥
no-number None m is h = absurd (cc)
no-number (Some n) m is h = absurd (cc)

pub returns-then-is_none-clause-covers : goal.returns-then-is_none-clause-covers
returns-then-is_none-clause-covers g c = λ m here. absurd (no-number c.least_at.result m (c.least_at.ensures ∙ here) (c.is_none.ensures ∙ ap not c.if-is_none.true))
