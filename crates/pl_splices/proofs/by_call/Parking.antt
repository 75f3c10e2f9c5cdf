-- A call is parked that keeps two descriptions.
use Rattle.std.proofs.Common.{◌≡◌, ℕ, true, false, [], ◌∷◌, sym, subst, nat_eq}
use Rattle.std.specs.Prelude.{◌||◌}
use Rattle.std.specs.Set.{is_member}
use Rattle.std.proofs.lemmas.Bool.{eqb-true}
use Rattle.pl_model.proofs.settling.Members.{or_elim}
use Rattle.pl_state.proofs.waiting.ParkedCalls.{only_one}

-- a key of two is the one or the other
pub either_one : (a b d : ℕ) (P : ℕ → Type 0) → P a → P b → is_member nat_eq (a ∷ b ∷ []) d ≡ true → P d
either_one a b d P of_a of_b h = or_elim (nat_eq d a) (nat_eq d b || false) (λ e. subst P (sym (eqb-true d a e)) of_a) (λ f. subst P (sym (only_one b d f)) of_b) h
