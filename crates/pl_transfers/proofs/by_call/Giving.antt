-- What a read gives is no more than was asked, and no more than is held.
use Rattle.std.proofs.Common.{◌≡◌, ◌≤◌, ℕ, Bool, true, false, subst}
use Rattle.std.specs.Prelude.{not, min, nat_lt, if◌then◌else◌}
use Rattle.std.proofs.Math.Nat.{min-le_left, min-le_right}
use Rattle.pl_model.specs.declared.cases.ReadCase.{ReadCase}
use Rattle.pl_model.specs.declared.cases.ReadCase.TheVariants.{Gives, EndOfFile, Waits}
use Rattle.pl_model.specs.Transfer.{read_case}

abbrev case_by : (n held : ℕ) (w some : Bool) → ReadCase
case_by n held w some = if some then Gives (min n held) else if not w then EndOfFile else Waits

gives_is : (n held : ℕ) (w : Bool) (m : ℕ) → read_case n held w ≡ Gives m → min n held ≡ m
gives_is n held w m h = by (nat_lt 0 held) w h
  where
    by : (some w : Bool) → case_by n held w some ≡ Gives m → min n held ≡ m
    by true w h = cc
    by false true h = absurd (cc)
    by false false h = absurd (cc)

pub gives-few : (n held : ℕ) (w : Bool) (m : ℕ) → read_case n held w ≡ Gives m → m ≤ n
gives-few n held w m h = subst (λ z. z ≤ n) (gives_is n held w m h) (min-le_left n held)

pub gives-held : (n held : ℕ) (w : Bool) (m : ℕ) → read_case n held w ≡ Gives m → m ≤ held
gives-held n held w m h = subst (λ z. z ≤ held) (gives_is n held w m h) (min-le_right n held)
