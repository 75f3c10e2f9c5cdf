-- The digits of a number, one at a time.
use Rattle.std.proofs.Common.{◌≡◌, ℕ, ◌+◌, ◌-◌, ◌*◌, ◌^◌, ◌<◌, ◌≤◌, Bool, true, false, ◌&&◌, List, take, get_or, length, refl, sym, ap, ◌∙◌, arith, add-one}
use Rattle.std.specs.Prelude.{nat_le}
use Rattle.std.specs.List.{list_all}
use Rattle.std.specs.Char.{digit_value}
use Rattle.std.specs.Str.Parse.{digits_value}
use Rattle.std.proofs.lemmas.Bool.{leb-true, le-ltb, lt-ltb}
use Rattle.std.proofs.lemmas.List.Folds.{list_all_more}
use Rattle.std.proofs.lemmas.Int.Digits.{digits_value_more}
use Rattle.std.proofs.Math.Nat.{pow-suc}
use Rattle.pl_model.specs.Words.{is_digit}

both : (a b : Bool) → (a && b) ≡ true → (a ≡ true) × (b ≡ true)
both true b h = (refl, h)
both false b h = absurd cc

digit_range : (c : ℕ) → is_digit c ≡ true → (48 ≤ c) × (c ≤ 57)
digit_range c h = let p = both (nat_le 48 c) (nat_le c 57) h in (leb-true 48 c p.0, leb-true c 57 p.1)

digit_value_is : (c : ℕ) → is_digit c ≡ true → digit_value c ≡ c - 48
digit_value_is c h = let p = digit_range c h in rw (le-ltb c 48 p.0, lt-ltb c 58 (omega arith)) refl

pub value_more : (word : List ℕ) (i v d : ℕ) → i < length word → is_digit (get_or word i 0) ≡ true → d ≡ get_or word i 0 - 48 → v ≡ digits_value 10 (take i word) → v * 10 + d ≡ digits_value 10 (take (i + 1) word)
value_more word i v d below h d-is so_far =
    rw (d-is, so_far) (ap (λ x. digits_value 10 (take i word) * 10 + x) (sym (digit_value_is (get_or word i 0) h)) ∙ sym (digits_value_more 10 word i below))

pub digits_more : (word : List ℕ) (i : ℕ) → i < length word → is_digit (get_or word i 0) ≡ true → list_all is_digit (take i word) ≡ true → list_all is_digit (take (i + 1) word) ≡ true
digits_more word i below h so_far = rw (list_all_more is_digit word i 0 below, so_far) h

pub fits_more : (c i v d : ℕ) → is_digit c ≡ true → d ≡ c - 48 → v < 10 ^ i → v * 10 + d < 10 ^ (i + 1)
fits_more c i v d h d-is lt = let p = digit_range c h in rw (add-one, pow-suc) (omega arith)
