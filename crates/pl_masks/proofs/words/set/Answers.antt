use Rattle.std.proofs.Common.{◌∙◌, refl, ap, arith, ◌%◌, ◌/◌, slice_index_or, true}
use Rattle.std.specs.Prelude.{nat_eq}
use Rattle.std.specs.Int.{w64}
use Rattle.std.proofs.lemmas.Bool.{cond-true, eq-eqb}
use Rattle.std.proofs.lemmas.Nat.Bits.{bit_at_set_same, bit_at_set_other}
use Rattle.std.proofs.lemmas.List.{get_or-set_other, length-set}
use Rattle.pl_masks.proofs.Bits.{bit-changed, has_one}
use Rattle.pl_masks.proofs.words.set.Goals as goal

pub returns-clause-put : goal.returns-clause-put
returns-clause-put c =
    let number = c.args.number in
    let mask = slice_index_or c.args.masks.now (number / 64) 0 in
    record {
      value = bit-changed c.args.masks.now number _ true c.requires (ap (λ b. nat_eq b 1) (bit_at_set_same w64 mask (number % 64) (omega arith))) (λ i l. bit_at_set_other w64 mask (number % 64) (omega arith) i);
      others = λ place. get_or-set_other c.args.masks.now (number / 64) place _ 0;
      len = length-set c.args.masks.now (number / 64) _;
    }

pub returns-clause-has_one : goal.returns-clause-has_one
returns-clause-has_one c = let number = c.args.number in has_one _ number ((returns-clause-put c).value number ∙ cond-true (nat_eq number number) true _ (eq-eqb number number refl))
