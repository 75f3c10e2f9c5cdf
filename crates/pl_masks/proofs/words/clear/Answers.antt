use Rattle.std.proofs.Common.{ap, arith, ◌%◌, ◌/◌, slice_index_or, false}
use Rattle.std.specs.Prelude.{nat_eq}
use Rattle.std.specs.Int.{w64}
use Rattle.std.proofs.lemmas.Nat.Bits.{bit_at_clear_same, bit_at_clear_other}
use Rattle.std.proofs.lemmas.List.{get_or-set_other, length-set}
use Rattle.pl_masks.proofs.Bits.{bit-changed}
use Rattle.pl_masks.proofs.words.clear.Goals as goal

pub returns-clause-put : goal.returns-clause-put
returns-clause-put c =
    let number = c.args.number in
    let mask = slice_index_or c.args.masks.now (number / 64) 0 in
    record {
      value = bit-changed c.args.masks.now number _ false c.requires (ap (λ b. nat_eq b 1) (bit_at_clear_same w64 mask (number % 64) (omega arith))) (bit_at_clear_other w64 mask (number % 64) (omega arith));
      others = λ place. get_or-set_other c.args.masks.now (number / 64) place _ 0;
      len = length-set c.args.masks.now (number / 64) _;
    }
