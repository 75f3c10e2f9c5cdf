use Rattle.std.proofs.Common.{◌∙◌, ap, ◌%◌}
use Rattle.std.specs.Prelude.{nat_eq}
use Rattle.std.specs.Int.{bit_at}
use Rattle.std.proofs.lemmas.Nat.Bits.{shr_and_one}
use Rattle.pl_masks.specs.Levels.{is_set}
use Rattle.pl_masks.proofs.masks.Masks.contains.Goals as goal

pub returns : goal.returns
unfolding is_set
returns g c =
    let number = c.args.number in
    ap (λ b. nat_eq b 1) (shr_and_one c.mask_at.result (number % 64) ∙ ap (λ m. bit_at m (number % 64)) (rw c.deref.ensures.value at c.mask_at.ensures))
