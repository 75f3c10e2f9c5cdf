use Rattle.std.proofs.Common.{◌≡◌, ℕ, ◌∙◌, ◌/◌, ap, arith}
use Rattle.std.proofs.lemmas.Grind.{common_steps}
use Rattle.pl_masks.specs.Levels.{mask_at}
use Rattle.pl_masks.proofs.Bits.{mask-resized, same-bit}
use Rattle.pl_masks.proofs.Levels.{masked-same}
use Rattle.pl_masks.proofs.masks.Masks.reserve.Given.{Over}
use Rattle.pl_masks.proofs.masks.Masks.reserve.Goals.{After-resize-2}
use Rattle.pl_masks.proofs.masks.Masks.reserve.Goals as goal

module _ (g : Over) (c : After-resize-2 g) where
  numbers-same : (place : ℕ) → mask_at c.resize-2.new.self.items place ≡ mask_at c.args.self.now.numbers.items place
  numbers-same place = ap (λ xs. mask_at xs place) c.resize-2.ensures.items ∙ mask-resized c.args.self.now.numbers.items _ _ place _ (grind (arith, common_steps))

  masks-same : (place : ℕ) → mask_at c.resize.new.self.items place ≡ mask_at c.args.self.now.masks.items place
  masks-same place = ap (λ xs. mask_at xs place) c.resize.ensures.items ∙ mask-resized c.args.self.now.masks.items _ _ place _ (grind (arith, common_steps))

pub invariant_of-self-2 : goal.invariant_of-self-2
invariant_of-self-2 g c =
    let a = (goal.at.invariant_of-self-2 g c).After-resize-2 in
    let m = c.args.self.now in
    record {
      kept = masked-same m.numbers.items m.masks.items m.top _ _ m.kept (numbers-same g a) (masks-same g a) (grind (arith, common_steps)) (grind (arith, common_steps));
    }

pub returns-clause-same : goal.returns-clause-same
returns-clause-same g c = let a = (goal.at.returns-clause-same g c).After-resize-2 in λ n. same-bit _ c.args.self.now.numbers.items n (numbers-same g a (n / 64))
