use Rattle.std.proofs.Common.{◌/◌, arith}
use Rattle.std.proofs.lemmas.Grind.{common_steps}
use Rattle.pl_masks.proofs.Bits.{same-bit}
use Rattle.pl_masks.proofs.Levels.{masked-same}
use Rattle.pl_masks.proofs.masks.Masks.shrink.Goals as goal

pub invariant_of-self : goal.invariant_of-self
invariant_of-self g c =
    let m = c.args.self.now in
    record {
      kept = masked-same m.numbers.items m.masks.items m.top _ _ m.kept c.cut.ensures.same c.cut-2.ensures.same (grind (arith, common_steps)) (grind (arith, common_steps));
    }

pub returns-clause-same : goal.returns-clause-same
returns-clause-same g c = λ n. same-bit _ c.args.self.now.numbers.items n (c.cut.ensures.same (n / 64))
