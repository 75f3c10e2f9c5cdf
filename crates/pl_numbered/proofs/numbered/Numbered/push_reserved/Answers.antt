use Rattle.std.proofs.Common.{ap, ◌∙◌, arith}
use Rattle.pl_numbered.specs.Entries.{values_in}
use Rattle.pl_numbered.proofs.Changing.{push-keeps}
use Rattle.pl_numbered.proofs.EntryLemmas.{values-push}
use Rattle.pl_numbered.proofs.numbered.Numbered.push_reserved.Goals as goal

pub invariant_of-self : goal.invariant_of-self
invariant_of-self g c = record {
  kept = rw c.push_reserved.ensures.items (push-keeps c.args.self.now.entries.items c.args.self.now.empty c.args.number c.args.value c.args.self.now.kept c.requires.above (let l = c.ranges.number.fits in omega (arith, l)));
}

pub returns : goal.returns
returns g c = ap values_in c.push_reserved.ensures.items ∙ values-push c.args.self.now.entries.items c.args.number c.args.value
