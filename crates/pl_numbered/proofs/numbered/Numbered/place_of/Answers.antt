use Rattle.pl_numbered.proofs.Changing.{none-there}
use Rattle.pl_numbered.proofs.numbered.Numbered.place_of.Goals as goal

pub returns-clause-none : goal.returns-clause-none
returns-clause-none g c =
    none-there c.args.self.now.entries.items c.deref.result.now c.args.number c.place_of.result c.deref.ensures.value c.args.self.now.kept.rise c.place_of.ensures.none
