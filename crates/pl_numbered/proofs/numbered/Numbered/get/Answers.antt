use Rattle.std.proofs.Common.{sym, ◌∙◌}
use Rattle.pl_numbered.proofs.Changing.{found-in, entry-value}
use Rattle.pl_numbered.proofs.numbered.Numbered.get.Goals as goal

pub returns : goal.returns
returns g c = c.as_ref.ensures.value ∙ sym (entry-value (found-in c.args.self.now c.args.number c.in_ok-place.place c.index.result.now c.in_ok-place.ensures.here c.index.ensures))
