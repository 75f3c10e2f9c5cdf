use Rattle.std.proofs.Common.{not, ap, ◌∙◌}
use Rattle.std.specs.Ordering.{is_eq}
use Rattle.std.specs.Prelude.{◌&&◌}
use Rattle.pl_parked.specs.Waiting.{order, is_in, is_named}
use Rattle.pl_parked.proofs.Waiting.{but-not}
use Rattle.pl_parked.proofs.opens.Opens.unlist.Goals as goal

pub returns-in-Some : goal.returns-in-Some
returns-in-Some g c = λ key. c.remove.ensures.updates.0 key ∙ but-not (is_eq (order c.in-Some.open key)) (is_in c.args.self.now.set key) ∙ ap (λ one. not (is_named one key) && is_in c.args.self.now.set key) c.in-Some.ensures
