use Rattle.std.proofs.Common.{◌||◌, ap, ◌∙◌}
use Rattle.std.specs.Ordering.{is_eq}
use Rattle.pl_parked.specs.Waiting.{order, is_in, is_named}
use Rattle.pl_parked.proofs.Waiting.{or-cond}
use Rattle.pl_parked.proofs.opens.Opens.list.Goals as goal

pub returns-in_ok-insert-clause-ok : goal.returns-in_ok-insert-clause-ok
returns-in_ok-insert-clause-ok g c = λ key. c.in_ok-insert.ensures.updates.0 key ∙ or-cond (is_eq (order c.in-Some.open key)) (is_in c.args.self.now.set key) ∙ ap (λ one. is_named one key || is_in c.args.self.now.set key) c.in-Some.ensures
