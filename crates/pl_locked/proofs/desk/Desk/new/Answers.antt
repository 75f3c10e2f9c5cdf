use Rattle.std.proofs.lemmas.List.{length-replicate}
use Rattle.std.proofs.Common.{[], replicate}
use Rattle.pl_model.specs.Numbered.{opening}
use Rattle.pl_locked.specs.declared.waiting.Waiting.TheVariants.{Nothing}
use Rattle.pl_locked.specs.Waking.{can_end}
use Rattle.pl_locked.proofs.Quiet.{nobody, none_waits}
use Rattle.pl_locked.proofs.Sleeping.{none_together}
use Rattle.pl_locked.proofs.desk.Desk.new.Goals as goal

pub invariant_of-result : goal.invariant_of-result
invariant_of-result g c =
    let n = g.N.Layer.callers in
    let limits = g.N.Layer.limits in
    rw (c.requires.books, c.requires.queue) (length-replicate n Nothing, λ _. none_together {A = g.row.A.Denot} (opening limits) n, nobody (can_end {A = g.row.A.Denot} limits g.N.Layer.max_steps []) (replicate n Nothing) (none_waits n))
