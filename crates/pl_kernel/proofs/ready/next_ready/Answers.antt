use Rattle.pl_state.specs.Contents.{core_of}
use Rattle.pl_state.proofs.Known.{known}
use Rattle.pl_kernel.specs.Asking.{AreUnderstood}
use Rattle.pl_kernel.proofs.index.Asking.{understood-in}
use Rattle.pl_kernel.proofs.ready.next_ready.Given.{Over}
use Rattle.pl_kernel.proofs.ready.next_ready.Goals.{After-settle-asked}
use Rattle.pl_kernel.proofs.ready.next_ready.Goals as goal

pub settle-asked-requires-clause-understood : goal.settle-asked-requires-clause-understood
settle-asked-requires-clause-understood g c = understood-in c.args.state.now (known c.state.inside c.state.invariant) c.state.view_is c.look_at_new.new.waiters c.look_at_new.ensures

-- the calls stay understood
understood : (g : Over) (c : After-settle-asked g) → AreUnderstood (core_of c.args.state.now) c.settle-asked.new.waiters
understood g c = understood-in c.args.state.now (known c.state.inside c.state.invariant) c.state.view_is c.settle-asked.new.waiters c.settle-asked.ensures.knows

pub first_ready-found-requires-clause-understood : goal.first_ready-found-requires-clause-understood
first_ready-found-requires-clause-understood g c = understood g (goal.at.first_ready-found-requires-clause-understood g c).After-settle-asked

pub first_ready_from-found-requires-clause-understood : goal.first_ready_from-found-requires-clause-understood
first_ready_from-found-requires-clause-understood g c = understood g (goal.at.first_ready_from-found-requires-clause-understood g c).After-settle-asked
