use Rattle.pl_locked.proofs.Quiet.{leaves}
use Rattle.pl_locked.proofs.wait_queue.WaitQueue.leave.Goals as goal

pub invariant_of-self : goal.invariant_of-self
invariant_of-self g c = λ idle. leaves c.self.inside.waiting.items c.args.caller (c.self.invariant idle)
