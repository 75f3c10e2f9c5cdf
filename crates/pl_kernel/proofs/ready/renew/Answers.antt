use Rattle.pl_kernel.proofs.index.Looking.{knows-nothing}
use Rattle.pl_state.specs.Contents.{core_of}
use Rattle.pl_kernel.proofs.ready.renew.Goals as goal

pub returns-then-is_worn : goal.returns-then-is_worn
returns-then-is_worn g c = knows-nothing (core_of c.args.state.now) c.new.result c.new.ensures.queues c.new.ensures.looked
