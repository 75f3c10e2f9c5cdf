use Rattle.std.proofs.Common.{refl}
use Rattle.pl_model.proofs.settling.Members.{or_elim}
use Rattle.pl_state.specs.Contents.{core_of}
use Rattle.pl_kernel.specs.ToldNodes.{key_of}
use Rattle.pl_kernel.proofs.index.Finding.{as-bits}
use Rattle.pl_kernel.proofs.index.Touching.{less_then, touched_before, touched_now}
use Rattle.pl_kernel.proofs.touch.touch_fds.Goals as goal

pub returns-clause-no_less : goal.returns-clause-no_less
returns-clause-no_less g c = less_then c.args.waiters.now c.touch_fd.new.waiters c.touch_fd-2.new.waiters c.touch_fd.ensures.no_less c.touch_fd-2.ensures.no_less

pub returns-clause-touched : goal.returns-clause-touched
returns-clause-touched g c = λ node t. or_elim _ _
    (λ h. touched_before c.args.waiters.now c.touch_fd.new.waiters c.touch_fd-2.new.waiters (key_of node) (c.touch_fd.ensures.touched node (as-bits (core_of c.args.state.now) node c.args.pid c.args.from c.ranges.from h)) c.touch_fd-2.ensures.no_less)
    (λ h. touched_now c.args.waiters.now c.touch_fd.new.waiters c.touch_fd-2.new.waiters (key_of node) (key_of node) refl c.touch_fd.ensures.no_less (c.touch_fd-2.ensures.touched node (as-bits (core_of c.args.state.now) node c.args.pid c.args.to c.ranges.to h)))
    t
