use Rattle.std.proofs.Common.{◌∙◌, ap}
use Rattle.pl_state.specs.Contents.{core_of}
use Rattle.pl_waiters.specs.Marks.{is_marked}
use Rattle.pl_kernel.specs.Index.{Knows}
use Rattle.pl_kernel.proofs.index.Knowing.{knows-more}
use Rattle.pl_kernel.proofs.index.Settling.{pruned-knows}
use Rattle.pl_kernel.proofs.asking.drop_ended.Given.{Over}
use Rattle.pl_kernel.proofs.asking.drop_ended.Goals.{After-sweep}
use Rattle.pl_kernel.proofs.asking.drop_ended.Goals as goal

-- the sweep goes on
swept : (g : Over) (c : After-sweep g) → Knows (core_of c.args.state.now) c.sweep.new.self
swept g c = (let e = c.sweep.ensures in knows-more (core_of c.args.state.now) c.loop.waiters c.sweep.new.self c.loop.invariant.knows (record { queues = e.queues; least_ones = e.least; known = e.known; more = λ key h. ap (λ m. is_marked m key) e.touched ∙ h }))

pub loop-preserved : goal.loop-preserved
loop-preserved g c =
    let w = (goal.at.loop-preserved g c).After-sweep in
    let p = c.drop_if_ended-ended.ensures.prunes in
    let e = c.sweep.ensures.known in
    record {
      knows = pruned-knows (core_of c.args.state.now) c.sweep.new.self c.drop_if_ended-ended.new.waiters p (swept g w);
      known = p.known ∙ e ∙ c.loop.invariant.known;
    }

pub returns-in_default-clause-knows : goal.returns-in_default-clause-knows
returns-in_default-clause-knows g c = swept g (goal.at.returns-in_default-clause-knows g c).After-sweep
