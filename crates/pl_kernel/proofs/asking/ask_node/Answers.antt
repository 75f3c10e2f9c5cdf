use Rattle.std.proofs.Common.{◌<◌, ◌∙◌, Some, sym, subst}
use Rattle.pl_state.specs.Contents.{core_of}
use Rattle.pl_least.specs.declared.least.Least.{Least}
use Rattle.pl_waiters.specs.Queue.{waiter}
use Rattle.pl_kernel.proofs.index.Settling.{pruned, filled, understood-fewer}
use Rattle.pl_kernel.proofs.asking.ask_node.Goals as goal

pub set_least-requires-clause-place : goal.set_least-requires-clause-place
set_least-requires-clause-place g c = subst (λ (l : Least g.row.A.Denot). c.args.node < l.places) (sym c.least_at-least.ensures.prunes.least_ones) c.requires.place

pub returns-clause-knows : goal.returns-clause-knows
returns-clause-knows g c =
    let p = c.least_at-least.ensures.prunes in
    let s = c.set_least.ensures in
    filled (core_of c.args.state.now) c.least_at-least.new.waiters c.set_least.new.self (understood-fewer (core_of c.args.state.now) c.args.waiters.now c.least_at-least.new.waiters p.fewer p.kept p.known c.requires.understood) c.args.node c.least_at-least.result
    (pruned (core_of c.args.state.now) c.args.waiters.now c.least_at-least.new.waiters (Some c.args.node) p c.requires.knows)
    (λ q l other m fits there ready. c.least_at-least.ensures.covers q l other m fits (p.fewer (waiter c.args.node q other) there) ready)
    s.queues s.touched s.known s.least

pub returns-clause-understood : goal.returns-clause-understood
returns-clause-understood g c =
    let p = c.least_at-least.ensures.prunes in
    let s = c.set_least.ensures in
    understood-fewer (core_of c.args.state.now) c.args.waiters.now c.set_least.new.self (λ key there. p.fewer key (sym (s.queues key) ∙ there)) (λ key some there. s.queues key ∙ p.kept key some there) (s.known ∙ p.known) c.requires.understood
