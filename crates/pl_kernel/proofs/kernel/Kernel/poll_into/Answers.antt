use Rattle.std.proofs.Common.{refl, subst}
use Rattle.pl_model.specs.declared.calls.Call.{Call}
use Rattle.pl_model.specs.declared.calls.Step.{Step}
use Rattle.pl_model.specs.declared.calls.Step.TheVariants.{Begin}
use Rattle.pl_state.specs.Sound.{IsSound}
use Rattle.pl_nodes.proofs.Keyed.{if_ok}
use Rattle.pl_polls.specs.Entries.{asked}
use Rattle.pl_polls.specs.Into.{told}
use Rattle.pl_kernel.proofs.Stepping.{makes, leaves}
use Rattle.pl_kernel.proofs.Buffering.{if_err, parks}
use Rattle.pl_kernel.proofs.index.Touching.{touches-nothing}
use Rattle.pl_model.specs.Touching.{touches, touches_by}
use Rattle.pl_kernel.proofs.index.Stepping.{knows_after, none-found}
use Rattle.pl_state.proofs.Known.{known}
use Rattle.pl_state.specs.Contents.{core_of}
use Rattle.pl_kernel.proofs.kernel.Kernel.poll_into.Goals as goal

-- the queues know what waits after it
pub invariant_of-self : goal.invariant_of-self
unfolding touches touches_by
invariant_of-self g c =
    let x : Step g.row.A.Denot = Begin c.args.pid (Call.Poll (asked c.args.entries.now) c.args.wait) in (
      knows_after c.self.inside.state (record { parts = known c.state.inside c.state.invariant; is = c.state.view_is })
          c.begin_poll_into-made.new.kernel (record { parts = known c.state-2.inside c.state-2.invariant; is = c.state-2.view_is })
          x c.begin_poll_into-made.result (λ reply. told reply c.begin_poll_into-made.new.entries) c.self.inside.waiters c.self.inside.waiters c.self.invariant.0
          (touches-nothing (core_of c.self.inside.state) x c.self.inside.waiters (λ node. refl))
          c.begin_poll_into-made.ensures.done c.begin_poll_into-made.ensures.undone,
      none-found (core_of c.begin_poll_into-made.new.kernel),
    )

pub returns-clause-made : goal.returns-clause-made
returns-clause-made g c =
    let x : Step g.row.A.Denot = Begin c.args.pid (Call.Poll (asked c.args.entries.now) c.args.wait) in
    let noted = c.begin_poll_into-made.new.entries in
    rw c.keep_up.ensures (rw (← c.self.view_is) (if_ok c.begin_poll_into-made.result (λ reply does. makes c.self.inside.state c.begin_poll_into-made.new.kernel x (told reply noted) does) c.begin_poll_into-made.ensures.done))

pub returns-clause-refused : goal.returns-clause-refused
returns-clause-refused g c =
    let x : Step g.row.A.Denot = Begin c.args.pid (Call.Poll (asked c.args.entries.now) c.args.wait) in
    let noted = c.begin_poll_into-made.new.entries in
    let old = c.self.inside.state in
    let new = c.begin_poll_into-made.new.kernel in
    let sound = subst (IsSound g.row.A.Denot) c.state.view_is c.state.invariant.0 in
    rw c.keep_up.ensures (rw (← c.self.view_is) (if_ok c.begin_poll_into-made.result (λ reply does. leaves old new sound x (told reply noted) (makes old new x (told reply noted) does)) c.begin_poll_into-made.ensures.done))

pub returns-clause-wanted : goal.returns-clause-wanted
returns-clause-wanted g c =
    let x : Step g.row.A.Denot = Begin c.args.pid (Call.Poll (asked c.args.entries.now) c.args.wait) in
    rw (← c.self.view_is) (if_err c.begin_poll_into-made.result (λ may. parks c.self.inside.state x may) c.begin_poll_into-made.ensures.wanted)
