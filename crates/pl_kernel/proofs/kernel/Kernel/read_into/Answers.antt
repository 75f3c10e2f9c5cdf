use Rattle.std.proofs.Common.{◌∙◌, subst, length, rules, w32, SFits}
use Rattle.std.proofs.lemmas.Int.{to_z-of_z}
use Rattle.pl_model.specs.declared.calls.Call.{Call}
use Rattle.pl_model.specs.declared.calls.Step.{Step}
use Rattle.pl_model.specs.declared.calls.Step.TheVariants.{Begin}
use Rattle.pl_state.specs.Sound.{IsSound}
use Rattle.pl_nodes.proofs.Keyed.{if_ok}
use Rattle.pl_transfers.specs.ReadInto.{told}
use Rattle.pl_kernel.proofs.Stepping.{makes, leaves}
use Rattle.pl_kernel.proofs.Buffering.{if_both, if_err, parks}
use Rattle.pl_kernel.proofs.Pairing.{count_given, begun_gives}
use Rattle.pl_model.specs.Touching.{touches_by}
use Rattle.pl_kernel.proofs.index.Stepping.{knows_after, none-found}
use Rattle.pl_state.proofs.Known.{known}
use Rattle.pl_state.specs.Contents.{core_of}
use Rattle.pl_kernel.proofs.kernel.Kernel.read_into.Goals as goal

-- the queues know what waits after it
pub invariant_of-self : goal.invariant_of-self
unfolding touches_by
invariant_of-self g c =
    let fits : SFits w32 c.args.fd = search rules in
    let x : Step g.row.A.Denot = Begin c.args.pid (Call.Read c.args.fd (length c.args.into.now)) in (
      knows_after c.self.inside.state (record { parts = known c.state.inside c.state.invariant; is = c.state.view_is })
          c.begin_read_into-made.new.kernel (record { parts = known c.state-2.inside c.state-2.invariant; is = c.state-2.view_is })
          x c.begin_read_into-made.result (λ reply. told reply c.begin_read_into-made.new.into) c.self.inside.waiters c.touch_named.new.waiters c.self.invariant.0
          ((rw (to_z-of_z w32 c.args.fd fits) at c.touch_named.ensures) (Call.Read c.args.fd (length c.args.into.now)) (λ node h. h))
          (rw (to_z-of_z w32 c.args.fd fits) at c.begin_read_into-made.ensures.done) c.begin_read_into-made.ensures.undone,
      none-found (core_of c.begin_read_into-made.new.kernel),
    )

pub returns-clause-made : goal.returns-clause-made
returns-clause-made g c =
    let fits : SFits w32 c.args.fd = search rules in
    let x : Step g.row.A.Denot = Begin c.args.pid (Call.Read c.args.fd (length c.args.into.now)) in
    let read = c.begin_read_into-made.new.into in
    rw c.keep_up.ensures (rw (← c.self.view_is) (if_ok c.begin_read_into-made.result (λ reply does. makes c.self.inside.state c.begin_read_into-made.new.kernel x (told reply read) does) (rw (to_z-of_z w32 c.args.fd fits) at c.begin_read_into-made.ensures.done)))

pub returns-clause-refused : goal.returns-clause-refused
returns-clause-refused g c =
    let fits : SFits w32 c.args.fd = search rules in
    let x : Step g.row.A.Denot = Begin c.args.pid (Call.Read c.args.fd (length c.args.into.now)) in
    let read = c.begin_read_into-made.new.into in
    let old = c.self.inside.state in
    let new = c.begin_read_into-made.new.kernel in
    let sound = subst (IsSound g.row.A.Denot) c.state.view_is c.state.invariant.0 in
    rw c.keep_up.ensures (rw (← c.self.view_is) (if_ok c.begin_read_into-made.result (λ reply does. leaves old new sound x (told reply read) (makes old new x (told reply read) does)) (rw (to_z-of_z w32 c.args.fd fits) at c.begin_read_into-made.ensures.done)))

pub returns-clause-given : goal.returns-clause-given
returns-clause-given g c =
    let fits : SFits w32 c.args.fd = search rules in
    let x : Step g.row.A.Denot = Begin c.args.pid (Call.Read c.args.fd (length c.args.into.now)) in
    let read = c.begin_read_into-made.new.into in
    let old = c.self.inside.state in
    rw (← c.self.view_is)
    (if_both c.begin_read_into-made.result (λ reply does few. count_given old c.begin_read_into-made.new.kernel x reply read few does ∙ begun_gives old c.args.pid c.args.fd (length c.args.into.now))
    (rw (to_z-of_z w32 c.args.fd fits) at c.begin_read_into-made.ensures.done) c.begin_read_into-made.ensures.within)

pub returns-clause-wanted : goal.returns-clause-wanted
returns-clause-wanted g c =
    let fits : SFits w32 c.args.fd = search rules in
    let x : Step g.row.A.Denot = Begin c.args.pid (Call.Read c.args.fd (length c.args.into.now)) in
    rw (← c.self.view_is) (if_err c.begin_read_into-made.result (λ may. parks c.self.inside.state x may) (rw (to_z-of_z w32 c.args.fd fits) at c.begin_read_into-made.ensures.wanted))
