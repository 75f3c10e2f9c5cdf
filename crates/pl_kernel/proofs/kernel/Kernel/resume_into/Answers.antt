use Rattle.std.proofs.Common.{refl, subst}
use Rattle.pl_model.specs.declared.calls.Step.{Step}
use Rattle.pl_model.specs.declared.calls.Step.TheVariants.{Resume}
use Rattle.pl_state.specs.Sound.{IsSound}
use Rattle.pl_kernel.proofs.Stepping.{makes, leaves, wants}
use Rattle.pl_kernel.proofs.Buffering.{on_err}
use Rattle.pl_kernel.proofs.index.Stepping.{knows_after, none-found}
use Rattle.pl_state.proofs.Known.{known}
use Rattle.pl_state.specs.Contents.{core_of}
use Rattle.pl_kernel.proofs.kernel.Kernel.resume_into.Goals as goal

-- the queues know what waits after it
pub invariant_of-self : goal.invariant_of-self
invariant_of-self g c = (
  knows_after c.self.inside.state (record { parts = known c.state.inside c.state.invariant; is = c.state.view_is })
      c.try_again-made.new.kernel (record { parts = known c.state-in_default.inside c.state-in_default.invariant; is = c.state-in_default.view_is })
      (Resume c.args.number) c.try_again-made.result (λ reply. reply) c.self.inside.waiters c.touch_again.new.waiters c.self.invariant.0
      c.touch_again.ensures
      c.try_again-made.ensures.done c.try_again-made.ensures.undone,
  none-found (core_of c.try_again-made.new.kernel),
)

pub invariant_of-self-in_default : goal.invariant_of-self-in_default
invariant_of-self-in_default g c = (
  knows_after c.self.inside.state (record { parts = known c.state.inside c.state.invariant; is = c.state.view_is })
      c.try_again-made.new.kernel (record { parts = known c.state-in_default.inside c.state-in_default.invariant; is = c.state-in_default.view_is })
      (Resume c.args.number) c.try_again-made.result (λ reply. reply) c.self.inside.waiters c.touch_again.new.waiters c.self.invariant.0
      c.touch_again.ensures
      c.try_again-made.ensures.done c.try_again-made.ensures.undone,
  none-found (core_of c.try_again-made.new.kernel),
)

-- the call is no read: it is tried again as by a step

pub returns-in_err-made-clause-reads : goal.returns-in_err-made-clause-reads
returns-in_err-made-clause-reads g c = λ key n waits. absurd (c.in_default.ensures.others key n waits)

pub returns-in_err-made-clause-wanted : goal.returns-in_err-made-clause-wanted
returns-in_err-made-clause-wanted g c =
    rw (← c.in_default.ensures.unchanged.0) (rw (← c.self.view_is) (on_err c.from_residual.result (wants c.self.inside.state (Resume c.args.number) c.in_err-made.ensures.wanted refl)))

pub returns-in_default-clause-made : goal.returns-in_default-clause-made
returns-in_default-clause-made g c =
    rw (← c.in_default.ensures.unchanged.0) (rw (← c.self.view_is) (makes c.self.inside.state c.try_again-made.new.kernel (Resume c.args.number) c.in_ok-made.field-0 c.in_ok-made.ensures.done))

pub returns-in_default-clause-refused : goal.returns-in_default-clause-refused
returns-in_default-clause-refused g c =
    let old = c.self.inside.state in
    let new = c.try_again-made.new.kernel in
    let x : Step g.row.A.Denot = Resume c.args.number in
    let reply = c.in_ok-made.field-0 in
    let sound = subst (IsSound g.row.A.Denot) c.state.view_is c.state.invariant.0 in
    rw (← c.in_default.ensures.unchanged.0) (rw (← c.self.view_is) (leaves old new sound x reply (makes old new x reply c.in_ok-made.ensures.done)))

pub returns-in_default-clause-reads : goal.returns-in_default-clause-reads
returns-in_default-clause-reads g c = λ key n waits. absurd (c.in_default.ensures.others key n waits)

-- it is a read

pub returns-clause-reads : goal.returns-clause-reads
returns-clause-reads g c = λ key n waits. (refl, c.in-Some.ensures.reads.1)

pub returns-clause-others : goal.returns-clause-others
returns-clause-others g c = λ none. (let r = c.in-Some.ensures.reads.0 in absurd (none r.0 r.1 r.2))
