use Rattle.std.proofs.Common.{◌≡◌, Some, refl, sym, ap, subst, ◌∙◌, IfSome}
use Rattle.pl_model.specs.Packets.{used}
use Rattle.pl_model.specs.declared.calls.Call.{Call}
use Rattle.pl_model.specs.declared.calls.Step.TheVariants.{Begin}
use Rattle.pl_model.specs.declared.replies.Reply.TheVariants.{Size}
use Rattle.pl_model.specs.State.{Pipe}
use Rattle.pl_desc.specs.Rows.{at}
use Rattle.pl_decisions.specs.Capacities.{capacity_set}
use Rattle.pl_state.specs.Contents.{core_of, nodes_of}
use Rattle.pl_state.specs.KernelView.{view_of}
use Rattle.pl_state.specs.Makes.{MakesAtKeys}
use Rattle.pl_state.specs.Sound.{IsSound}
use Rattle.pl_state.proofs.by_call.Moving.{put_sound}
use Rattle.pl_state.proofs.Known.{Caller, caller, moved_view}
use Rattle.pl_transfers.specs.Capacities.{pipe_named, HasEnd}
use Rattle.pl_transfers.proofs.by_call.Sizing.{told_pipe, pipe_of_end, set-none, set-fault, set-wants, set-made}
use Rattle.pl_transfers.proofs.capacities.set_pipe_sz.Given.{Over}
use Rattle.pl_transfers.proofs.capacities.set_pipe_sz.Goals.{After-pipe_named, After-capacity_for}
use Rattle.pl_transfers.proofs.capacities.set_pipe_sz.Goals as goal

-- the process that calls, and what its descriptor names
module _ (g : Over) (c : After-pipe_named g) where
  abbrev calls_on : Caller g.row.A.Denot
  calls_on = caller c.kernel.inside c.kernel.invariant c.args.kernel.now c.kernel.view_is c.args.pid c.requires

  named : pipe_named (core_of (view_of c.kernel.inside)) c.args.pid c.args.fd ≡ c.pipe_named.result
  named = told_pipe (view_of c.kernel.inside) c.args.kernel.now c.kernel.view_is c.args.pid c.args.fd c.ranges.fd c.pipe_named.result c.pipe_named.ensures.value

-- the pipe, and what its capacity comes to
module _ (g : Over) (c : After-capacity_for g) where
  pipe_held : HasEnd (view_of c.kernel.inside) c.in-Some.pipe × ((y : Pipe) × (at (view_of c.kernel.inside).nodes.pipes c.in-Some.pipe ≡ Some y))
  pipe_held = pipe_of_end (view_of c.kernel.inside) c.args.kernel.now c.kernel.view_is c.kernel.invariant.0.whole c.in-Some.pipe c.in-Some.ensures.end

  abbrev there : (y : Pipe) × (at (view_of c.kernel.inside).nodes.pipes c.in-Some.pipe ≡ Some y)
  there = pipe_held.1

  set_to : capacity_set c.args.size (used there.0) c.kernel.inside.limits.capacity_max ≡ c.capacity_for.result
  set_to =
      let held : c.used.result ≡ used there.0 = subst (λ z. IfSome z (λ x. c.used.result ≡ used x)) there.1 c.used.ensures.value in
      sym (c.capacity_for.ensures.value ∙ ap (λ n. capacity_set c.args.size n c.kernel.inside.limits.capacity_max) held)

pub returns-in_default-clause-done : goal.returns-in_default-clause-done
returns-in_default-clause-done g c =
    let w = (goal.at.returns-in_default-clause-done g c).After-pipe_named in
    rw (← c.kernel.view_is) (set-none (calls_on g w) c.args.fd c.args.size (named g w ∙ c.in_default.is))

pub returns-in-Err-clause-done : goal.returns-in-Err-clause-done
returns-in-Err-clause-done g c =
    let s = (goal.at.returns-in-Err-clause-done g c).After-capacity_for in
    let w = (goal.at.returns-in-Err-clause-done g c).After-pipe_named in
    rw (← c.kernel.view_is) (set-fault (calls_on g w) c.args.fd c.args.size c.in-Some.pipe (named g w ∙ c.in-Some.is) (there g s).0 (there g s).1 c.in-Err.errno (set_to g s ∙ c.in-Err.is))

pub returns-in_default-set_capacity-clause-wanted : goal.returns-in_default-set_capacity-clause-wanted
returns-in_default-set_capacity-clause-wanted g c =
    let s = (goal.at.returns-in_default-set_capacity-clause-wanted g c).After-capacity_for in
    let w = (goal.at.returns-in_default-set_capacity-clause-wanted g c).After-pipe_named in
    rw (← c.kernel.view_is) (set-wants (calls_on g w) c.args.fd c.args.size c.in-Some.pipe (named g w ∙ c.in-Some.is) (there g s).0 (there g s).1 c.in-Ok.capacity (set_to g s ∙ c.in-Ok.is))

pub invariant_of-kernel-2 : goal.invariant_of-kernel-2
invariant_of-kernel-2 g c =
    let s = (goal.at.invariant_of-kernel-2 g c).After-capacity_for in
    let k = view_of c.kernel.inside in
    let y = there g s in
    let end = (pipe_held g s).0 in (
      subst (IsSound g.row.A.Denot) (moved_view c.kernel.inside c.set_capacity.new.self c.set_capacity.ensures.files)
          (put_sound k c.kernel.invariant.0 end.0 c.in-Some.pipe end.1 y.0 y.1 (record y.0 { capacity = c.in-Ok.capacity }) refl (nodes_of c.set_capacity.new.self) (λ x. record x { capacity = c.in-Ok.capacity }) refl c.in-Ok-set_capacity.ensures.ok),
      c.kernel.invariant.1,
    )

pub returns-clause-done : goal.returns-clause-done
returns-clause-done g c =
    let s = (goal.at.returns-clause-done g c).After-capacity_for in
    let w = (goal.at.returns-clause-done g c).After-pipe_named in
    let k = view_of c.kernel.inside in
    let y = there g s in
    let end = (pipe_held g s).0 in
    rw (← c.kernel.view_is) (subst (MakesAtKeys k (Begin c.args.pid (Call.SetPipeSz c.args.fd c.args.size)) (Size c.in-Ok.capacity)) (moved_view c.kernel.inside c.set_capacity.new.self c.set_capacity.ensures.files)
    (set-made (calls_on g w) c.args.fd c.args.size c.in-Some.pipe (named g w ∙ c.in-Some.is) y.0 y.1 c.in-Ok.capacity (set_to g s ∙ c.in-Ok.is) end (nodes_of c.set_capacity.new.self) c.in-Ok-set_capacity.ensures.ok))
