use Rattle.std.proofs.Common.{◌≡◌, sym, subst, ◌∙◌, IfSome}
use Rattle.pl_model.specs.declared.calls.Call.{Call}
use Rattle.pl_model.specs.declared.calls.Step.TheVariants.{Begin}
use Rattle.pl_model.specs.declared.replies.Reply.TheVariants.{Size}
use Rattle.pl_state.specs.Contents.{core_of}
use Rattle.pl_state.specs.KernelView.{view_of}
use Rattle.pl_state.specs.Makes.{MakesAtKeys}
use Rattle.pl_state.proofs.Known.{Caller, caller}
use Rattle.pl_transfers.specs.Capacities.{pipe_named}
use Rattle.pl_transfers.proofs.by_call.Sizing.{told_pipe, pipe_of_end, get-none, get-some}
use Rattle.pl_transfers.proofs.capacities.get_pipe_sz.Given.{Over}
use Rattle.pl_transfers.proofs.capacities.get_pipe_sz.Goals.{After-pipe_named}
use Rattle.pl_transfers.proofs.capacities.get_pipe_sz.Goals as goal

-- the process that calls, and what its descriptor names
module _ (g : Over) (c : After-pipe_named g) where
  abbrev calls_on : Caller g.row.A.Denot
  calls_on = caller c.kernel.inside c.kernel.invariant c.args.kernel.now c.kernel.view_is c.args.pid c.requires

  named : pipe_named (core_of (view_of c.kernel.inside)) c.args.pid c.args.fd ≡ c.pipe_named.result
  named = told_pipe (view_of c.kernel.inside) c.args.kernel.now c.kernel.view_is c.args.pid c.args.fd c.ranges.fd c.pipe_named.result c.pipe_named.ensures.value

pub returns-in_default : goal.returns-in_default
returns-in_default g c =
    let w = (goal.at.returns-in_default g c).After-pipe_named in
    rw (← c.kernel.view_is) (get-none (calls_on g w) c.args.fd (named g w ∙ c.in_default.is))

pub returns : goal.returns
returns g c =
    let w = (goal.at.returns g c).After-pipe_named in
    let k = view_of c.kernel.inside in
    let there = (pipe_of_end k c.args.kernel.now c.kernel.view_is c.kernel.invariant.0.whole c.in-Some.pipe c.in-Some.ensures.end).1 in
    let told : c.capacity.result ≡ there.0.capacity = subst (λ z. IfSome z (λ x. c.capacity.result ≡ x.capacity)) there.1 c.capacity.ensures.value in
    rw (← c.kernel.view_is) (subst (λ n. MakesAtKeys k (Begin c.args.pid (Call.GetPipeSz c.args.fd)) (Size n) k) (sym told) (get-some (calls_on g w) c.args.fd c.in-Some.pipe (named g w ∙ c.in-Some.is) there.0 there.1))
