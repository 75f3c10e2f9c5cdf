use Rattle.std.proofs.Common.{◌≡◌, Some, None, sym, ap, subst, ◌∙◌, nat_eq, Bor}
use Rattle.std.specs.Prelude.{option_map}
use Rattle.pl_model.specs.Map.{get}
use Rattle.pl_parked.specs.declared.call.ParkedCall.{ParkedCall}
use Rattle.pl_state.specs.Contents.{Contents}
use Rattle.pl_state.specs.KernelView.{view_of}
use Rattle.pl_kernel.specs.Taken.{TellsOwner}
use Rattle.pl_kernel.proofs.Taking.{tells_owner}
use Rattle.pl_kernel.proofs.kernel.Kernel.owner.Goals as goal

pub returns-in_err-waiting : goal.returns-in_err-waiting
returns-in_err-waiting g c =
    let here : get nat_eq c.state.inside.parked.calls c.args.number ≡ None = sym c.get.ensures ∙ ap (option_map (λ (b : Bor (ParkedCall g.row.A.Denot)). b.now)) c.in_err-waiting.was in
    subst (TellsOwner c.args.self.now c.args.number) (sym c.from_residual.ensures)
    (subst (λ (z : Contents g.row.A.Denot). TellsOwner z c.args.number None) (c.state.view_is ∙ c.self.view_is) (tells_owner (view_of c.state.inside) c.state.invariant.0 c.args.number None here))

pub returns : goal.returns
returns g c =
    let w = c.in_ok-waiting.waiting.now in
    let here : get nat_eq c.state.inside.parked.calls c.args.number ≡ Some w = sym c.get.ensures ∙ ap (option_map (λ (b : Bor (ParkedCall g.row.A.Denot)). b.now)) c.in_ok-waiting.was in
    subst (λ (z : Contents g.row.A.Denot). TellsOwner z c.args.number (Some w.pid)) (c.state.view_is ∙ c.self.view_is) (tells_owner (view_of c.state.inside) c.state.invariant.0 c.args.number (Some w) here)
