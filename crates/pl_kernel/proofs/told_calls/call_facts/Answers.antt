use Rattle.std.proofs.Common.{◌≡◌, Some, None, sym, ap, ◌∙◌, nat_eq, Bor}
use Rattle.std.specs.Prelude.{option_map}
use Rattle.pl_model.specs.Map.{get}
use Rattle.pl_parked.specs.declared.call.ParkedCall.{ParkedCall}
use Rattle.pl_state.specs.KernelView.{view_of}
use Rattle.pl_kernel.proofs.ToldCalls.{tells_call, tells_each}
use Rattle.pl_kernel.proofs.told_calls.call_facts.Goals as goal

pub returns-in_err-waiting-clause-value : goal.returns-in_err-waiting-clause-value
returns-in_err-waiting-clause-value g c =
    let here : get nat_eq c.kernel.inside.parked.calls c.args.number ≡ None = sym c.get.ensures ∙ ap (option_map (λ (b : Bor (ParkedCall g.row.A.Denot)). b.now)) c.in_err-waiting.was in
    rw (c.from_residual.ensures, ← c.kernel.view_is) (tells_call (view_of c.kernel.inside) c.kernel.invariant.0 c.args.number None here)

pub returns-in_err-waiting-clause-each : goal.returns-in_err-waiting-clause-each
returns-in_err-waiting-clause-each g c =
    let here : get nat_eq c.kernel.inside.parked.calls c.args.number ≡ None = sym c.get.ensures ∙ ap (option_map (λ (b : Bor (ParkedCall g.row.A.Denot)). b.now)) c.in_err-waiting.was in
    rw (c.from_residual.ensures, ← c.kernel.view_is) (tells_each (view_of c.kernel.inside) c.kernel.invariant.0 c.args.number None here)

pub returns-clause-value : goal.returns-clause-value
returns-clause-value g c =
    let w = c.in_ok-waiting.waiting.now in
    let here : get nat_eq c.kernel.inside.parked.calls c.args.number ≡ Some w = sym c.get.ensures ∙ ap (option_map (λ (b : Bor (ParkedCall g.row.A.Denot)). b.now)) c.in_ok-waiting.was in
    rw (c.facts_of_call.ensures, ← c.kernel.view_is) (tells_call (view_of c.kernel.inside) c.kernel.invariant.0 c.args.number (Some w) here)

pub returns-clause-each : goal.returns-clause-each
returns-clause-each g c =
    let w = c.in_ok-waiting.waiting.now in
    let here : get nat_eq c.kernel.inside.parked.calls c.args.number ≡ Some w = sym c.get.ensures ∙ ap (option_map (λ (b : Bor (ParkedCall g.row.A.Denot)). b.now)) c.in_ok-waiting.was in
    rw (c.facts_of_call.ensures, ← c.kernel.view_is) (tells_each (view_of c.kernel.inside) c.kernel.invariant.0 c.args.number (Some w) here)
