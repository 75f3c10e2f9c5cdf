use Rattle.std.proofs.Common.{◌≡◌, sym, ◌∙◌, arith}
use Rattle.std.specs.Prelude.{is_some}
use Rattle.pl_model.specs.Flags.{has, creat, excl}
use Rattle.pl_decisions.specs.Names.{fault_of_open}
use Rattle.pl_state.specs.KernelView.{view_of}
use Rattle.pl_naming.proofs.by_call.Opening.{open-misnamed, open-fault, open-many, open-full, open-may}
use Rattle.pl_state.proofs.by_call.Piping.{counted, lowest-limit}
use Rattle.pl_state.proofs.Known.{known}
use Rattle.pl_naming.proofs.naming.checked_open.Given.{Over}
use Rattle.pl_naming.proofs.naming.checked_open.Goals.{After-open_fault}
use Rattle.pl_naming.proofs.naming.checked_open.Goals as goal

-- what the flags make of what the name stands for
decided : (g : Over) (c : After-open_fault g) → fault_of_open (is_some c.look_up-found.result) (has c.args.flags.0 creat) (has c.args.flags.0 excl) ≡ c.open_fault.result
decided g c = sym (c.open_fault.ensures ∙ (λ i. fault_of_open (c.is_some.ensures i) (c.contains-creates.ensures tt i) (c.contains-is_exclusive.ensures tt i)))

pub returns-in-Some : goal.returns-in-Some
returns-in-Some g c = λ mode. open-misnamed c.args.kernel.now c.args.pid c.args.name.now mode c.args.flags c.in-Some.errno (sym c.name_fault.ensures ∙ c.in-Some.is)

pub returns-in-Some-open_fault : goal.returns-in-Some-open_fault
returns-in-Some-open_fault g c =
    let v = (goal.at.returns-in-Some-open_fault g c).After-open_fault in
    λ mode. rw (← c.kernel.view_is) (open-fault (view_of c.kernel.inside) c.args.pid c.args.name.now mode c.args.flags (sym c.name_fault.ensures ∙ c.in_default.is) c.look_up-found.result (sym c.look_up-found.ensures)
    c.in-Some-open_fault.errno (decided g v ∙ c.in-Some-open_fault.is))

pub returns-in_default-lowest : goal.returns-in_default-lowest
returns-in_default-lowest g c =
    let v = (goal.at.returns-in_default-lowest g c).After-open_fault in
    λ mode. rw (← c.kernel.view_is) (open-many (view_of c.kernel.inside) c.args.pid c.args.name.now mode c.args.flags (sym c.name_fault.ensures ∙ c.in_default.is) c.look_up-found.result (sym c.look_up-found.ensures)
    (decided g v ∙ c.in_default-open_fault.is) (lowest-limit c.kernel.inside.descs c.kernel.inside.limits c.kernel.invariant.1.bounds c.args.pid 0 ∙ sym c.lowest.ensures ∙ c.in_default-lowest.is))

pub returns-then-descriptions-live : goal.returns-then-descriptions-live
returns-then-descriptions-live g c =
    let v = (goal.at.returns-then-descriptions-live g c).After-open_fault in
    λ mode. rw (← c.kernel.view_is) (open-full (view_of c.kernel.inside) c.args.pid c.args.name.now mode c.args.flags (sym c.name_fault.ensures ∙ c.in_default.is) c.look_up-found.result (sym c.look_up-found.ensures)
    (decided g v ∙ c.in_default-open_fault.is) c.in-Some-lowest.fd (counted (known c.kernel.inside c.kernel.invariant)) (lowest-limit c.kernel.inside.descs c.kernel.inside.limits c.kernel.invariant.1.bounds c.args.pid 0 ∙ sym c.lowest.ensures ∙ c.in-Some-lowest.is) (omega (arith, c.live.ensures.value, c.descriptions.ensures, c.if-descriptions-live.true)))

pub returns : goal.returns
returns g c =
    let v = (goal.at.returns g c).After-open_fault in
    λ mode. rw (← c.kernel.view_is) (open-may (view_of c.kernel.inside) c.args.pid c.args.name.now mode c.args.flags (sym c.name_fault.ensures ∙ c.in_default.is) c.look_up-found.result (sym c.look_up-found.ensures)
    (decided g v ∙ c.in_default-open_fault.is) c.in-Some-lowest.fd (counted (known c.kernel.inside c.kernel.invariant)) (lowest-limit c.kernel.inside.descs c.kernel.inside.limits c.kernel.invariant.1.bounds c.args.pid 0 ∙ sym c.lowest.ensures ∙ c.in-Some-lowest.is) (omega (arith, c.live.ensures.value, c.descriptions.ensures, c.if-descriptions-live.false)))
