use Rattle.std.proofs.Common.{◌≡◌, Bor, false, not, refl, sym, ◌∙◌, ap, nat_eq}
use Rattle.std.specs.Prelude.{is_some}
use Rattle.pl_model.specs.Map.{get}
use Rattle.pl_parked.specs.declared.call.ParkedCall.{ParkedCall}
use Rattle.pl_state.specs.Contents.{Contents, core_of}
use Rattle.pl_kernel.proofs.NextReady.{mapped}
use Rattle.pl_kernel.proofs.index.Touching.{parked-some}
use Rattle.pl_kernel.proofs.index.Asked.{taken-out}
use Rattle.pl_kernel.proofs.asking.drop_if_ended.Given.{Over}
use Rattle.pl_kernel.proofs.asking.drop_if_ended.Goals.{After-is_some}
use Rattle.pl_kernel.proofs.asking.drop_if_ended.Goals as goal

-- whether a call is parked under the number
parked : (g : Over) (c : After-is_some g) → is_some (get nat_eq (core_of c.args.state.now).parked c.args.call.now.number) ≡ c.is_some.result
parked g c =
    parked-some c.args.state.now c.args.call.now.number
    ∙ ap (λ (z : Contents g.row.A.Denot). is_some (get nat_eq z.calls.calls c.args.call.now.number)) (sym c.state.view_is)
    ∙ ap (λ o. is_some o) (sym c.get.ensures)
    ∙ mapped (λ (b : Bor (ParkedCall g.row.A.Denot)). b.now) c.get.result
    ∙ sym c.is_some.ensures

pub returns-clause-prunes : goal.returns-clause-prunes
returns-clause-prunes g c =
    let w = (goal.at.returns-clause-prunes g c).After-is_some in
    let gone : is_some (get nat_eq (core_of c.args.state.now).parked c.args.call.now.number) ≡ false = parked g w ∙ c.if-is_some.false in
    taken-out (core_of c.args.state.now) c.args.call.now c.args.waiters.now c.remove.new.self gone c.remove.ensures.queues c.remove.ensures.touched c.remove.ensures.least c.remove.ensures.known

pub returns-clause-ended : goal.returns-clause-ended
returns-clause-ended g c = (let w = (goal.at.returns-clause-ended g c).After-is_some in sym (ap not (parked g w ∙ c.if-is_some.false)))

pub returns-then-is_some-clause-ended : goal.returns-then-is_some-clause-ended
returns-then-is_some-clause-ended g c = (let w = (goal.at.returns-then-is_some-clause-ended g c).After-is_some in sym (ap not (parked g w ∙ c.if-is_some.true)))

-- where nothing was taken out, all is as it was
pub returns-then-is_some-clause-prunes : goal.returns-then-is_some-clause-prunes
returns-then-is_some-clause-prunes g c = record { fewer = λ key there. there; kept = λ key some there. there; touched = refl; least_ones = refl; known = refl }
