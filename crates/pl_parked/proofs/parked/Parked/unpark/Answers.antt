use Rattle.std.proofs.Common.{◌≡◌, ◌+◌, ◌++◌, [], ◌∷◌, Some, ap, sym, ◌∙◌, subst, nat_eq}
use Rattle.pl_model.specs.Map.{get}
use Rattle.pl_parked.specs.Calls.{Calls}
use Rattle.pl_numbered.specs.Rising.{Rise}
use Rattle.pl_numbered.specs.Numbered.{values}
use Rattle.pl_parked.specs.Owners.{owns}
use Rattle.pl_parked.proofs.Keeping.{keeps-unparked}
use Rattle.pl_numbered.proofs.Rising.{without-last}
use Rattle.pl_parked.proofs.parked.Parked.unpark.Given.{Over}
use Rattle.pl_parked.proofs.parked.Parked.unpark.Goals.{After-unwrap-call}
use Rattle.pl_parked.proofs.parked.Parked.unpark.Goals as goal

module _ (g : Over) (c : After-unwrap-call g) where
  has : get nat_eq (values c.self.inside.calls) c.args.number ≡ Some c.unwrap-call.result
  has = sym c.take.ensures.value ∙ c.unwrap-call.ensures

  last : c.args.number + 1 ≡ c.self.inside.next
  last = c.requires.last ∙ ap (λ (v : Calls _). v.next) (sym c.self.view_is)

pub invariant_of-self : goal.invariant_of-self
invariant_of-self g c =
    let w = (goal.at.invariant_of-self g c).After-unwrap-call in
    rw c.take.ensures.rest
    (keeps-unparked (values c.self.inside.calls) (owns c.self.inside.owners) c.self.inside.opens.set c.self.inside.next c.self.invariant c.args.number c.unwrap-call.result (has g w)
    (owns c.remove.new.self) c.unlist.new.self.set c.remove.ensures c.unlist.ensures (last g w))

pub returns-clause-calls : goal.returns-clause-calls
returns-clause-calls g c =
    let w = (goal.at.returns-clause-calls g c).After-unwrap-call in
    ap (λ (v : Calls _). v.calls) (sym c.self.view_is)
    ∙ (without-last c.args.number 0 (values c.self.inside.calls) c.unwrap-call.result (subst (λ m. Rise 0 m (values c.self.inside.calls)) (sym (last g w)) c.self.invariant.rise) (has g w)).0
    ∙ ap (λ calls. calls ++ (c.args.number, c.unwrap-call.result) ∷ []) (sym c.take.ensures.rest)
