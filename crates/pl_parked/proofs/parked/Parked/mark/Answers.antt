use Rattle.std.proofs.Common.{◌≡◌, Some, IfSome, IsSome, true, sym, subst, nat_eq}
use Rattle.pl_model.specs.Map.{get}
use Rattle.pl_parked.specs.Calls.{Calls}
use Rattle.pl_numbered.specs.Rising.{number_at}
use Rattle.pl_parked.specs.declared.call.ParkedCall.{ParkedCall}
use Rattle.pl_numbered.specs.Numbered.{values}
use Rattle.pl_parked.specs.Owners.{owns}
use Rattle.pl_numbered.proofs.Changing.{Found, found-in, has, not-empty, changes, keeps-changed}
use Rattle.pl_parked.proofs.Keeping.{keeps-marked, puts}
use Rattle.pl_parked.proofs.parked.Parked.mark.Given.{Over}
use Rattle.pl_parked.proofs.parked.Parked.mark.Goals.{After-index_mut}
use Rattle.pl_parked.proofs.parked.Parked.mark.Goals as goal

-- the entry of the number
module _ (g : Over) (c : After-index_mut g) where
  abbrev found : Found (ParkedCall g.row.A.Denot)
  found = found-in c.self.inside.calls c.args.number c.unwrap-place.result c.index_mut.result.now (subst (λ o. IfSome o (λ place. number_at c.self.inside.calls.entries.items place ≡ Some c.args.number)) c.unwrap-place.ensures c.place_of.ensures.here) c.index_mut.ensures.value

pub unreachable-requires : goal.unreachable-requires
unreachable-requires g c =
    not-empty (found g (goal.at.unreachable-requires g c).After-index_mut) (subst (λ (v : Calls _). IsSome (get nat_eq v.calls c.args.number)) (sym c.self.view_is) c.requires) c.in_default.is

pub invariant_of-self-inside-2 : goal.invariant_of-self-inside-2
invariant_of-self-inside-2 g c =
    record { kept = keeps-changed (found g (goal.at.invariant_of-self-inside-2 g c).After-index_mut) c.in-Some.open c.in-Some.is (record c.in-Some.open { met = true }) }

pub invariant_of-self : goal.invariant_of-self
invariant_of-self g c =
    let f = found g (goal.at.invariant_of-self g c).After-index_mut in
    rw (changes f c.in-Some.open c.in-Some.is (record c.in-Some.open { met = true }))
    (keeps-marked (values c.self.inside.calls) (owns c.self.inside.owners) c.self.inside.opens.set c.self.inside.next c.self.invariant c.args.number c.in-Some.open (has f c.in-Some.open c.in-Some.is) c.unlist.new.self.set c.unlist.ensures)

pub returns : goal.returns
returns g c =
    let f = found g (goal.at.returns g c).After-index_mut in
    puts (values c.self.inside.calls) (owns c.self.inside.owners) c.self.inside.opens.set c.self.inside.next c.self.invariant c.args.self.now c.self.view_is c.args.number c.in-Some.open (has f c.in-Some.open c.in-Some.is)
    (λ call. record call { met = true }) _ (changes f c.in-Some.open c.in-Some.is (record c.in-Some.open { met = true }))
