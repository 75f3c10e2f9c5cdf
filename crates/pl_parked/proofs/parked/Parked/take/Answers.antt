use Rattle.std.proofs.Common.{sym, ◌∙◌, subst}
use Rattle.pl_parked.specs.CallsView.{IsSound}
use Rattle.pl_numbered.specs.Numbered.{values}
use Rattle.pl_parked.specs.Owners.{owns}
use Rattle.pl_parked.proofs.Keeping.{keeps-without}
use Rattle.pl_numbered.proofs.Rising.{without-absent}
use Rattle.pl_parked.proofs.parked.Parked.take.Goals as goal

pub invariant_of-self : goal.invariant_of-self
invariant_of-self g c =
    let none = sym c.in_err-call.ensures.value in
    subst (λ calls. IsSound calls (owns c.self.inside.owners) c.self.inside.opens.set c.self.inside.next) (sym (c.take.ensures.rest ∙ without-absent c.args.number (values c.self.inside.calls) none)) c.self.invariant

pub invariant_of-self-2 : goal.invariant_of-self-2
invariant_of-self-2 g c =
    let has = sym c.in_ok-call.ensures.value in
    rw c.take.ensures.rest
    (keeps-without (values c.self.inside.calls) (owns c.self.inside.owners) c.self.inside.opens.set c.self.inside.next c.self.invariant c.args.number c.in_ok-call.call has
    (owns c.remove.new.self) c.unlist.new.self.set c.remove.ensures c.unlist.ensures)
