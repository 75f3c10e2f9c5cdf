use Rattle.std.proofs.Common.{subst}
use Rattle.pl_parked.specs.Calls.{Calls}
use Rattle.pl_numbered.specs.Rising.{Rise}
use Rattle.pl_parked.specs.Waiting.{Lists}
use Rattle.pl_parked.proofs.Listed.{met-none}
use Rattle.pl_parked.proofs.Meeting.{none-left}
use Rattle.pl_parked.proofs.Waiting.{IfNone_then}
use Rattle.pl_parked.proofs.parked.Parked.next_met.Goals as goal

pub returns-clause-none : goal.returns-clause-none
returns-clause-none g c =
    let seen = subst (λ (v : Calls _). Rise 0 v.next v.calls) c.self.view_is c.self.invariant.rise in
    let lists = subst (λ (v : Calls _). Lists c.self.inside.opens.set v.calls) c.self.view_is c.self.invariant.listed in
    IfNone_then c.first_met.result c.first_met.ensures.none (λ none.
    none-left c.args.pipe c.args.mode 0 c.args.self.now.next c.args.self.now.calls seen
    (λ number. met-none c.self.inside.opens.set c.args.self.now.calls lists c.args.pipe c.args.mode number (none number)))
