use Rattle.std.proofs.Common.{◌≡◌, ℕ, subst}
use Rattle.std.specs.Prelude.{option_map}
use Rattle.std.specs.List.{find}
use Rattle.pl_parked.specs.declared.call.ParkedCall.{ParkedCall}
use Rattle.pl_parked.specs.Calls.{Calls, is_of_from}
use Rattle.pl_numbered.specs.Rising.{Rise}
use Rattle.pl_parked.specs.Owned.{ListsAll}
use Rattle.pl_parked.specs.Owners.{owns}
use Rattle.pl_parked.proofs.Finding.{next-parked, next-least, next-none}
use Rattle.pl_parked.proofs.Owned.{first-owned}
use Rattle.pl_parked.proofs.parked.Parked.next_of_process.Given.{Over}
use Rattle.pl_parked.proofs.parked.Parked.next_of_process.Goals.{After-first_from}
use Rattle.pl_parked.proofs.parked.Parked.next_of_process.Goals as goal

module _ (g : Over) (c : After-first_from g) where
  rises : Rise 0 c.args.self.now.next c.args.self.now.calls
  rises = subst (λ (v : Calls _). Rise 0 v.next v.calls) c.self.view_is c.self.invariant.rise

  lists : ListsAll (owns c.self.inside.owners) c.args.self.now.calls
  lists = subst (λ (v : Calls _). ListsAll (owns c.self.inside.owners) v.calls) c.self.view_is c.self.invariant.owned

  value : c.first_from.result ≡ option_map (λ (entry : ℕ × ParkedCall g.row.A.Denot). entry.0) (find (is_of_from c.args.pid c.args.from) c.args.self.now.calls)
  value = first-owned c.args.pid c.args.from c.args.self.now.next c.args.self.now.calls rises (owns c.self.inside.owners) lists c.first_from.result c.first_from.ensures.some c.first_from.ensures.least c.first_from.ensures.none

pub returns-clause-value : goal.returns-clause-value
returns-clause-value g c = value g c

pub returns-clause-parked : goal.returns-clause-parked
returns-clause-parked g c = next-parked c.args.pid c.args.from c.args.self.now.next c.args.self.now.calls (rises g c) c.first_from.result (value g c)

pub returns-clause-least : goal.returns-clause-least
returns-clause-least g c = next-least c.args.pid c.args.from c.args.self.now.next c.args.self.now.calls (rises g c) c.first_from.result (value g c)

pub returns-clause-none : goal.returns-clause-none
returns-clause-none g c = next-none c.args.pid c.args.from c.args.self.now.calls c.first_from.result (value g c)
