use Rattle.std.proofs.Common.{◌≡◌, ◌≤◌, ◌+◌, List, length, arith, ap, ◌∙◌, subst}
use Rattle.std.specs.List.{All}
use Rattle.pl_model.specs.declared.history.Entry.{Entry}
use Rattle.pl_model.specs.History.{IsLegal, state_of_history}
use Rattle.pl_state.specs.Makes.{Stands}
use Rattle.pl_locked.specs.Views.{IsDone, IsRest, Kept, total_handed, total_made}
use Rattle.pl_locked.proofs.Numbers.{at_least}
use Rattle.pl_locked.proofs.Totals.{each_done}
use Rattle.pl_locked.proofs.books.Books.finish.Given.{Over}
use Rattle.pl_locked.proofs.books.Books.finish.Goals.{After-into_parts}
use Rattle.pl_locked.proofs.books.Books.finish.Goals as goal

-- every caller is here, so all parts are, and what was made on them is the ledger's total
counted : (g : Over) (c : After-into_parts g) → length c.self.inside.recorded.journal ≡ total_made c.args.callers.items
counted g c =
    let owes = c.self.invariant.1 in
    let callers = c.args.callers.items in
    let many : g.N.Layer.callers ≤ length callers = at_least g.N.Layer.callers callers c.requires in
    let parts : c.gather.new.all.parts ≡ c.self.inside.rest.parts + length callers = c.gather.ensures.parts in
    let amount : c.gather.new.all.amount ≡ c.self.inside.rest.amount + total_made callers = c.gather.ensures.amount in
    let bound : c.gather.new.all.parts ≤ g.N.Ledger.parts = c.gather.ensures.bound in
    let all : g.N.Ledger.parts ≡ 64 = c.self.invariant.3 in
    let rest : c.self.inside.rest.parts + g.N.Layer.callers ≡ 64 = owes.parts in
    let none : c.self.inside.rest.amount ≡ 0 = owes.amount in
    let total : c.self.inside.book.total ≡ length c.self.inside.recorded.journal = owes.counted in
    let whole : c.gather.new.all.amount ≡ c.self.inside.book.total = c.audit.ensures.whole (omega arith) in
    omega arith

-- and what they were handed is the total of the other
handed : (g : Over) (c : After-into_parts g) → c.self.inside.recorded.first ≡ total_handed c.args.callers.items
handed g c =
    let owes = c.self.invariant.5 in
    let callers = c.args.callers.items in
    let many : g.N.Layer.callers ≤ length callers = at_least g.N.Layer.callers callers c.requires in
    let bound : c.gather.new.all.parts ≤ g.N.Ledger.parts = c.gather.ensures.bound in
    let all : g.N.Ledger.parts ≡ 64 = c.self.invariant.3 in
    let parts : c.gather.new.all.parts ≡ c.self.inside.rest.parts + length callers = c.gather.ensures.parts in
    let rest : c.self.inside.rest.parts + g.N.Layer.callers ≡ 64 = c.self.invariant.1.parts in
    let spare : c.self.inside.spare.parts + g.N.Layer.callers ≡ 64 = owes.parts in
    let none : c.self.inside.spare.amount ≡ 0 = owes.amount in
    let out : c.gather.new.out.parts ≡ c.self.inside.spare.parts + length callers = c.gather.ensures.handed.0 in
    let amount : c.gather.new.out.amount ≡ c.self.inside.spare.amount + total_handed callers = c.gather.ensures.handed.1 in
    let total : c.self.inside.handed.total ≡ c.self.inside.recorded.first = owes.counted in
    let whole : c.gather.new.out.amount ≡ c.self.inside.handed.total = c.audit-2.ensures.whole (omega arith) in
    omega arith

-- there are just so many callers, so each made just what the journal has of it
each : (g : Over) (c : After-into_parts g) → All (IsDone c.self.inside.recorded.journal) c.args.callers.items
each g c =
    let callers = c.args.callers.items in
    let j : List (Entry g.row.A.Denot) = c.self.inside.recorded.journal in
    let parts : c.gather.new.all.parts ≡ c.self.inside.rest.parts + length callers = c.gather.ensures.parts in
    let bound : c.gather.new.all.parts ≤ g.N.Ledger.parts = c.gather.ensures.bound in
    let all : g.N.Ledger.parts ≡ 64 = c.self.invariant.3 in
    let rest : c.self.inside.rest.parts + g.N.Layer.callers ≡ 64 = c.self.invariant.1.parts in
    let few : length callers ≤ g.N.Layer.callers = omega arith in
    each_done g.N.Layer.callers j callers c.requires few c.gather.ensures.each (counted g c)

pub returns-clause-ends : goal.returns-clause-ends
returns-clause-ends g c =
    let k = (goal.at.returns-clause-ends g c).After-into_parts in
    let limits = g.N.Layer.limits in
    let same : c.gather.new.recorded ≡ c.self.inside.recorded = c.gather.ensures.recorded in
    let result = c.into_parts.result in
    record {
      journal = c.self.inside.recorded.journal;
      part = subst (λ (z : Kept g.row.A.Denot). IsRest result.0.first z.journal result.0.journal) same c.into_parts.ensures.part;
      legal = subst (λ (z : Kept g.row.A.Denot). IsLegal limits z.journal) same c.into_parts.ensures.legal;
      count = counted g k;
      handed = c.into_parts.ensures.first ∙ (ap (λ (z : Kept g.row.A.Denot). z.first) same ∙ handed g k);
      each = each g k;
      kernel = subst (λ (z : Kept g.row.A.Denot). Stands result.1 (state_of_history limits z.journal)) same c.into_parts.ensures.kernel;
    }
