use Rattle.std.proofs.Common.{arith}
use Rattle.pl_least.proofs.Rows.{least}
use Rattle.pl_least.proofs.Firsts.{most-of}
use Rattle.pl_least.proofs.tournament.least_of.Goals as goal

pub returns-clause-least : goal.returns-clause-least
returns-clause-least c = λ other l w.
    let first = least c.args.entries.now c.args.places c.requires.kept other (let some = c.requires.some in omega (arith, some, l)) w in
    let same = c.loop-at.invariant.same in
    omega (arith, first, same)

pub returns-clause-most : goal.returns-clause-most
returns-clause-most c = λ other. most-of c.args.entries.now other (let fits = c.type_inv.entries other in omega (arith, fits))
