use Rattle.std.proofs.Common.{◌≡◌, ◌+◌, None, Some, sym, ◌∙◌, ap, ⊎_elim, arith}
use Rattle.std.proofs.lemmas.Bool.{cases_lt}
use Rattle.std.proofs.lemmas.List.{get_or_past}
use Rattle.pl_least.specs.None.{none}
use Rattle.pl_least.specs.Numbers.{number_of, number_at}
use Rattle.pl_least.proofs.least.Least.places.Goals as goal

-- past the places no number stands
pub returns-clause-most : goal.returns-clause-most
returns-clause-most g c = λ place number here. ⊎_elim (λ l. l)
    (λ past.
    let l = c.args.self.now in
    let halves = c.args.self.now.kept.halves in
    let off : number_at l place ≡ None = ap number_of (get_or_past l.entries.items (l.places + place) none (omega (arith, past, halves))) in
    absurd (let no : None ≡ Some number = sym off ∙ here in cc))
    (cases_lt place c.args.self.now.places)
