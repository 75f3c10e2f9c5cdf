use Rattle.std.proofs.Common.{◌≡◌, ◌∙◌, ◌++◌, ◌∷◌, [], Option, ap, sym}
use Rattle.pl_file.specs.declared.row.Entry.{Entry}
use Rattle.pl_file.specs.Rows.{slots_of}
use Rattle.pl_file.proofs.Placed.{slots-are, slots-append, pop-is, pop-end}
use Rattle.std.specs.Option.{option_to_list}
use Rattle.pl_file.proofs.row.Row.pop.Given.{Over}
use Rattle.pl_file.proofs.row.Row.pop.Goals.{After-unwrap-entry}
use Rattle.pl_file.proofs.row.Row.pop.Goals as goal

shape : (g : Over) (c : After-unwrap-entry g) → c.self.inside.entries.items ≡ c.pop.new.self.items ++ c.unwrap-entry.result ∷ []
shape g c = c.pop.ensures.items ∙ ap (λ (o : Option Entry). c.pop.new.self.items ++ option_to_list o) c.unwrap-entry.ensures

pub invariant_of-self : goal.invariant_of-self
invariant_of-self g c =
    let k = c.self.inside in
    let s = shape g (goal.at.invariant_of-self g c).After-unwrap-entry in
    record {
      placed = pop-is k.base k.entries.items c.pop.new.self.items c.unwrap-entry.result c.self.invariant.placed s;
      end = pop-end k.base k.entries.items c.pop.new.self.items c.unwrap-entry.result c.self.invariant.placed s;
    }

pub returns-clause-slots : goal.returns-clause-slots
returns-clause-slots g c =
    sym (slots-are c.self.inside c.args.self.now c.self.view_is)
    ∙ ap slots_of (shape g (goal.at.returns-clause-slots g c).After-unwrap-entry)
    ∙ slots-append c.pop.new.self.items (c.unwrap-entry.result ∷ [])
