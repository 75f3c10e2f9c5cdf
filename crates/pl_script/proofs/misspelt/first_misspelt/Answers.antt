use Rattle.std.proofs.Common.{◌≡◌, ◌+◌, length, refl, sym, ap, ◌∙◌, rules, tests, arith}
use Rattle.pl_lines.proofs.LineLemmas.{lines-empty}
use Rattle.pl_script.specs.Misspelt.{first_misspelt}
use Rattle.pl_script.proofs.MisspeltSteps.{none-misspelt, misspelt-here, misspelt-behind}
use Rattle.pl_script.proofs.misspelt.first_misspelt.Goals as goal

pub returns-then-is_misspelt : goal.returns-then-is_misspelt
returns-then-is_misspelt c =
    sym (c.loop-rest.invariant.same ∙ ap (first_misspelt c.loop-rest.number) c.next_line.ensures.lines
    ∙ misspelt-here c.loop-rest.number _ _ (sym c.is_misspelt.ensures ∙ c.if-is_misspelt.true))

pub loop-rest-preserved : goal.loop-rest-preserved
loop-rest-preserved c = record {
  same = c.loop-rest.invariant.same ∙ ap (first_misspelt c.loop-rest.number) c.next_line.ensures.lines
      ∙ misspelt-behind c.loop-rest.number _ _ (sym c.is_misspelt.ensures ∙ c.if-is_misspelt.false);
  few = omega (arith, c.loop-rest.invariant.few, c.next_line.ensures.shorter);
}

pub returns : goal.returns
returns c =
    let none : length c.loop-rest.rest.now ≡ 0 = search (rules, tests) in
    sym (c.loop-rest.invariant.same ∙ ap (first_misspelt c.loop-rest.number) (lines-empty c.loop-rest.rest.now none) ∙ none-misspelt c.loop-rest.number)
