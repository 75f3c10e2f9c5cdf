use Rattle.std.proofs.Common.{◌≡◌, length, sym, ap, ◌∙◌, rules, tests, arith}
use Rattle.std.proofs.lemmas.Grind.{common_steps}
use Rattle.pl_lines.proofs.LineLemmas.{lines-empty}
use Rattle.pl_script.specs.Explaining.{why_of}
use Rattle.pl_script.proofs.WhyBad.{nothing_there, first_there}
use Rattle.pl_script.proofs.explaining.explain_line_of.Goals as goal
use Rattle.pl_script.proofs.explaining.explain_line_of.Goals.{then-loop-before-test+else-not-is_empty, else-loop-before-test}

pub returns-then-is_empty : goal.returns-then-is_empty
returns-then-is_empty c =
    let none : length c.loop-before.rest.now ≡ 0 = search (rules, tests) in
    sym (nothing_there c.args.script.now c.loop-before.rest.now c.args.number c.loop-before.before c.loop-before.invariant (lines-empty c.loop-before.rest.now none))

pub returns : goal.returns
returns c =
    let first : c.loop-before.before ≡ 0 =
    elim c.loop-before-test.branch [
      | then-loop-before-test+else-not-is_empty w ↦ first_of (search (rules, tests), grind (arith, common_steps))
      | else-loop-before-test w ↦ first_of (omega arith, search (rules, tests), grind (arith, common_steps))
    ] in
    c.explain_line.ensures
    ∙ ap (λ version. why_of version c.next_line-2.result.0.now) c.split_version-version.ensures.version
    ∙ sym (first_there c.args.script.now c.loop-before.rest.now c.args.number c.loop-before.before _ _ c.loop-before.invariant c.next_line-2.ensures.lines first)
