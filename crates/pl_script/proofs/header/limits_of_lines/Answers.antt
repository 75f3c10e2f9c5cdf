use Rattle.std.proofs.Common.{◌≡◌, length, sym, ap, rules, tests}
use Rattle.pl_lines.proofs.LineLemmas.{lines-empty}
use Rattle.pl_script.specs.Header.{limits_of_lines}
use Rattle.pl_script.proofs.header.limits_of_lines.Goals as goal

pub returns-then-is_empty-clause-said : goal.returns-then-is_empty-clause-said
returns-then-is_empty-clause-said c =
    let none : length c.args.body.now ≡ 0 = search (rules, tests) in
    ap (limits_of_lines c.args.limits) (sym (lines-empty c.args.body.now none))
