use Rattle.std.proofs.Common.{refl, rules, tests}
use Rattle.pl_lines.proofs.LineLemmas.{lines-empty}
use Rattle.pl_lines.proofs.lines.split_version.Goals as goal

pub returns-then-is_empty-clause-version : goal.returns-then-is_empty-clause-version
returns-then-is_empty-clause-version c = rw (lines-empty c.args.script.now (search (rules, tests))) refl

pub returns-then-is_empty-clause-body : goal.returns-then-is_empty-clause-body
returns-then-is_empty-clause-body c = rw (lines-empty c.args.script.now (search (rules, tests))) refl
