use Rattle.std.proofs.Common.{◌≡◌, ◌<◌, length, true, false, rules, tests}
use Rattle.std.specs.Prelude.{codes}
use Rattle.std.specs.Str.{bytes_eq}
use Rattle.pl_lines.proofs.Pushing.{pushed}
use Rattle.pl_lines.proofs.Shapes.{empty_name, dash_name, other_name}
use Rattle.pl_lines.proofs.said_words.push_name_word.Goals as goal

pub returns-then-is_empty : goal.returns-then-is_empty
returns-then-is_empty g c =
    let none : length c.args.name.now ≡ 0 = search (rules, tests) in
    rw (empty_name c.args.name.now none) (pushed _ _ _ _ c.push_str.ensures.bytes)

pub returns-then-eq : goal.returns-then-eq
returns-then-eq g c =
    let is : bytes_eq c.args.name.now (codes "-") ≡ true = first_of (search (rules, tests), cc) in
    rw (dash_name c.args.name.now is) (pushed _ _ _ _ c.push_str-then-eq.ensures.bytes)

pub returns-else-eq : goal.returns-else-eq
returns-else-eq g c =
    let some : 0 < length c.args.name.now = search (rules, tests) in
    let isnt : bytes_eq c.args.name.now (codes "-") ≡ false = first_of (search (rules, tests), cc) in
    rw (other_name c.args.name.now some isnt) c.push_name_bytes.ensures
