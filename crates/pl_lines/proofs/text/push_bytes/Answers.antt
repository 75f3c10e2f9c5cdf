use Rattle.std.proofs.Common.{◌≡◌, ◌<◌, length, refl, rules, tests}
use Rattle.pl_lines.proofs.HexText.{no_bytes, some_digits, some_runs}
use Rattle.pl_lines.proofs.Pushing.{pushed, behind}
use Rattle.pl_lines.proofs.text.push_bytes.Goals as goal

pub returns-then-is_empty : goal.returns-then-is_empty
returns-then-is_empty g c =
    let none : length c.args.bytes.now ≡ 0 = search (rules, tests) in
    behind _ _ c.in_ok-push_str.was (pushed _ _ _ c.args.name.now c.push_str.ensures.bytes) (pushed _ _ _ _ c.push_str-then-is_empty.ensures.bytes) (rw (no_bytes c.args.version c.args.bytes.now none) refl)

pub returns-in-One : goal.returns-in-One
returns-in-One g c =
    let some : 0 < length c.args.bytes.now = search (rules, tests) in
    behind _ _ c.in_ok-push_str.was (pushed _ _ _ c.args.name.now c.push_str.ensures.bytes) c.push_digits.ensures (rw (c.in-One.is, some_digits c.args.bytes.now some) refl)

pub returns-in-Two : goal.returns-in-Two
returns-in-Two g c =
    let some : 0 < length c.args.bytes.now = search (rules, tests) in
    behind _ _ c.in_ok-push_str.was (pushed _ _ _ c.args.name.now c.push_str.ensures.bytes) c.push_runs.ensures (rw (c.in-Two.is, some_runs c.args.bytes.now some) refl)
