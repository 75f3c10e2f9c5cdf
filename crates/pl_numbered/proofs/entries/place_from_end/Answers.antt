use Rattle.std.proofs.Common.{◌<◌, ◌-◌, Some, ◌∙◌, ap, length, rules}
use Rattle.pl_numbered.proofs.Rising.{number_here}
use Rattle.pl_numbered.proofs.entries.place_from_end.Goals as goal

pub returns-then-entries-place : goal.returns-then-entries-place
returns-then-entries-place g c =
    let entries = c.args.entries.now in
    let place = c.in_ok-end.end - c.in_ok-behind.behind in
    let within : place < length entries = search rules in
    number_here entries place c.index-entries-place.result within ∙ ap (λ n. Some n) c.if-entries-place.true
