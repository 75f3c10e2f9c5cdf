use Rattle.std.proofs.Common.{◌<◌, Some, sym, ◌∙◌, ap, length, rules}
use Rattle.pl_numbered.proofs.Rising.{number_here}
use Rattle.pl_numbered.proofs.entries.place_from_start.Goals as goal

pub returns-then-number-entries : goal.returns-then-number-entries
returns-then-number-entries g c =
    let entries = c.args.entries.now in
    let place = c.in_ok-ahead.ahead in
    let within : place < length entries = search rules in
    number_here entries place c.index-entries-place.result within ∙ ap (λ n. Some n) (sym c.if-number-entries.true)
