use Rattle.std.proofs.Common.{ap, subst, ◌∙◌, w32, min}
use Rattle.std.proofs.lemmas.Int.{to_z-of_z}
use Rattle.pl_model.specs.Modes.{reads}
use Rattle.pl_state.specs.Opens.{Opens}
use Rattle.pl_transfers.proofs.by_call.Measuring.{readable-named}
use Rattle.pl_transfers.proofs.readable.bytes_to_read.Goals as goal

pub returns-in-Some : goal.returns-in-Some
returns-in-Some g c =
    let k = c.args.kernel.now in
    let opens = subst (λ z. Opens k reads c.args.pid z c.in-Some.open) (to_z-of_z w32 c.args.fd c.ranges.fd) c.in-Some.ensures.some in
    let found = readable-named k c.args.pid c.args.fd c.in-Some.open opens c.readable.result c.readable.ensures in
    c.min.ensures ∙ ap (min c.args.n) found
