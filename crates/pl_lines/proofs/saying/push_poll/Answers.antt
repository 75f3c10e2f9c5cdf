use Rattle.std.proofs.Common.{refl}
use Rattle.pl_lines.proofs.Pushing.{behind}
use Rattle.pl_lines.proofs.Shapes.{poll_parts}
use Rattle.pl_lines.proofs.saying.push_poll.Goals as goal

pub returns : goal.returns
returns g c = rw (poll_parts _ c.args.entries.now c.args.wait, ← c.wait_text.ensures) (behind _ _ c.in_ok-push_two.was c.push_two.ensures c.push_entries.ensures refl)
