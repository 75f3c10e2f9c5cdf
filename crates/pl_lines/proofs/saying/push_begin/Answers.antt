use Rattle.std.proofs.Common.{sym}
use Rattle.pl_lines.proofs.Pushing.{behind}
use Rattle.pl_lines.proofs.Shapes.{begin_parts}
use Rattle.pl_lines.proofs.saying.push_begin.Goals as goal

pub returns : goal.returns
returns g c = behind _ _ c.in_ok-push_number.was c.push_number.ensures c.push_call.ensures (sym (begin_parts _ c.args.pid c.args.call.now))
