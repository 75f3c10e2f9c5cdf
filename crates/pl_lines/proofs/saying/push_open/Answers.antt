use Rattle.std.proofs.Common.{refl}
use Rattle.pl_lines.proofs.Pushing.{behind}
use Rattle.pl_lines.proofs.Shapes.{open_parts}
use Rattle.pl_lines.proofs.saying.push_open.Goals as goal

pub returns : goal.returns
returns g c =
    let rest = behind _ _ c.in_ok-push_two.was c.push_two.ensures c.push_open_flags.ensures refl in
    rw (open_parts _ c.args.name.now c.args.mode c.args.flags, ← c.mode_text.ensures) (behind _ _ c.in_ok-push_name.was c.push_name.ensures rest refl)
