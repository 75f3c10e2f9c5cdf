use Rattle.std.proofs.Common.{refl, rules, w32, SFits}
use Rattle.std.proofs.lemmas.Int.{to_z-of_z}
use Rattle.pl_lines.proofs.Pushing.{behind}
use Rattle.pl_lines.proofs.Shapes.{tee_parts}
use Rattle.pl_lines.proofs.saying.push_tee.Goals as goal

pub returns : goal.returns
returns g c =
    let from : SFits w32 c.args.from = search rules in
    let to : SFits w32 c.args.to = search rules in
    let fds = rw (to_z-of_z w32 c.args.from from, to_z-of_z w32 c.args.to to) at c.push_two_fds.ensures in
    rw (tee_parts _ c.args.from c.args.to c.args.len c.args.flags) (behind _ _ c.in_ok-push_two_fds.was fds c.push_len_and_flags.ensures refl)
