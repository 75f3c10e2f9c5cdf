use Rattle.std.proofs.Common.{refl, rules, w32, SFits}
use Rattle.std.proofs.lemmas.Int.{to_z-of_z}
use Rattle.pl_lines.proofs.Pushing.{behind}
use Rattle.pl_lines.proofs.Shapes.{splice_parts}
use Rattle.pl_lines.proofs.saying.push_splice.Goals as goal

pub returns : goal.returns
returns g c =
    let from : SFits w32 c.args.from = search rules in
    let to : SFits w32 c.args.to = search rules in
    let one = rw (to_z-of_z w32 c.args.from from) at c.push_side.ensures in
    let two = rw (to_z-of_z w32 c.args.to to) at c.push_side-2.ensures in
    let sides = behind _ _ c.in_ok-push_side.was one two refl in
    rw (splice_parts _ c.args.from c.args.from_offset c.args.to c.args.to_offset c.args.len c.args.flags) (behind _ _ c.in_ok-push_side-2.was sides c.push_len_and_flags.ensures refl)
