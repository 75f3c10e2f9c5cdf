use Rattle.std.proofs.Common.{refl, rules, w32, w64, SFits}
use Rattle.std.proofs.lemmas.Int.{to_z-of_z}
use Rattle.pl_lines.proofs.Pushing.{behind}
use Rattle.pl_lines.proofs.Shapes.{lseek_parts}
use Rattle.pl_lines.proofs.saying.push_lseek.Goals as goal

pub returns : goal.returns
returns g c =
    let fd : SFits w32 c.args.fd = search rules in
    let offset : SFits w64 c.args.offset = search rules in
    let one = rw (to_z-of_z w32 c.args.fd fd) at c.push_fd.ensures in
    let two = rw (to_z-of_z w64 c.args.offset offset) at c.push_place.ensures in
    let both = behind _ _ c.in_ok-push_fd.was one two refl in
    rw (lseek_parts _ c.args.fd c.args.offset c.args.whence, ← c.whence_text.ensures) (behind _ _ c.in_ok-push_place.was both c.push_two.ensures refl)
