use Rattle.std.proofs.Common.{refl, sym, rules, w32, SFits}
use Rattle.std.proofs.lemmas.Int.{to_z-of_z}
use Rattle.pl_model.specs.declared.calls.Call.TheVariants.{Write}
use Rattle.pl_lines.proofs.Pushing.{pushed, behind}
use Rattle.pl_lines.proofs.Shapes.{begin_parts}
use Rattle.pl_lines.proofs.saying.push_front_of_write.Goals as goal

pub returns : goal.returns
returns g c =
    let fd : SFits w32 c.args.fd = search rules in
    let call = rw (to_z-of_z w32 c.args.fd fd) at c.push_write_call.ensures in
    let parts = begin_parts _ c.args.pid (Write c.args.fd c.args.bytes.now) in
    behind _ _ c.in_ok-push_write_call.was (behind _ _ c.in_ok-push_number.was c.push_number.ensures call (sym parts)) (pushed _ _ _ _ c.push_str.ensures.bytes) refl
