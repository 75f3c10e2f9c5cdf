use Rattle.std.proofs.Common.{rules, w32, SFits}
use Rattle.std.proofs.lemmas.Int.{to_z-of_z}
use Rattle.pl_state.specs.Makes.{Stands}
use Rattle.pl_script.proofs.RunSteps.{is_refused}
use Rattle.pl_script.proofs.running.refusal_of_line.Goals as goal

pub returns : goal.returns
returns g c =
    let fits : SFits w32 c.in_ok-write.write.fd = search rules in
    is_refused c.args.version (Stands c.args.kernel.now) c.args.line.now c.in_ok-write.write.pid c.in_ok-write.write.fd c.in_ok-write.write.count c.refusal_of_write.result c.in_ok-write.ensures.said (rw (to_z-of_z w32 c.in_ok-write.write.fd fits) at c.refusal_of_write.ensures.some)
