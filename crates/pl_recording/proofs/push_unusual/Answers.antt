use Rattle.std.proofs.Common.{append_assoc, refl}
use Rattle.std.specs.Prelude.{codes}
use Rattle.pl_lines.proofs.Pushing.{behind}
use Rattle.pl_model.specs.Numbers.{usual_descriptions, usual_processes, no_limit}
use Rattle.pl_recording.specs.Record.{told_unless}
use Rattle.pl_recording.proofs.push_unusual.Goals as goal

pub returns : goal.returns
returns g c =
    let limits = c.args.limits in
    let two = behind _ _ c.in_ok-push_unless.was c.push_unless.ensures c.push_unless-2.ensures refl in
    behind _ _ c.in_ok-push_unless-2.was two c.push_unless-3.ensures
    (append_assoc (told_unless usual_descriptions limits.descriptions_max (codes " --descriptions-max ")) (told_unless usual_processes limits.processes_max (codes " --processes-max ")) (told_unless no_limit limits.waiting_of_each (codes " --waiting-of-each ")))
