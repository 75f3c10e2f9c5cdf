use Rattle.std.proofs.Common.{refl, rules, w32, SFits}
use Rattle.std.proofs.lemmas.Int.{to_z-of_z}
use Rattle.pl_model.specs.Said.{is_sayable}
use Rattle.pl_lines.proofs.saying.push_read.Goals as goal

pub returns-clause-reads_back : goal.returns-clause-reads_back
unfolding is_sayable
returns-clause-reads_back g c =
    let fd : SFits w32 c.args.fd = search rules in
    (rw (to_z-of_z w32 c.args.fd fd) at c.push_step.ensures.reads_back) refl
