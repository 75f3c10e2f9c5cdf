use Rattle.std.proofs.Common.{refl, rules, w32, SFits}
use Rattle.std.proofs.lemmas.Int.{to_z-of_z}
use Rattle.pl_model.specs.Said.{call_words}
use Rattle.pl_lines.proofs.Pushing.{behind}
use Rattle.pl_lines.proofs.saying.push_set_fl.Goals as goal

pub returns : goal.returns
unfolding call_words
returns g c =
    let fd : SFits w32 c.args.fd = search rules in
    behind _ _ c.in_ok-push_fd.was (rw (to_z-of_z w32 c.args.fd fd) at c.push_fd.ensures) c.push_open_names.ensures refl
