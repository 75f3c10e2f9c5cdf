use Rattle.std.proofs.Common.{◌<◌, ◌^◌, refl, rules, w32, SFits}
use Rattle.pl_model.specs.declared.calls.Call.TheVariants.{Write}
use Rattle.pl_model.specs.declared.calls.Step.TheVariants.{Begin}
use Rattle.pl_model.specs.Said.{is_sayable, StepFits}
use Rattle.pl_model.proofs.saying.Law.{steps_read_back}
use Rattle.pl_lines.proofs.Pushing.{may_cut}
use Rattle.pl_lines.proofs.saying.push_write.Goals as goal

pub keep_if_pushed-requires : goal.keep_if_pushed-requires
keep_if_pushed-requires g c =
    let place = may_cut c.push_front_of_write-pushed.ensures (rw c.as_str-len.ensures.value at c.as_str-len.utf8) (rw c.as_str.ensures.value at c.as_str.utf8) in
    rw c.as_str-len.ensures.value (place.0, λ _. place.1)

pub returns-clause-reads_back : goal.returns-clause-reads_back
unfolding is_sayable StepFits
returns-clause-reads_back g c = λ few.
    let pid : c.args.pid < 2 ^ 32 = search rules in
    let fd : SFits w32 c.args.fd = search rules in
    steps_read_back _ (Begin c.args.pid (Write c.args.fd c.args.bytes.now)) refl (pid, (fd, c.bytes_fit.ensures, few))
