use Rattle.std.proofs.Common.{◌≡◌, ◌++◌, length, take, ap, sym, subst, string_bytes}
use Rattle.std.specs.Prelude.{OnOk, OnErr}
use Rattle.pl_lines.proofs.Pushing.{may_cut}
use Rattle.pl_recording.specs.Record.{made_in, recorded}
use Rattle.pl_recording.proofs.Whole.{whole, as_it_was}
use Rattle.pl_recording.proofs.push_record.Goals as goal

pub keep_if_pushed-requires : goal.keep_if_pushed-requires
keep_if_pushed-requires g c =
    let place = may_cut c.push_front_of_record-pushed.ensures (rw c.as_str-len.ensures.value at c.as_str-len.utf8) (rw c.as_str.ensures.value at c.as_str.utf8) in
    rw c.as_str-len.ensures.value (place.0, λ _. place.1)

pub returns-clause-done : goal.returns-clause-done
returns-clause-done g c =
    let kept = c.keep_if_pushed.ensures in
    let now = string_bytes c.push_front_of_record-pushed.new.text in
    let after = string_bytes c.keep_if_pushed.new.text in
    subst (λ r. OnOk r (after ≡ string_bytes c.args.text.now ++ recorded c.args.limits (made_in c.args.entries.now))) (sym kept.same)
    (whole (string_bytes c.args.text.now) now after _ c.push_front_of_record-pushed.result c.push_front_of_record-pushed.ensures
    (subst (λ r. OnOk r (after ≡ now)) kept.same kept.done))

pub returns-clause-undone : goal.returns-clause-undone
returns-clause-undone g c =
    let kept = c.keep_if_pushed.ensures in
    let now = string_bytes c.push_front_of_record-pushed.new.text in
    let after = string_bytes c.keep_if_pushed.new.text in
    let len = length c.as_str-len.result.now in
    subst (λ r. OnErr r (after ≡ string_bytes c.args.text.now)) (sym kept.same)
    (as_it_was (string_bytes c.args.text.now) now after _ c.push_front_of_record-pushed.result c.push_front_of_record-pushed.ensures len (ap length c.as_str-len.ensures.value)
    (subst (λ r. OnErr r (after ≡ take len now)) kept.same kept.undone))
