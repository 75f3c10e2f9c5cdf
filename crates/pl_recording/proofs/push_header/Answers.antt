use Rattle.pl_lines.proofs.Pushing.{may_cut}
use Rattle.pl_recording.proofs.push_header.Goals as goal

pub keep_if_pushed-requires : goal.keep_if_pushed-requires
keep_if_pushed-requires g c =
    let place = may_cut c.push_front_of_header-pushed.ensures (rw c.as_str-len.ensures.value at c.as_str-len.utf8) (rw c.as_str.ensures.value at c.as_str.utf8) in
    rw c.as_str-len.ensures.value (place.0, λ _. place.1)
