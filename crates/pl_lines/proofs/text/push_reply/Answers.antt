use Rattle.std.proofs.Common.{◌≡◌, true, false, rules, w32, SFits}
use Rattle.std.proofs.lemmas.Int.{to_z-of_z}
use Rattle.pl_model.specs.Shown.{reply_text}
use Rattle.pl_lines.proofs.Pushing.{pushed}
use Rattle.pl_lines.proofs.text.push_reply.Goals as goal

pub returns-in-Pid : goal.returns-in-Pid
unfolding reply_text
returns-in-Pid g c = rw c.in-Pid.is c.push_number.ensures

pub returns-in-Fds : goal.returns-in-Fds
unfolding reply_text
returns-in-Fds g c =
    let reader : SFits w32 c.in-Fds.reader = search rules in
    let writer : SFits w32 c.in-Fds.writer = search rules in
    rw c.in-Fds.is (rw (to_z-of_z w32 c.in-Fds.reader reader, to_z-of_z w32 c.in-Fds.writer writer) at c.push_fds.ensures)

pub returns-in-Flags : goal.returns-in-Flags
unfolding reply_text
returns-in-Flags g c = rw c.in-Flags.is c.push_flags.ensures

pub returns-in-Size : goal.returns-in-Size
unfolding reply_text
returns-in-Size g c = rw c.in-Size.is c.push_number-in-Size.ensures

pub returns-in-Unit : goal.returns-in-Unit
unfolding reply_text
returns-in-Unit g c = rw c.in-Unit.is (pushed _ _ _ _ c.push_str.ensures.bytes)

pub returns-in-Fault : goal.returns-in-Fault
unfolding reply_text
returns-in-Fault g c = rw (c.in-Fault.is, ← c.errno_text.ensures) (pushed _ _ _ _ c.push_str-in-Fault.ensures.bytes)

pub returns-in-Parked : goal.returns-in-Parked
unfolding reply_text
returns-in-Parked g c = rw c.in-Parked.is c.push_number-in-Parked.ensures

pub returns-in-NoProcess : goal.returns-in-NoProcess
unfolding reply_text
returns-in-NoProcess g c = rw c.in-NoProcess.is (pushed _ _ _ _ c.push_str-in-NoProcess.ensures.bytes)

pub returns-in-NoCall : goal.returns-in-NoCall
unfolding reply_text
returns-in-NoCall g c = rw c.in-NoCall.is (pushed _ _ _ _ c.push_str-in-NoCall.ensures.bytes)

pub returns-in-CallsSpent : goal.returns-in-CallsSpent
unfolding reply_text
returns-in-CallsSpent g c = rw c.in-CallsSpent.is (pushed _ _ _ _ c.push_str-in-CallsSpent.ensures.bytes)

pub returns-in-Fd : goal.returns-in-Fd
unfolding reply_text
returns-in-Fd g c =
    let fits : SFits w32 c.in-Fd.fd = search rules in
    rw c.in-Fd.is (rw (to_z-of_z w32 c.in-Fd.fd fits) at c.push_number-in-Fd.ensures)

pub returns-in-Count-default-false : goal.returns-in-Count-default-false
unfolding reply_text
returns-in-Count-default-false g c =
    let sigpipe : c.in-Count-default-false.sigpipe ≡ false = cc in
    rw (c.in-Count-default-false.is, sigpipe) c.push_number-in-Count-default-false.ensures

pub returns-in-Count-default-true : goal.returns-in-Count-default-true
unfolding reply_text
returns-in-Count-default-true g c =
    let sigpipe : c.in-Count-default-true.sigpipe ≡ true = cc in
    rw (c.in-Count-default-true.is, sigpipe) c.push_broken_count.ensures

pub returns-in-Bytes : goal.returns-in-Bytes
unfolding reply_text
returns-in-Bytes g c = rw c.in-Bytes.is (rw c.as_slice.ensures.value at c.push_bytes.ensures)

pub returns-in-Offset : goal.returns-in-Offset
unfolding reply_text
returns-in-Offset g c = rw c.in-Offset.is c.push_number-in-Offset.ensures

pub returns-in-Masks : goal.returns-in-Masks
unfolding reply_text
returns-in-Masks g c = rw c.in-Masks.is (rw c.as_slice-in-Masks.ensures at c.push_masks.ensures)
