use Rattle.std.proofs.Common.{◌<◌, ◌^◌, rules, w32, SFits}
use Rattle.pl_lines.proofs.sayable.call_numbers_fit.Goals as goal

pub returns-in-Mkfifo : goal.returns-in-Mkfifo
returns-in-Mkfifo g c = rw c.in-Mkfifo.is (rw c.as_slice.ensures at c.bytes_fit.ensures)

pub returns-in-OpenName : goal.returns-in-OpenName
returns-in-OpenName g c = rw c.in-OpenName.is (rw c.as_slice-in-OpenName.ensures at c.bytes_fit-in-OpenName.ensures)

pub returns-in-Unlink : goal.returns-in-Unlink
returns-in-Unlink g c = rw c.in-Unlink.is (rw c.as_slice-in-Unlink.ensures at c.bytes_fit-in-Unlink.ensures)

pub returns-in-Write : goal.returns-in-Write
returns-in-Write g c =
    let fd : SFits w32 c.in-Write.fd = search rules in
    let value = c.as_slice-in-Write.ensures.value in
    rw c.in-Write.is (fd, rw value at c.bytes_fit-in-Write.ensures, rw value at c.as_slice-in-Write.ensures.few)

pub returns-in-Poll : goal.returns-in-Poll
returns-in-Poll g c = rw c.in-Poll.is (rw c.as_slice-in-Poll.ensures at c.entries_fit.ensures)

pub returns-in-Splice : goal.returns-in-Splice
returns-in-Splice g c =
    let from : SFits w32 c.in-Splice.from = search rules in
    let to : SFits w32 c.in-Splice.to = search rules in
    let len : c.in-Splice.len < 2 ^ 32 = search rules in
    rw c.in-Splice.is (from, c.offset_fits.ensures, to, c.offset_fits-in-Splice.ensures, len)
