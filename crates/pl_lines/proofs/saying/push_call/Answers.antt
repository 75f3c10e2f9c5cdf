use Rattle.std.proofs.Common.{rules, w32, SFits}
use Rattle.std.proofs.lemmas.Int.{to_z-of_z}
use Rattle.pl_model.specs.Said.{call_words}
use Rattle.pl_lines.proofs.Pushing.{pushed}
use Rattle.pl_lines.proofs.saying.push_call.Goals as goal

pub returns-in-Mkfifo : goal.returns-in-Mkfifo
unfolding call_words
returns-in-Mkfifo g c = rw c.in-Mkfifo.is (rw c.as_slice.ensures at c.push_name.ensures)

pub returns-in-Unlink : goal.returns-in-Unlink
unfolding call_words
returns-in-Unlink g c = rw c.in-Unlink.is (rw c.as_slice-in-Unlink.ensures at c.push_name-in-Unlink.ensures)

pub returns-in-Read : goal.returns-in-Read
unfolding call_words
returns-in-Read g c =
    let fd : SFits w32 c.in-Read.fd = search rules in
    rw c.in-Read.is (rw (to_z-of_z w32 c.in-Read.fd fd) at c.push_fd_and_size.ensures)

pub returns-in-SetPipeSz : goal.returns-in-SetPipeSz
unfolding call_words
returns-in-SetPipeSz g c =
    let fd : SFits w32 c.in-SetPipeSz.fd = search rules in
    rw c.in-SetPipeSz.is (rw (to_z-of_z w32 c.in-SetPipeSz.fd fd) at c.push_fd_and_size-in-SetPipeSz.ensures)

pub returns-in-Dup : goal.returns-in-Dup
unfolding call_words
returns-in-Dup g c =
    let fd : SFits w32 c.in-Dup.fd = search rules in
    rw c.in-Dup.is (rw (to_z-of_z w32 c.in-Dup.fd fd) at c.push_fd.ensures)

pub returns-in-Dup2 : goal.returns-in-Dup2
unfolding call_words
returns-in-Dup2 g c =
    let fd : SFits w32 c.in-Dup2.fd = search rules in
    let target : SFits w32 c.in-Dup2.target = search rules in
    rw c.in-Dup2.is (rw (to_z-of_z w32 c.in-Dup2.fd fd, to_z-of_z w32 c.in-Dup2.target target) at c.push_two_fds.ensures)

pub returns-in-DupFd : goal.returns-in-DupFd
unfolding call_words
returns-in-DupFd g c =
    let fd : SFits w32 c.in-DupFd.fd = search rules in
    let least : SFits w32 c.in-DupFd.least = search rules in
    rw c.in-DupFd.is (rw (to_z-of_z w32 c.in-DupFd.fd fd, to_z-of_z w32 c.in-DupFd.least least) at c.push_two_fds-in-DupFd.ensures)

pub returns-in-Close : goal.returns-in-Close
unfolding call_words
returns-in-Close g c =
    let fd : SFits w32 c.in-Close.fd = search rules in
    rw c.in-Close.is (rw (to_z-of_z w32 c.in-Close.fd fd) at c.push_fd-in-Close.ensures)

pub returns-in-GetFl : goal.returns-in-GetFl
unfolding call_words
returns-in-GetFl g c =
    let fd : SFits w32 c.in-GetFl.fd = search rules in
    rw c.in-GetFl.is (rw (to_z-of_z w32 c.in-GetFl.fd fd) at c.push_fd-in-GetFl.ensures)

pub returns-in-GetPipeSz : goal.returns-in-GetPipeSz
unfolding call_words
returns-in-GetPipeSz g c =
    let fd : SFits w32 c.in-GetPipeSz.fd = search rules in
    rw c.in-GetPipeSz.is (rw (to_z-of_z w32 c.in-GetPipeSz.fd fd) at c.push_fd-in-GetPipeSz.ensures)

pub returns-in-Fork : goal.returns-in-Fork
unfolding call_words
returns-in-Fork g c = rw c.in-Fork.is (pushed _ _ _ _ c.push_str.ensures.bytes)

pub returns-in-Exit : goal.returns-in-Exit
unfolding call_words
returns-in-Exit g c = rw c.in-Exit.is (pushed _ _ _ _ c.push_str-in-Exit.ensures.bytes)
