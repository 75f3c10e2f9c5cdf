use Rattle.std.proofs.Common.{arith}
use Rattle.pl_model.specs.declared.calls.Step.TheVariants.{Resume}
use Rattle.pl_state.proofs.Known.{known}
use Rattle.pl_transfers.specs.ReadInto.{told}
use Rattle.pl_kernel.proofs.index.Stepping.{knows_made}
use Rattle.pl_kernel.proofs.resuming.resume_empty.Goals as goal

pub resume_read_into-reply-requires-clause-waits : goal.resume_read_into-reply-requires-clause-waits
resume_read_into-reply-requires-clause-waits g c = c.requires.found.waits

pub resume_read_into-reply-requires-clause-room : goal.resume_read_into-reply-requires-clause-room
resume_read_into-reply-requires-clause-room g c = (let count = c.requires.found.count in let none = c.requires.none in omega (arith, count, none))

pub returns-clause-knows : goal.returns-clause-knows
returns-clause-knows g c =
    knows_made c.args.kernel.now (record { parts = known c.kernel.inside c.kernel.invariant; is = c.kernel.view_is })
    c.resume_read_into-reply.new.kernel (record { parts = known c.kernel-2.inside c.kernel-2.invariant; is = c.kernel-2.view_is })
    (Resume c.args.number) c.args.waiters.now c.touch_again.new.waiters c.requires.knows c.touch_again.ensures (told c.resume_read_into-reply.result c.resume_read_into-reply.new.into) c.resume_read_into-reply.ensures.done
