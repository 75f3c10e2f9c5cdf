use Rattle.std.proofs.Common.{◌≡◌, ◌++◌, sym, ◌∙◌, ap, nat_eq, subst, take, drop, arith}
use Rattle.std.proofs.lemmas.List.{length-append, length-take-le, take_at, drop_at}
use Rattle.pl_model.specs.declared.calls.Step.TheVariants.{Resume}
use Rattle.pl_model.specs.declared.replies.Reply.TheVariants.{Bytes}
use Rattle.pl_state.specs.Makes.{MakesAtKeys}
use Rattle.pl_state.proofs.Known.{known}
use Rattle.pl_state.specs.Contents.{core_of}
use Rattle.pl_kernel.proofs.index.Stepping.{knows_made}
use Rattle.pl_kernel.proofs.index.Settling.{pruned-knows}
use Rattle.pl_kernel.proofs.index.Asked.{taken-out}
use Rattle.pl_waiters.specs.declared.waiter.Waiter.{Waiter}
use Rattle.pl_model.specs.Map.{get}
use Rattle.std.specs.Prelude.{is_some}
use Rattle.pl_kernel.proofs.resuming.resume_read_into.Goals as goal

pub returns-clause-done : goal.returns-clause-done
returns-clause-done g c =
    let m = c.args.read.count in
    let read = c.give_again.new.into in
    let long = c.give_again.auto.into ∙ length-take-le m c.args.into.now c.requires.room in
    let front : take m (read ++ drop m c.args.into.now) ≡ read = take_at read (drop m c.args.into.now) m long in
    subst (λ z. MakesAtKeys c.args.kernel.now (Resume c.args.number) (Bytes z) c.give_again.new.kernel) (sym front) c.give_again.ensures.done

pub returns-clause-within : goal.returns-clause-within
returns-clause-within g c =
    let m = c.args.read.count in
    let long = c.give_again.auto.into ∙ length-take-le m c.args.into.now c.requires.room in
    let all = length-append c.give_again.new.into (drop m c.args.into.now) in
    omega (arith, long, all)

pub returns-clause-rest : goal.returns-clause-rest
returns-clause-rest g c =
    let m = c.args.read.count in
    drop_at c.give_again.new.into (drop m c.args.into.now) m (c.give_again.auto.into ∙ length-take-le m c.args.into.now c.requires.room)

pub returns-clause-knows : goal.returns-clause-knows
returns-clause-knows g c =
    pruned-knows (core_of c.give_again.new.kernel) c.touch_read_again.new.waiters c.remove.new.self
    (taken-out (core_of c.give_again.new.kernel) c.waiting_read.result c.touch_read_again.new.waiters c.remove.new.self (ap (λ o. is_some o) (ap (λ (w : Waiter). get nat_eq (core_of c.give_again.new.kernel).parked w.number) c.waiting_read.ensures ∙ c.give_again.ensures.ended))
    c.remove.ensures.queues c.remove.ensures.touched c.remove.ensures.least c.remove.ensures.known)
    (knows_made c.args.kernel.now (record { parts = known c.kernel.inside c.kernel.invariant; is = c.kernel.view_is })
    c.give_again.new.kernel (record { parts = known c.kernel-2.inside c.kernel-2.invariant; is = c.kernel-2.view_is })
    (Resume c.args.number) c.args.waiters.now c.touch_read_again.new.waiters c.requires.knows c.touch_read_again.ensures (Bytes c.give_again.new.into) c.give_again.ensures.done)
