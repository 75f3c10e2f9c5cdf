use Rattle.std.proofs.Common.{◌≡◌, Some, sym, ap, subst, ◌∙◌, nat_eq, nat_lt, true, false, Bool, Bor}
use Rattle.std.specs.Prelude.{if◌then◌else◌, option_map}
use Rattle.pl_model.specs.declared.calls.Step.TheVariants.{Interrupt}
use Rattle.pl_model.specs.declared.replies.Reply.TheVariants.{Count, Fault}
use Rattle.pl_model.specs.declared.replies.Errno.TheVariants.{EINTR}
use Rattle.pl_model.specs.Map.{get}
use Rattle.pl_model.specs.Settle.{settle}
use Rattle.pl_model.specs.Step.{without_call}
use Rattle.pl_parked.specs.declared.call.ParkedCall.{ParkedCall}
use Rattle.pl_state.specs.KernelView.{view_of}
use Rattle.pl_state.specs.Contents.{Contents, core_of}
use Rattle.pl_state.specs.Makes.{MakesAtKeys}
use Rattle.pl_transfers.proofs.by_call.Resuming.{interrupt-none, interrupt-ends, some_taken, none_taken}
use Rattle.pl_transfers.proofs.waiting.interrupt.Given.{Over}
use Rattle.pl_transfers.proofs.waiting.interrupt.Goals.{After-end_call}
use Rattle.pl_transfers.proofs.waiting.interrupt.Goals as goal

-- the call that was parked, and how it ended
module _ (g : Over) (c : After-end_call g) where
  abbrev k : Contents g.row.A.Denot
  k = view_of c.kernel.inside

  ends : MakesAtKeys k (Interrupt c.args.number) (if nat_lt 0 c.in-Some.call.now.taken then Count c.in-Some.call.now.taken false else Fault EINTR) c.end_call.new.kernel
  ends =
      let here : get nat_eq k.calls.calls c.args.number ≡ Some c.in-Some.call.now = sym c.get.ensures ∙ ap (option_map (λ (b : Bor (ParkedCall g.row.A.Denot)). b.now)) c.in-Some.is in
      let ended = subst (λ z. core_of c.end_call.new.kernel ≡ settle (core_of z) (without_call (core_of z) c.args.number)) (sym c.kernel.view_is) c.end_call.ensures.settled in
      interrupt-ends k c.kernel.invariant.0 c.args.number c.in-Some.call.now here c.end_call.new.kernel ended

  -- by whether bytes were taken
  ends_by : (b : Bool) → nat_lt 0 c.in-Some.call.now.taken ≡ b → MakesAtKeys c.args.kernel.now (Interrupt c.args.number) (if b then Count c.in-Some.call.now.taken false else Fault EINTR) c.end_call.new.kernel
  ends_by b is = subst (λ z. MakesAtKeys z (Interrupt c.args.number) (if b then Count c.in-Some.call.now.taken false else Fault EINTR) c.end_call.new.kernel) c.kernel.view_is
      (subst (λ b. MakesAtKeys k (Interrupt c.args.number) (if b then Count c.in-Some.call.now.taken false else Fault EINTR) c.end_call.new.kernel) is ends)

pub returns-in_default : goal.returns-in_default
returns-in_default g c =
    let k = view_of c.kernel.inside in
    rw (← c.kernel.view_is) (interrupt-none k c.kernel.invariant.0 c.args.number (sym c.get.ensures ∙ ap (option_map (λ (b : Bor (ParkedCall g.row.A.Denot)). b.now)) c.in_default.is))

pub returns-then-taken-gt0 : goal.returns-then-taken-gt0
returns-then-taken-gt0 g c = ends_by g (goal.at.returns-then-taken-gt0 g c).After-end_call true (some_taken c.in-Some.call.now.taken c.if-taken-gt0.true)

pub returns-else-taken-gt0 : goal.returns-else-taken-gt0
returns-else-taken-gt0 g c = ends_by g (goal.at.returns-else-taken-gt0 g c).After-end_call false (none_taken c.in-Some.call.now.taken c.if-taken-gt0.false)
