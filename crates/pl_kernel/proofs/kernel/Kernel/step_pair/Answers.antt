use Rattle.std.proofs.Common.{◌≡◌, ◌≤◌, sym, ap, subst, vec_capacity}
use Rattle.std.specs.Prelude.{IfOk, OnErr}
use Rattle.pl_state.specs.Sound.{IsSound}
use Rattle.pl_state.specs.Makes.{MakesAtKeys, WantsMemory}
use Rattle.pl_splices.proofs.by_call.Sharing.{by_step-same}
use Rattle.pl_kernel.specs.declared.sizes.ReplySizes.{ReplySizes}
use Rattle.pl_kernel.specs.Sizes.{no_list, sizes_of}
use Rattle.pl_kernel.proofs.Stepping.{makes, leaves, wanted}
use Rattle.pl_kernel.proofs.Buffering.{on_err}
use Rattle.pl_kernel.proofs.Pairing.{told_reply, room_wanted}
use Rattle.pl_kernel.proofs.kernel.Kernel.step_pair.Given.{Over}
use Rattle.pl_kernel.proofs.kernel.Kernel.step_pair.Goals.{In_ok-reply}
use Rattle.pl_kernel.proofs.index.Stepping.{knows_after, none-found}
use Rattle.pl_state.proofs.Known.{known}
use Rattle.pl_state.specs.Contents.{core_of}
use Rattle.pl_kernel.proofs.kernel.Kernel.step_pair.Goals as goal

-- the queues know what waits after it
pub invariant_of-self : goal.invariant_of-self
invariant_of-self g c = (
  knows_after c.self.inside.state (record { parts = known c.state.inside c.state.invariant; is = c.state.view_is })
      c.act-made.new.kernel (record { parts = known c.state-2.inside c.state-2.invariant; is = c.state-2.view_is })
      c.args.step c.act-made.result (λ reply. reply) c.self.inside.waiters c.touch_step.new.waiters c.self.invariant.0
      c.touch_step.ensures
      c.act-made.ensures.done c.act-made.ensures.undone,
  none-found (core_of c.act-made.new.kernel),
)

-- no room for bytes

pub returns-in_err-bytes-clause-wanted : goal.returns-in_err-bytes-clause-wanted
returns-in_err-bytes-clause-wanted g c =
    let sizes = c.reply_sizes-sizes.result in
    let some : sizes ≡ no_list → ⊥ = λ none. (let bad = c.in_err-bytes.ensures.succeeds (ap (λ (z : ReplySizes). z.bytes) none) in cc) in
    rw (← c.self.view_is) (on_err c.from_residual.result (room_wanted c.self.inside.state c.args.step sizes c.reply_sizes-sizes.ensures.value c.reply_sizes-sizes.ensures.frugal some))

pub returns-in_err-bytes-clause-shares : goal.returns-in_err-bytes-clause-shares
returns-in_err-bytes-clause-shares g c = by_step-same c.args.self.now c.args.step

-- no room for masks

pub returns-in_err-masks-clause-wanted : goal.returns-in_err-masks-clause-wanted
returns-in_err-masks-clause-wanted g c =
    let sizes = c.reply_sizes-sizes.result in
    let some : sizes ≡ no_list → ⊥ = λ none. (let bad = c.in_err-masks.ensures.succeeds (ap (λ (z : ReplySizes). z.masks) none) in cc) in
    rw (← c.self.view_is) (on_err c.from_residual-in_err-masks.result (room_wanted c.self.inside.state c.args.step sizes c.reply_sizes-sizes.ensures.value c.reply_sizes-sizes.ensures.frugal some))

pub returns-in_err-masks-clause-shares : goal.returns-in_err-masks-clause-shares
returns-in_err-masks-clause-shares g c = by_step-same c.args.self.now c.args.step

-- no memory for the step

pub returns-in_err-reply-clause-wanted : goal.returns-in_err-reply-clause-wanted
returns-in_err-reply-clause-wanted g c =
    let k = c.self.inside.state in
    rw (← c.self.view_is) (on_err c.from_residual-in_err-reply.result (subst (λ r. OnErr r (WantsMemory k c.args.step)) c.in_err-reply.was (wanted c.act-made.result k c.args.step c.act-made.ensures.wanted c.act-made.ensures.frugal)))

-- it is made, and its reply has the sizes for which there is room

same_sizes : (g : Over) (c : In_ok-reply g) → sizes_of c.in_ok-reply.reply ≡ c.reply_sizes-sizes.result
same_sizes g c = told_reply c.self.inside.state c.act-made.new.kernel c.args.step c.in_ok-reply.reply c.reply_sizes-sizes.result (subst (λ r. IfOk r (λ reply. MakesAtKeys c.self.inside.state c.args.step reply c.act-made.new.kernel)) c.in_ok-reply.was c.act-made.ensures.done) c.reply_sizes-sizes.ensures.value

pub copy_reply-again-requires-clause-bytes : goal.copy_reply-again-requires-clause-bytes
copy_reply-again-requires-clause-bytes g c =
    let v = (goal.at.copy_reply-again-requires-clause-bytes g c).In_ok-reply in
    subst (λ (z : ReplySizes). z.bytes ≤ vec_capacity c.in_ok-bytes.bytes) (sym (same_sizes g v)) c.in_ok-bytes.ensures.capacity

pub copy_reply-again-requires-clause-masks : goal.copy_reply-again-requires-clause-masks
copy_reply-again-requires-clause-masks g c =
    let v = (goal.at.copy_reply-again-requires-clause-masks g c).In_ok-reply in
    subst (λ (z : ReplySizes). z.masks ≤ vec_capacity c.in_ok-masks.masks) (sym (same_sizes g v)) c.in_ok-masks.ensures.capacity

pub returns-clause-made : goal.returns-clause-made
returns-clause-made g c = rw c.keep_up.ensures (rw (← c.self.view_is) (makes c.self.inside.state c.act-made.new.kernel c.args.step c.in_ok-reply.reply (subst (λ r. IfOk r (λ reply. MakesAtKeys c.self.inside.state c.args.step reply c.act-made.new.kernel)) c.in_ok-reply.was c.act-made.ensures.done)))

pub returns-clause-refused : goal.returns-clause-refused
returns-clause-refused g c =
    let old = c.self.inside.state in
    let new = c.act-made.new.kernel in
    let reply = c.in_ok-reply.reply in
    let sound = subst (IsSound g.row.A.Denot) c.state.view_is c.state.invariant.0 in
    rw c.keep_up.ensures (rw (← c.self.view_is) (leaves old new sound c.args.step reply (makes old new c.args.step reply (subst (λ r. IfOk r (λ reply. MakesAtKeys c.self.inside.state c.args.step reply c.act-made.new.kernel)) c.in_ok-reply.was c.act-made.ensures.done))))
