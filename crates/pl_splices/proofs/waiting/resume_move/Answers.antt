use Rattle.std.proofs.Common.{subst}
use Rattle.pl_model.specs.declared.calls.Step.TheVariants.{Resume}
use Rattle.pl_state.specs.Sound.{IsSound}
use Rattle.pl_state.specs.Contents.{Contents}
use Rattle.pl_nodes.proofs.Keyed.{on_err}
use Rattle.pl_splices.specs.Moves.{Tries}
use Rattle.pl_splices.specs.Waits.{WaitsToMove}
use Rattle.pl_splices.specs.Shares.{SharesBetween, SharesByStep}
use Rattle.pl_splices.proofs.by_call.Sharing.{shares-shrunk, by_way, way_resumed-is}
use Rattle.pl_splices.proofs.by_call.Retrying.{retry-ends, retry-waits, retry-wants, still-parked}
use Rattle.pl_splices.proofs.waiting.resume_move.Given.{Over}
use Rattle.pl_splices.proofs.waiting.resume_move.Goals.{After-sides_of}
use Rattle.pl_splices.proofs.waiting.resume_move.Goals as goal

-- the kernel before, and the call with its sides
module _ (g : Over) (c : After-sides_of g) where
  abbrev k : Contents g.row.A.Denot
  k = c.args.kernel.now

  sound : IsSound g.row.A.Denot k
  sound = subst (λ z. IsSound g.row.A.Denot z) c.kernel.view_is c.kernel.invariant.0

  w : WaitsToMove k c.args.number c.args.waiting c.sides_of.result
  w = c.sides_of.ensures

  shares : (new : Contents g.row.A.Denot) → SharesBetween k c.sides_of.result.from c.sides_of.result.to new → SharesByStep k (Resume c.args.number) new
  shares new between =
      let m = c.args.waiting in
      let s = c.sides_of.result in
      by_way k (Resume c.args.number) _ new (way_resumed-is k c.args.number s.from s.to m.len m.is_tee w.waits w.goes.source w.goes.target) between

pub returns-in_err-reply-clause-wanted : goal.returns-in_err-reply-clause-wanted
returns-in_err-reply-clause-wanted g c =
    let v = (goal.at.returns-in_err-reply-clause-wanted g c).After-sides_of in
    let m = c.args.waiting in
    let s = c.sides_of.result in
    on_err c.from_residual.result _ (retry-wants (k g v) (sound g v) c.args.number s.from s.to m.len m.is_tee (w g v).waits c.in_err-reply.ensures.wanted)

pub returns-in_err-reply-clause-shares : goal.returns-in_err-reply-clause-shares
returns-in_err-reply-clause-shares g c = shares g (goal.at.returns-in_err-reply-clause-shares g c).After-sides_of c.try_move.new.kernel c.try_move.ensures.shares

pub returns-in_default-clause-done : goal.returns-in_default-clause-done
returns-in_default-clause-done g c =
    let v = (goal.at.returns-in_default-clause-done g c).After-sides_of in
    let m = c.args.waiting in
    let s = c.sides_of.result in
    retry-waits (k g v) (sound g v) c.args.number s.from s.to m.len m.is_tee (w g v).waits c.try_move.new.kernel
    (subst (λ o. Tries (k g v) s.from s.to m.len m.is_tee o c.try_move.new.kernel) c.in_default.is c.in_ok-reply.ensures.done)

pub returns-in_default-clause-shares : goal.returns-in_default-clause-shares
returns-in_default-clause-shares g c = shares g (goal.at.returns-in_default-clause-shares g c).After-sides_of c.try_move.new.kernel c.try_move.ensures.shares

pub returns-clause-done : goal.returns-clause-done
returns-clause-done g c =
    let v = (goal.at.returns-clause-done g c).After-sides_of in
    let m = c.args.waiting in
    let s = c.sides_of.result in
    retry-ends (k g v) (sound g v) c.args.number s.from s.to m.len m.is_tee (w g v).waits c.in-Some.reply c.try_move.new.kernel c.end_call.new.kernel
    (subst (λ o. Tries (k g v) s.from s.to m.len m.is_tee o c.try_move.new.kernel) c.in-Some.is c.in_ok-reply.ensures.done) c.end_call.ensures.settled

pub end_call-requires : goal.end_call-requires
end_call-requires g c =
    let v = (goal.at.end_call-requires g c).After-sides_of in
    let m = c.args.waiting in
    let s = c.sides_of.result in
    still-parked (k g v) (sound g v) c.args.number s.from s.to m.len m.is_tee (w g v).waits c.in-Some.reply c.try_move.new.kernel
    (subst (λ o. Tries (k g v) s.from s.to m.len m.is_tee o c.try_move.new.kernel) c.in-Some.is c.in_ok-reply.ensures.done)

pub returns-clause-shares : goal.returns-clause-shares
returns-clause-shares g c =
    let v = (goal.at.returns-clause-shares g c).After-sides_of in
    let s = c.sides_of.result in
    shares g v c.end_call.new.kernel (shares-shrunk (k g v) s.from.node s.to.node _ c.try_move.new.kernel.nodes.memory c.end_call.new.kernel.nodes.memory c.try_move.ensures.shares c.end_call.ensures.shrinks)
