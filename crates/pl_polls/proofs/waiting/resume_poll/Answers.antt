use Rattle.std.proofs.Common.{◌≡◌, ℕ, ℤ, Bool, List, Some, IfSome, IsSome, true, false, sym, ap, subst, ◌∙◌, nat_eq, Bor}
use Rattle.std.specs.Prelude.{option_map}
use Rattle.std.specs.List.{list_any}
use Rattle.std.specs.Set.{is_member}
use Rattle.pl_model.specs.declared.calls.Step.TheVariants.{Resume}
use Rattle.pl_model.specs.declared.flags.PollMask.{PollMask}
use Rattle.pl_model.specs.Map.{get}
use Rattle.pl_model.specs.Poll.{is_ready, masks_reply}
use Rattle.pl_model.specs.Settle.{settle}
use Rattle.pl_model.specs.Step.{without_call}
use Rattle.pl_parked.specs.declared.call.ParkedCall.{ParkedCall}
use Rattle.pl_desc.specs.Rows.{at}
use Rattle.pl_state.specs.Contents.{Contents, core_of}
use Rattle.pl_state.specs.KernelView.{view_of}
use Rattle.pl_state.specs.Makes.{MakesAtKeys}
use Rattle.pl_state.specs.Sound.{IsWaiting, MayWait}
use Rattle.pl_state.proofs.Known.{known, parts_of}
use Rattle.pl_state.proofs.waiting.Ending.{member_there}
use Rattle.pl_state.proofs.by_call.Resumed.{resume-none}
use Rattle.pl_nodes.proofs.Keyed.{on_err}
use Rattle.pl_polls.specs.declared.masks.Descriptions.TheVariants.{Kept}
use Rattle.pl_polls.specs.Masks.{AreCurrent, masks_of}
use Rattle.pl_polls.proofs.by_call.Retrying.{found, kept_masks, retry-answers, retry-wants, retry-waits}
use Rattle.pl_polls.proofs.waiting.resume_poll.Given.{Over}
use Rattle.pl_polls.proofs.waiting.resume_poll.Goals.{In-Some, After-as_slice}
use Rattle.pl_polls.proofs.waiting.resume_poll.Goals as goal

pub returns-in_default-clause-done : goal.returns-in_default-clause-done
returns-in_default-clause-done g c =
    let k = view_of c.kernel.inside in
    rw (← c.kernel.view_is) (resume-none k c.kernel.invariant.0 c.args.number (sym c.get.ensures ∙ ap (option_map (λ (b : Bor (ParkedCall g.row.A.Denot)). b.now)) c.in_default.is))

-- the call of the number
module _ (g : Over) (c : In-Some g) where
  abbrev w : ParkedCall g.row.A.Denot
  w = c.in-Some.call.now

  here : get nat_eq c.kernel.inside.parked.calls c.args.number ≡ Some w
  here = sym c.get.ensures ∙ ap (option_map (λ (b : Bor (ParkedCall g.row.A.Denot)). b.now)) c.in-Some.is

-- what it keeps, and what is found of that
module _ (g : Over) (c : After-as_slice g) where
  abbrev A : Type 0
  A = g.row.A.Denot

  abbrev v : In-Some g
  v = (goal.at.After-as_slice g c).In-Some

  abbrev k : Contents A
  k = view_of c.kernel.inside

  kept_open : AreCurrent c.args.kernel.now (Kept c.as_slice.result)
  kept_open =
      subst (λ (z : Contents A). AreCurrent z (Kept c.as_slice.result)) c.kernel.view_is
      (subst (λ ks. (key : ℕ) → is_member nat_eq ks key ≡ true → IsSome (at k.opened key)) (sym c.as_slice.ensures) (member_there (parts_of (known c.kernel.inside c.kernel.invariant)) c.args.number (w g v) (here g v)))

  abbrev looked : List PollMask
  looked = found k c.kernel.invariant.0 c.args.number (w g v) (here g v) c.in-Poll.entries c.in-Poll.wait c.in-Poll.is

  looked_is : (entries : List (ℤ × PollMask)) → entries ≡ c.in-Poll.entries → masks_of c.args.kernel.now (Kept c.as_slice.result) entries ≡ looked
  looked_is entries same =
      (λ i. masks_of (sym c.kernel.view_is i) (Kept c.as_slice.result) (same i))
      ∙ kept_masks k c.kernel.invariant.0 c.args.number (w g v) (here g v) c.in-Poll.entries c.in-Poll.wait c.in-Poll.is c.as_slice.result c.as_slice.ensures

  ready_is : (entries : List (ℤ × PollMask)) → entries ≡ c.in-Poll.entries → (ready b : Bool) → ready ≡ list_any is_ready (masks_of c.args.kernel.now (Kept c.as_slice.result) entries) → ready ≡ b → list_any is_ready looked ≡ b
  ready_is entries same ready b told is = ap (list_any is_ready) (sym (looked_is entries same)) ∙ sym told ∙ is

  none_taken : (w g v).taken ≡ 0
  none_taken =
      let waits : IsWaiting A (w g v) = subst (λ o. IfSome o (IsWaiting A)) (here g v) (c.kernel.invariant.0.waiting c.args.number) in
      let may = subst (λ z. MayWait z (w g v).taken) c.in-Poll.is waits.may in
      may.0

pub is_ready-requires-clause-current : goal.is_ready-requires-clause-current
is_ready-requires-clause-current g c = kept_open g (goal.at.is_ready-requires-clause-current g c).After-as_slice

pub masks_reply-requires-clause-current : goal.masks_reply-requires-clause-current
masks_reply-requires-clause-current g c = kept_open g (goal.at.masks_reply-requires-clause-current g c).After-as_slice

pub returns-then-not-is_ready-clause-done : goal.returns-then-not-is_ready-clause-done
returns-then-not-is_ready-clause-done g c =
    let u = (goal.at.returns-then-not-is_ready-clause-done g c).After-as_slice in
    let none = ready_is g u c.as_slice-2.result.now c.as_slice-2.ensures c.is_ready.result false c.is_ready.ensures c.if-not-is_ready.true in
    rw (← c.kernel.view_is) (retry-waits (k g u) c.kernel.invariant.0 c.args.number (w g (v g u)) (here g (v g u)) c.in-Poll.entries c.in-Poll.wait c.in-Poll.is none (none_taken g u))

pub returns-in_err-reply-clause-wanted : goal.returns-in_err-reply-clause-wanted
returns-in_err-reply-clause-wanted g c =
    let u = (goal.at.returns-in_err-reply-clause-wanted g c).After-as_slice in
    let some = ready_is g u c.as_slice-2.result.now c.as_slice-2.ensures c.is_ready.result true c.is_ready.ensures c.if-not-is_ready.false in
    on_err c.from_residual.result _ (rw (← c.kernel.view_is) (retry-wants (k g u) c.kernel.invariant.0 c.args.number (w g (v g u)) (here g (v g u)) c.in-Poll.entries c.in-Poll.wait c.in-Poll.is some))

pub returns-clause-done : goal.returns-clause-done
returns-clause-done g c =
    let u = (goal.at.returns-clause-done g c).After-as_slice in
    let n = c.args.number in
    let new = c.end_call.new.kernel in
    let some = ready_is g u c.as_slice-2.result.now c.as_slice-2.ensures c.is_ready.result true c.is_ready.ensures c.if-not-is_ready.false in
    let settled : core_of new ≡ settle (core_of (k g u)) (without_call (core_of (k g u)) n) = c.end_call.ensures.settled ∙ ap (λ (z : Contents g.row.A.Denot). settle (core_of z) (without_call (core_of z) n)) (sym c.kernel.view_is) in
    let made = retry-answers (k g u) c.kernel.invariant.0 n (w g (v g u)) (here g (v g u)) c.in-Poll.entries c.in-Poll.wait c.in-Poll.is some new settled in
    subst (λ r. MakesAtKeys c.args.kernel.now (Resume n) r new) (sym (c.in_ok-reply.ensures ∙ ap masks_reply (looked_is g u c.as_slice-3.result.now c.as_slice-3.ensures)))
    (subst (λ (z : Contents g.row.A.Denot). MakesAtKeys z (Resume n) (masks_reply (looked g u)) new) c.kernel.view_is made)
