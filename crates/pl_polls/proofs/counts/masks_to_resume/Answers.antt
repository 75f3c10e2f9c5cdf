use Rattle.std.proofs.Common.{◌≡◌, ℕ, ℤ, Bool, List, Some, IsSome, true, false, sym, ap, subst, ◌∙◌, nat_eq, length, Bor}
use Rattle.std.specs.Prelude.{option_map}
use Rattle.std.specs.List.{list_any}
use Rattle.std.specs.Set.{is_member}
use Rattle.pl_model.specs.declared.flags.PollMask.{PollMask}
use Rattle.pl_model.specs.Map.{get}
use Rattle.pl_model.specs.Poll.{is_ready}
use Rattle.pl_parked.specs.declared.call.ParkedCall.{ParkedCall}
use Rattle.pl_desc.specs.Rows.{at}
use Rattle.pl_state.specs.Contents.{Contents}
use Rattle.pl_state.specs.KernelView.{view_of}
use Rattle.pl_state.proofs.Known.{known, parts_of}
use Rattle.pl_state.proofs.waiting.Ending.{member_there}
use Rattle.pl_polls.specs.declared.masks.Descriptions.TheVariants.{Kept}
use Rattle.pl_polls.specs.Masks.{masks_of}
use Rattle.pl_polls.proofs.by_call.Counting.{none-answered, other-answered, poll-answered}
use Rattle.pl_polls.proofs.counts.masks_to_resume.Given.{Over}
use Rattle.pl_polls.proofs.counts.masks_to_resume.Goals.{In-Some}
use Rattle.pl_polls.proofs.counts.masks_to_resume.Goals as goal

pub returns-in_default : goal.returns-in_default
returns-in_default g c =
    rw (← c.kernel.view_is) (none-answered (view_of c.kernel.inside) c.kernel.invariant.0 c.args.number (sym c.get.ensures ∙ ap (option_map (λ (b : Bor (ParkedCall g.row.A.Denot)). b.now)) c.in_default.is))

-- the call of the number
module _ (g : Over) (c : In-Some g) where
  abbrev k : Contents g.row.A.Denot
  k = view_of c.kernel.inside

  abbrev w : ParkedCall g.row.A.Denot
  w = c.in-Some.call.now

  here : get nat_eq c.kernel.inside.parked.calls c.args.number ≡ Some w
  here = sym c.get.ensures ∙ ap (option_map (λ (b : Bor (ParkedCall g.row.A.Denot)). b.now)) c.in-Some.is

pub returns-in_default-call : goal.returns-in_default-call
returns-in_default-call g c =
    let v = (goal.at.returns-in_default-call g c).In-Some in
    rw (← c.kernel.view_is) (other-answered (k g v) c.kernel.invariant.0 c.args.number (w g v) (here g v) c.in_default-call.not-Poll)

pub is_ready-requires-clause-current : goal.is_ready-requires-clause-current
is_ready-requires-clause-current g c =
    let v = (goal.at.is_ready-requires-clause-current g c).In-Some in
    subst (λ (z : Contents g.row.A.Denot). (key : ℕ) → is_member nat_eq c.as_slice.result.now key ≡ true → IsSome (at z.opened key)) c.kernel.view_is
    (subst (λ ks. (key : ℕ) → is_member nat_eq ks key ≡ true → IsSome (at (k g v).opened key)) (sym c.as_slice.ensures) (member_there (parts_of (known c.kernel.inside c.kernel.invariant)) c.args.number (w g v) (here g v)))

-- what was asked of the masks, in the kernel's view
ready_is : {A : Type 0} (k now : Contents A) → k ≡ now → (keys : Bor (List ℕ)) (asked entries : List (ℤ × PollMask)) → asked ≡ entries → (ready b : Bool) → ready ≡ list_any is_ready (masks_of now (Kept keys) asked) → ready ≡ b → list_any is_ready (masks_of k (Kept keys) entries) ≡ b
ready_is k now view keys asked entries same ready b told is = (λ i. list_any is_ready (masks_of (view i) (Kept keys) (sym same i))) ∙ sym told ∙ is

pub returns-then-not-is_ready : goal.returns-then-not-is_ready
returns-then-not-is_ready g c =
    let v = (goal.at.returns-then-not-is_ready g c).In-Some in
    let none = ready_is (k g v) c.args.kernel.now c.kernel.view_is c.as_slice.result c.as_slice-2.result.now c.in-Poll.entries c.as_slice-2.ensures c.is_ready.result false c.is_ready.ensures c.if-not-is_ready.true in
    rw (← c.kernel.view_is) (sym (poll-answered (k g v) c.kernel.invariant.0 c.args.number (w g v) (here g v) c.in-Poll.entries c.in-Poll.wait c.in-Poll.is c.as_slice.result c.as_slice.ensures false none))

pub returns : goal.returns
returns g c =
    let v = (goal.at.returns g c).In-Some in
    let some = ready_is (k g v) c.args.kernel.now c.kernel.view_is c.as_slice.result c.as_slice-2.result.now c.in-Poll.entries c.as_slice-2.ensures c.is_ready.result true c.is_ready.ensures c.if-not-is_ready.false in
    rw (← c.kernel.view_is) (ap length c.as_slice-3.ensures ∙ sym (poll-answered (k g v) c.kernel.invariant.0 c.args.number (w g v) (here g v) c.in-Poll.entries c.in-Poll.wait c.in-Poll.is c.as_slice.result c.as_slice.ensures true some))
