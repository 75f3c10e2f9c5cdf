use Rattle.std.proofs.Common.{◌≡◌, None, Some, IsSome, Bor, sym, ◌∙◌, ap, subst, nat_eq}
use Rattle.std.specs.Prelude.{option_map}
use Rattle.std.specs.Set.{is_member}
use Rattle.pl_model.specs.Map.{get}
use Rattle.pl_parked.specs.declared.call.ParkedCall.{ParkedCall}
use Rattle.pl_desc.specs.Rows.{at}
use Rattle.pl_state.specs.Contents.{Contents}
use Rattle.pl_state.proofs.Known.{known, parts_of}
use Rattle.pl_state.proofs.waiting.Ending.{member_there}
use Rattle.pl_kernel.proofs.index.Touching.{waits-nowhere, waits-where}
use Rattle.pl_kernel.proofs.touch.touch_call.Given.{Over}
use Rattle.pl_kernel.proofs.touch.touch_call.Goals.{After-get, In-Some}
use Rattle.pl_kernel.proofs.touch.touch_call.Goals as goal

pub returns-in_default-clause-touched : goal.returns-in_default-clause-touched
returns-in_default-clause-touched g c = λ node waits.
    let none : get nat_eq c.state.inside.parked.calls c.args.number ≡ None = sym c.get.ensures ∙ ap (option_map (λ (b : Bor (ParkedCall g.row.A.Denot)). b.now)) c.in_default.is in
    absurd (waits-nowhere c.args.state.now node c.args.number (ap (λ (z : Contents g.row.A.Denot). get nat_eq z.calls.calls c.args.number) (sym c.state.view_is) ∙ none) waits)

-- the call of the number
module _ (g : Over) (c : In-Some g) where
  abbrev call : ParkedCall g.row.A.Denot
  call = c.in-Some.call.now

  here : get nat_eq c.state.inside.parked.calls c.args.number ≡ Some call
  here = sym c.get.ensures ∙ ap (option_map (λ (b : Bor (ParkedCall g.row.A.Denot)). b.now)) c.in-Some.is

pub touch_kept-requires : goal.touch_kept-requires
touch_kept-requires g c = λ key member.
    let w = (goal.at.touch_kept-requires g c).In-Some in
    subst (λ (z : Contents g.row.A.Denot). IsSome (at z.opened key)) c.state.view_is
    (member_there (parts_of (known c.state.inside c.state.invariant)) c.args.number (call g w) (here g w) key (ap (λ ks. is_member nat_eq ks key) (sym c.as_slice.ensures) ∙ member))

pub returns-clause-touched : goal.returns-clause-touched
returns-clause-touched g c = λ node waits.
    let w = (goal.at.returns-clause-touched g c).In-Some in
    c.touch_kept.ensures.touched node
    (waits-where c.args.state.now node c.args.number (record c.in-Some.call.now { kept = c.as_slice.result.now }) (ap (λ (z : Contents g.row.A.Denot). get nat_eq z.calls.calls c.args.number) (sym c.state.view_is) ∙ here g w ∙ ap (λ ks. Some (record c.in-Some.call.now { kept = ks })) (sym c.as_slice.ensures)) waits)
