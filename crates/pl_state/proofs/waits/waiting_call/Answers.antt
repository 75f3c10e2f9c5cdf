use Rattle.std.proofs.Common.{◌≡◌, ℕ, true, false, List, [], ◌∷◌, Some, None, refl, sym, ap, subst, ◌∙◌, nat_eq, IfSome, Bor, slice_index_or}
use Rattle.std.specs.Prelude.{option_map}
use Rattle.pl_model.specs.Map.{get}
use Rattle.pl_parked.specs.declared.call.ParkedCall.{ParkedCall}
use Rattle.pl_state.specs.declared.waits.WaitingMove.{WaitingMove}
use Rattle.pl_state.specs.Contents.{Contents}
use Rattle.pl_state.specs.Sound.{IsWaiting, IsPoll, AreBoth, Keeps}
use Rattle.pl_state.specs.Waits.{AsksMove}
use Rattle.pl_state.proofs.waits.waiting_call.Given.{Over}
use Rattle.pl_state.proofs.waits.waiting_call.Goals.{In_ok-call}
use Rattle.pl_state.proofs.waits.waiting_call.Goals as goal

-- the call of the number
module _ (g : Over) (c : In_ok-call g) where
  abbrev w : ParkedCall g.row.A.Denot
  w = c.in_ok-call.call.now

  here : get nat_eq c.kernel.inside.parked.calls c.args.number ≡ Some w
  here = sym c.get.ensures ∙ ap (option_map (λ (b : Bor (ParkedCall g.row.A.Denot)). b.now)) c.in_ok-call.was

  here_now : get nat_eq c.args.kernel.now.calls.calls c.args.number ≡ Some w
  here_now = subst (λ (z : Contents g.row.A.Denot). get nat_eq z.calls.calls c.args.number ≡ Some w) c.kernel.view_is here

  waiting : IsWaiting g.row.A.Denot w
  waiting = subst (λ o. IfSome o (IsWaiting g.row.A.Denot)) here (c.kernel.invariant.0.waiting c.args.number)

-- the two keys of a list, by their places
both_of : (kept keys : List ℕ) → kept ≡ keys → (two : (a : ℕ) × (b : ℕ) × AreBoth a b keys) → keys ≡ slice_index_or kept 0 0 ∷ slice_index_or kept 1 0 ∷ []
both_of kept keys same two =
    let all : kept ≡ two.0 ∷ two.1 ∷ [] = same ∙ two.2 in
    two.2 ∙ (λ i. slice_index_or (sym all i) 0 0 ∷ slice_index_or (sym all i) 1 0 ∷ [])

pub returns-in-Splice-clause-some : goal.returns-in-Splice-clause-some
returns-in-Splice-clause-some g c =
    let v = (goal.at.returns-in-Splice-clause-some g c).In_ok-call in
    let kept = c.as_slice-kept.result.now in
    let m : WaitingMove = record { from = slice_index_or kept 0 0; from_offset = c.in-Splice.from_offset; to = slice_index_or kept 1 0; to_offset = c.in-Splice.to_offset; len = c.in-Splice.len; is_tee = false } in
    record {
      call = w g v;
      here = here_now g v;
      asked = subst (λ z. AsksMove z m) (sym c.in-Splice.is) (refl, refl, refl, refl);
      kept = both_of kept (w g v).kept c.as_slice-kept.ensures (subst (λ z. Keeps z (w g v).kept) c.in-Splice.is (waiting g v).keeps);
    }

pub returns-in-Tee-clause-some : goal.returns-in-Tee-clause-some
returns-in-Tee-clause-some g c =
    let v = (goal.at.returns-in-Tee-clause-some g c).In_ok-call in
    let kept = c.as_slice-kept.result.now in
    let m : WaitingMove = record { from = slice_index_or kept 0 0; from_offset = None; to = slice_index_or kept 1 0; to_offset = None; len = c.in-Tee.len; is_tee = true } in
    record {
      call = w g v;
      here = here_now g v;
      asked = subst (λ z. AsksMove z m) (sym c.in-Tee.is) (refl, refl, refl, refl);
      kept = both_of kept (w g v).kept c.as_slice-kept.ensures (subst (λ z. Keeps z (w g v).kept) c.in-Tee.is (waiting g v).keeps);
    }

pub returns-in-Poll-clause-some : goal.returns-in-Poll-clause-some
returns-in-Poll-clause-some g c =
    let v = (goal.at.returns-in-Poll-clause-some g c).In_ok-call in
    record { call = w g v; here = here_now g v; asked = subst (λ z. IsPoll z) (sym c.in-Poll.is) tt }
