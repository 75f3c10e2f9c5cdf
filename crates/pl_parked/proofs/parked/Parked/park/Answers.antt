use Rattle.std.proofs.Common.{◌≡◌, ℕ, ◌<◌, ◌+◌, ◌^◌, ◌==◌, ◌++◌, [], ◌∷◌, false, Fits, w64, ap, sym, ◌∙◌, arith}
use Rattle.std.proofs.lemmas.Bool.Decides.{nat_tests}
use Rattle.pl_model.specs.Numbers.{last_call}
use Rattle.pl_parked.specs.Calls.{Calls}
use Rattle.pl_parked.specs.CallsView.{IsSound}
use Rattle.pl_numbered.specs.Numbered.{values}
use Rattle.pl_parked.specs.Owners.{owns}
use Rattle.pl_parked.proofs.Keeping.{keeps-own, keeps-push, keeps-undone}
use Rattle.pl_parked.proofs.Owned.{owned-under}
use Rattle.pl_numbered.proofs.Rising.{all_under}
use Rattle.pl_parked.proofs.Waiting.{OnOk_by, OnErr_by}
use Rattle.pl_parked.proofs.parked.Parked.park.Given.{Over}
use Rattle.pl_parked.proofs.parked.Parked.park.Goals.{After-reserve, then-is_err-via-then-is_err, then-is_err-via-else-is_err+then-is_err-2}
use Rattle.pl_parked.proofs.parked.Parked.park.Goals as goal

pub add-requires : goal.add-requires
add-requires g c = owned-under c.self.inside.next (values c.self.inside.calls) c.self.invariant.rise (owns c.self.inside.owners) c.self.invariant.owned

-- the calls stay as they are
module _ (g : Over) (c : After-reserve g) where
  roomy : IsSound (values c.reserve.new.self) (owns c.self.inside.owners) c.self.inside.opens.set c.self.inside.next
  roomy = rw c.reserve.ensures.same c.self.invariant

pub invariant_of-self-then-is_err-2 : goal.invariant_of-self-then-is_err-2
invariant_of-self-then-is_err-2 g c =
    keeps-own (values c.reserve.new.self) (owns c.self.inside.owners) c.self.inside.opens.set c.self.inside.next (roomy g (goal.at.invariant_of-self-then-is_err-2 g c).After-reserve)
    (owns c.add.new.self) (OnErr_by _ c.add.result c.if-is_err-2.ensures.value c.add.ensures.err)

pub invariant_of-self-then-is_err-3 : goal.invariant_of-self-then-is_err-3
invariant_of-self-then-is_err-3 g c =
    keeps-undone (values c.reserve.new.self) (owns c.self.inside.owners) c.self.inside.opens.set c.self.inside.next (roomy g (goal.at.invariant_of-self-then-is_err-3 g c).After-reserve)
    c.args.call (owns c.add.new.self) (OnOk_by _ c.add.result c.if-is_err-2.ensures.value c.add.ensures.ok)
    (owns c.remove.new.self) c.list.new.self.set c.remove.ensures (OnErr_by _ c.list.result c.if-is_err-3.ensures.value c.list.ensures.err)

pub returns-then-is_err-clause-err : goal.returns-then-is_err-clause-err
returns-then-is_err-clause-err g c = elim c.then-is_err.branch [
  | then-is_err-via-then-is_err w ↦ w.self-is ∙ ap (λ calls. record { calls = calls; next = c.self.inside.next }) c.reserve.ensures.same ∙ c.self.view_is
  | then-is_err-via-else-is_err+then-is_err-2 w ↦ w.self-is ∙ ap (λ calls. record { calls = calls; next = c.self.inside.next }) c.reserve.ensures.same ∙ c.self.view_is
]

pub push_reserved-requires : goal.push_reserved-requires
push_reserved-requires g c = record {
  room = OnOk_by _ c.reserve.result c.if-is_err.ensures.value c.reserve.ensures.room;
  above = all_under c.self.inside.next (values c.reserve.new.self) (roomy g (goal.at.push_reserved-requires g c).After-reserve).rise;
}

-- a number that isn't the last one fits
room : (n : ℕ) → n < 2 ^ 64 → false ≡ (n == last_call) → Fits w64 (n + 1)
room n fits other = grind (arith, nat_tests)

pub overflow_add-self : goal.overflow_add-self
overflow_add-self g c = room c.self.inside.next (omega (arith, c.self.ranges)) (c.if-spent.ensures ∙ ap (λ (v : Calls _). v.next == last_call) (sym c.self.view_is))

pub invariant_of-self-2 : goal.invariant_of-self-2
invariant_of-self-2 g c =
    rw c.push_reserved.ensures
    (keeps-push (values c.reserve.new.self) (owns c.self.inside.owners) c.self.inside.opens.set c.self.inside.next (roomy g (goal.at.invariant_of-self-2 g c).After-reserve)
    c.args.call (owns c.add.new.self) (OnOk_by _ c.add.result c.if-is_err-2.ensures.value c.add.ensures.ok)
    c.list.new.self.set (OnOk_by _ c.list.result c.if-is_err-3.ensures.value c.list.ensures.ok))

pub returns-clause-ok : goal.returns-clause-ok
returns-clause-ok g c =
    ap (λ calls. record { calls = calls; next = c.self.inside.next + 1 }) (c.push_reserved.ensures ∙ ap (λ calls. calls ++ (c.self.inside.next, c.args.call) ∷ []) c.reserve.ensures.same)
    ∙ ap (λ (v : Calls _). record { calls = v.calls ++ (v.next, c.args.call) ∷ []; next = v.next + 1 }) c.self.view_is
