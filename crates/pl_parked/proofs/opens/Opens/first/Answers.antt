use Rattle.std.proofs.Common.{◌≡◌, ℕ, true, false, List, Option, sym, ap, arith, subst}
use Rattle.std.specs.Prelude.{IfNone}
use Rattle.std.specs.List.{slice_get}
use Rattle.pl_parked.specs.declared.opens.WaitingOpen.{WaitingOpen}
use Rattle.pl_parked.specs.Waiting.{is_in, key_of}
use Rattle.pl_parked.proofs.Waiting.{never, differ, IfSome-is, least-first, stands-between}
use Rattle.pl_parked.proofs.opens.Opens.first.Given.{Over}
use Rattle.pl_parked.proofs.opens.Opens.first.Goals.{In_ok-open, else-open-pipe-via-then-open-pipe+else-open-reads, else-open-pipe-via-else-open-pipe}
use Rattle.pl_parked.proofs.opens.Opens.first.Goals as goal

pub returns-in_err-open-clause-none : goal.returns-in_err-open-clause-none
returns-in_err-open-clause-none g c =
    subst (λ (o : Option ℕ). IfNone o ((number : ℕ) → is_in c.args.self.now.set (key_of c.args.pipe c.args.reads number) ≡ false)) (sym c.from_residual.ensures)
    (λ number. (c.range.ensures.in_range tt).5 c.in_err-open.ensures.steps.0 (key_of c.args.pipe c.args.reads number) (least-first c.args.pipe c.args.reads number, tt))

-- where the group has one, the first that is found is of the group
module _ (g : Over) (c : In_ok-open g) where
  of-group : (number : ℕ) → is_in c.args.self.now.set (key_of c.args.pipe c.args.reads number) ≡ true → (c.in_ok-open.open.now.pipe ≡ c.args.pipe) × (c.in_ok-open.open.now.reads ≡ c.args.reads)
  of-group number here =
      let range = c.range.ensures.in_range tt in
      let first = ap (λ (keys : List WaitingOpen). slice_get keys 0) c.in_ok-open.ensures.steps in
      let low = IfSome-is _ _ c.in_ok-open.open.now first range.1 in
      let high = IfSome-is _ _ c.in_ok-open.open.now first (range.2 (key_of c.args.pipe c.args.reads number) (least-first c.args.pipe c.args.reads number, tt) here) in
      stands-between c.args.pipe c.args.reads number c.in_ok-open.open.now low.0.0 high

pub returns-else-open-pipe-clause-none : goal.returns-else-open-pipe-clause-none
returns-else-open-pipe-clause-none g c = λ number.
    never (is_in c.args.self.now.set (key_of c.args.pipe c.args.reads number)) (λ here.
    let same = of-group g (goal.at.returns-else-open-pipe-clause-none g c).In_ok-open number here in
    elim c.else-open-pipe.branch [
      | else-open-pipe-via-then-open-pipe+else-open-reads w ↦ differ c.in_ok-open.open.now.reads c.args.reads w.if-open-reads.false same.1
      | else-open-pipe-via-else-open-pipe w ↦ let p = same.0 in let f = w.if-open-pipe.false in omega arith
    ])
