use Rattle.pl_masks.proofs.Bits.{placed}
use Rattle.pl_masks.proofs.Levels.{none_above, some_found, none_found, if_none}
use Rattle.pl_masks.proofs.masks.Masks.next.Goals as goal

pub returns-in_err-mask-clause-none : goal.returns-in_err-mask-clause-none
returns-in_err-mask-clause-none g c =
    let m = c.args.self.now in
    if_none _ _ (none_above m.numbers.items m.masks.items m.kept.middle c.args.from (rw c.deref.ensures.value at c.in_default.ensures.none) c.in_err-mask.ensures.none)

pub returns-clause-some : goal.returns-clause-some
returns-clause-some g c =
    let m = c.args.self.now in
    some_found m.numbers.items m.masks.items m.kept.middle c.args.from (rw c.deref.ensures.value at c.in_default.ensures.none) _ c.in_ok-mask.ensures.some _ (rw c.deref-2.ensures.value at c.in_mask-2.ensures.some) c.in_mask-2.ensures.mask

pub returns-clause-none : goal.returns-clause-none
returns-clause-none g c =
    let m = c.args.self.now in
    none_found m.numbers.items m.masks.items m.kept.middle c.args.from (rw c.deref.ensures.value at c.in_default.ensures.none) _ c.in_ok-mask.ensures.some _ (rw c.deref-2.ensures.value at c.in_mask-2.ensures.empty)

pub returns-in-Some-clause-place : goal.returns-in-Some-clause-place
returns-in-Some-clause-place g c = let first = rw c.deref.ensures.value at c.in-Some.ensures.some in placed c.args.self.now.numbers.items _ first.here
