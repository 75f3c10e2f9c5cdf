use Rattle.pl_masks.proofs.Levels.{none_above, none_over, some_found, none_found, if_none}
use Rattle.pl_masks.proofs.masks.Masks.next_mask.Goals as goal

pub returns-in_err-above-clause-none : goal.returns-in_err-above-clause-none
returns-in_err-above-clause-none g c =
    let m = c.args.self.now in
    if_none _ _ (none_above m.masks.items m.top m.kept.last c.args.from (rw c.deref.ensures.value at c.in_default.ensures.none) (none_over m.masks.items m.top _ m.kept.few m.kept.last c.in_err-above.ensures.none))

pub returns-clause-some : goal.returns-clause-some
returns-clause-some g c =
    let m = c.args.self.now in
    some_found m.masks.items m.top m.kept.last c.args.from (rw c.deref.ensures.value at c.in_default.ensures.none) _ c.in_ok-above.ensures.some _ (rw c.deref-2.ensures.value at c.in_mask-3.ensures.some) c.in_mask-3.ensures.mask

pub returns-clause-none : goal.returns-clause-none
returns-clause-none g c =
    let m = c.args.self.now in
    none_found m.masks.items m.top m.kept.last c.args.from (rw c.deref.ensures.value at c.in_default.ensures.none) _ c.in_ok-above.ensures.some _ (rw c.deref-2.ensures.value at c.in_mask-3.ensures.empty)
