use Rattle.std.proofs.Common.{◌∙◌, sym, ap, arith, false}
use Rattle.std.specs.Prelude.{not}
use Rattle.std.proofs.lemmas.List.{with_items_is}
use Rattle.pl_masks.proofs.Levels.{put-three}
use Rattle.pl_masks.proofs.masks.Masks.remove.Goals as goal

pub invariant_of-self : goal.invariant_of-self
invariant_of-self g c =
    let m = c.args.self.now in
    let put = rw c.deref_mut.ensures.value at c.clear.ensures.put in
    let put-2 = rw c.deref_mut-then-clear.ensures.value at c.clear-then-clear.ensures.put in
    let numbers = with_items_is m.numbers c.clear.new.masks (omega (arith, put.len)) in
    let masks = with_items_is m.masks c.clear-then-clear.new.masks (omega (arith, put-2.len)) in
    record {
      kept = rw (numbers, masks) (put-three m.numbers.items m.masks.items m.top m.kept c.args.number false _ put _ put-2 (ap not (sym c.if-clear.true ∙ c.clear.ensures.has_none)) _ c.clear-then-clear-2.ensures.put (ap not (sym c.if-clear-2.true ∙ c.clear-then-clear.ensures.has_none)));
    }
