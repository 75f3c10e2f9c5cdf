use Rattle.std.proofs.Common.{◌∙◌, sym, ap, arith, true}
use Rattle.std.specs.Prelude.{not}
use Rattle.std.proofs.lemmas.List.{with_items_is}
use Rattle.pl_masks.proofs.Levels.{put-two, put-three}
use Rattle.pl_masks.proofs.masks.Masks.insert.Goals as goal

pub invariant_of-self : goal.invariant_of-self
invariant_of-self g c =
    let m = c.args.self.now in
    let put = rw c.deref_mut.ensures.value at c.set.ensures.put in
    let put-2 = rw c.deref_mut-then-set.ensures.value at c.set-then-set.ensures.put in
    let numbers = with_items_is m.numbers c.set.new.masks (omega (arith, put.len)) in
    let masks = with_items_is m.masks c.set-then-set.new.masks (omega (arith, put-2.len)) in
    record {
      kept = rw (numbers, masks) (put-three m.numbers.items m.masks.items m.top m.kept c.args.number true _ put _ put-2 (sym (ap not c.set.ensures.has_one)) _ c.set-then-set-2.ensures.put (sym (ap not c.set-then-set.ensures.has_one)));
    }

pub invariant_of-self-else-set-2 : goal.invariant_of-self-else-set-2
invariant_of-self-else-set-2 g c =
    let m = c.args.self.now in
    let put = rw c.deref_mut.ensures.value at c.set.ensures.put in
    let put-2 = rw c.deref_mut-then-set.ensures.value at c.set-then-set.ensures.put in
    let numbers = with_items_is m.numbers c.set.new.masks (omega (arith, put.len)) in
    let masks = with_items_is m.masks c.set-then-set.new.masks (omega (arith, put-2.len)) in
    record {
      kept = rw (numbers, masks) (put-two m.numbers.items m.masks.items m.top m.kept c.args.number true _ put _ put-2 (sym (ap not c.set.ensures.has_one)) (c.set-then-set.ensures.has_one ∙ sym c.if-set-2.false ∙ rw c.deref_mut-then-set.ensures.value at c.set-then-set.ensures.had_none));
    }
