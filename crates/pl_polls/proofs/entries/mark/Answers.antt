use Rattle.std.proofs.Common.{◌<◌, sym, ◌∙◌, length, arith}
use Rattle.pl_polls.proofs.Marking.{marked_all}
use Rattle.pl_polls.proofs.entries.mark.Goals as goal

pub returns : goal.returns
returns c =
    let past : c.loop-place.place < length c.loop-place.entries → c.loop-place.place < length c.args.masks.now → ⊥ =
    λ a b. (let same = c.loop-place.auto.entries in let is = c.min-count.ensures in let over = c.loop-place-test.false in omega arith) in
    sym (marked_all c.loop-place.entries c.args.masks.now c.loop-place.place past) ∙ c.loop-place.invariant
