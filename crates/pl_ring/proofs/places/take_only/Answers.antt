use Rattle.std.proofs.Common.{◌≡◌, ◌∙◌, ◌<◌, ◌-◌, ◌++◌, ◌∷◌, [], ap, sym, take, length, arith}
use Rattle.pl_segments.proofs.LastSlot.{last-split}
use Rattle.pl_ring.proofs.places.take_only.Goals as goal

pub returns-clause-items : goal.returns-clause-items
returns-clause-items g c =
    let xs = c.args.slots.now.items in
    let x = c.unwrap.result in
    let some : 0 < length xs = omega (arith, c.requires) in
    let none : length xs - 1 ≡ 0 = omega (arith, c.requires) in
    last-split xs x some (sym c.pop_back.ensures.value ∙ c.unwrap.ensures)
    ∙ ap (λ k. take k xs ++ x ∷ []) none
    ∙ ap (λ k. x ∷ take k xs) (sym none)
    ∙ ap (λ zs. x ∷ zs) (sym (λ i. (c.pop_back.ensures.items i).items))
