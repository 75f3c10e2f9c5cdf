use Rattle.std.proofs.Common.{◌∙◌, ◌++◌, ◌∷◌, [], ap, sym}
use Rattle.pl_segments.proofs.LastSlot.{last-split}
use Rattle.pl_ring.proofs.places.take_last.Goals as goal

pub returns-clause-items : goal.returns-clause-items
returns-clause-items g c =
    last-split c.args.slots.now.items c.unwrap.result c.requires (sym c.pop_back.ensures.value ∙ c.unwrap.ensures)
    ∙ ap (λ zs. zs ++ c.unwrap.result ∷ []) (sym (λ i. (c.pop_back.ensures.items i).items))
