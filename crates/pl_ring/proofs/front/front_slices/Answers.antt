use Rattle.std.proofs.Common.{◌≡◌, ◌∙◌, ◌++◌, ap, sym}
use Rattle.pl_segments.specs.Slots.{front_of}
use Rattle.pl_segments.proofs.Fronting.{front-append}
use Rattle.pl_ring.proofs.front.front_slices.Goals as goal

pub returns : goal.returns
returns g c =
    let n = c.args.count in
    let front = c.as_slices.result.0.now in
    let back = c.as_slices.result.1.now in
    let none = c.new-list.ensures.items in
    let first : c.add_slices.new.list.items ≡ front_of n front = c.in_ok-rest.ensures.items ∙ ap (λ zs. zs ++ front_of n front) none in
    c.in_ok-add_slices.ensures.items
    ∙ (λ i. first i ++ front_of (c.in_ok-rest.ensures.left i) back)
    ∙ sym (front-append n front back)
    ∙ ap (front_of n) c.as_slices.ensures
