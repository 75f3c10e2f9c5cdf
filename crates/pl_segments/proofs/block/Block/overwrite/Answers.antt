use Rattle.std.proofs.Common.{◌≡◌, ◌≤◌, ◌+◌, ◌-◌, ◌++◌, ◌∙◌, ap, length, take, drop, arith}
use Rattle.std.specs.Vec.{with_items}
use Rattle.std.specs.List.{splice}
use Rattle.std.proofs.lemmas.List.{length-take, drop-drop, with_items_is}
use Rattle.pl_segments.proofs.Overwriting.{length-splice, splice-front}
use Rattle.pl_segments.proofs.block.Block.overwrite.Goals as goal

pub returns : goal.returns
returns g c =
    let bytes = c.args.bytes.now in
    let place = c.args.place in
    let end = place + length bytes in
    let all = c.deref_mut.result.now in
    let vec = c.self.inside.places in
    let len = c.self.inside.len in
    let seen : length (take len vec.items) ≡ length c.args.self.now = ap length c.self.view_is in
    let within : end ≤ len = omega (arith, c.requires, seen, length-take len vec.items) in
    let lent : length all ≡ length vec.items = ap length c.deref_mut.ensures.value in
    let long : len ≤ length all = omega (arith, c.self.invariant.0, c.self.invariant.1, lent) in
    let count : end - place ≡ length bytes = omega arith in
    let behind : drop (end - place) (drop place all) ≡ drop end all = ap (λ n. drop n (drop place all)) count ∙ drop-drop (length bytes) place all in
    ap (λ ws. take len (with_items vec ws).items) (λ i. take place all ++ (c.put.ensures i ++ behind i))
    ∙ ap (take len) (with_items_is vec (splice all place end bytes) (length-splice all bytes place (omega (arith, within, long)) ∙ c.deref_mut.ensures.len))
    ∙ splice-front all bytes len place within long
    ∙ ap (λ bs. splice bs place end bytes) (ap (take len) c.deref_mut.ensures.value ∙ c.self.view_is)
