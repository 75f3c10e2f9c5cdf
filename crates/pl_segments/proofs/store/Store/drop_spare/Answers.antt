use Rattle.std.proofs.Common.{◌≡◌, ◌-◌, ◌∙◌, ap, length, arith}
use Rattle.std.specs.Option.{option_to_list}
use Rattle.std.proofs.lemmas.List.{length-append}
use Rattle.pl_segments.specs.Segments.{Segments}
use Rattle.pl_segments.proofs.Appending.{out-held, out-sound}
use Rattle.pl_segments.proofs.store.Store.drop_spare.Goals as goal

pub invariant_of-self : goal.invariant_of-self
invariant_of-self g c =
    out-sound c.self.inside.segments c.remove-gone.new.self c.args.self.now.held (ap (λ (d : Segments). d.held) c.self.view_is) c.self.inside.spare.items c.pop.new.self.items c.pop.result
    c.unwrap-key.result c.remove-gone.result c.self.invariant c.pop.ensures.items c.unwrap-key.ensures c.remove-gone.ensures.value c.remove-gone.ensures.updates

pub returns : goal.returns
returns g c =
    let held =
    out-held c.self.inside.segments c.remove-gone.new.self c.args.self.now.held (ap (λ (d : Segments). d.held) c.self.view_is) c.self.inside.spare.items c.pop.new.self.items c.pop.result
    c.unwrap-key.result c.remove-gone.result c.self.invariant c.pop.ensures.items c.unwrap-key.ensures c.remove-gone.ensures.value c.remove-gone.ensures.updates in
    let was : length c.self.inside.spare.items ≡ c.args.self.now.room = ap (λ (d : Segments). d.room) c.self.view_is in
    let all = ap length c.pop.ensures.items ∙ length-append c.pop.new.self.items (option_to_list c.pop.result) in
    let one = ap (λ o. length (option_to_list o)) c.unwrap-key.ensures in
    let left : length c.pop.new.self.items ≡ c.args.self.now.room - 1 = omega (arith, was, all, one) in
    (λ i. record { held = held i; room = left i })
