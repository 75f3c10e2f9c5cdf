use Rattle.std.proofs.Common.{◌≡◌, ◌-◌, ap, ◌∙◌, sym, subst, arith}
use Rattle.std.specs.Prelude.{is_ok}
use Rattle.std.proofs.lemmas.Bool.{false≢true}
use Rattle.slab.specs.Slab.{slab_len, HasRoomFor}
use Rattle.pl_desc.specs.Ends.{ends_at}
use Rattle.pl_desc.specs.Slots.{IsSound}
use Rattle.pl_desc.proofs.Sound.{sound-ends}
use Rattle.pl_desc.proofs.descs.Descs.reserve.Goals as goal

pub invariant_of-self : goal.invariant_of-self
invariant_of-self g c =
    let k = c.self.inside in
    sound-ends k.tables.tables k.descriptions.slots (ends_at k.counts) c.self.invariant (ends_at c.reserve.new.self) c.reserve.ensures.kept

pub invariant_of-self-in_err-reserve-2 : goal.invariant_of-self-in_err-reserve-2
invariant_of-self-in_err-reserve-2 g c =
    let k = c.self.inside in
    subst (λ slots. IsSound k.limits k.tables.tables slots (ends_at c.reserve.new.self)) (sym (ap (λ s. s.slots) c.reserve-2.ensures.rest_kept)) (sound-ends k.tables.tables k.descriptions.slots (ends_at k.counts) c.self.invariant (ends_at c.reserve.new.self) c.reserve.ensures.kept)

pub returns-in_err-reserve-2-clause-succeeds : goal.returns-in_err-reserve-2-clause-succeeds
returns-in_err-reserve-2-clause-succeeds g c = λ room.
    let k = c.self.inside in
    let enough = room.descriptions in
    let is : k.descriptions.capacity - slab_len k.descriptions ≡ c.args.self.now.room.descriptions = ap (λ d. d.room.descriptions) c.self.view_is in
    let fits : HasRoomFor k.descriptions c.args.count = omega (arith, is, enough, c.capacity-capacity.ensures) in
    let ok = c.reserve-2.ensures.succeeds fits in
    absurd (false≢true (ap is_ok (sym c.in_err-reserve-2.was) ∙ ok))

pub invariant_of-self-2 : goal.invariant_of-self-2
invariant_of-self-2 g c =
    let k = c.self.inside in
    subst (λ slots. IsSound k.limits k.tables.tables slots (ends_at c.reserve.new.self)) (sym (ap (λ s. s.slots) c.reserve-2.ensures.rest_kept)) (sound-ends k.tables.tables k.descriptions.slots (ends_at k.counts) c.self.invariant (ends_at c.reserve.new.self) c.reserve.ensures.kept)
