use Rattle.std.proofs.Common.{◌<◌, ◌+◌, ◌^◌, ap, ◌∙◌, sym, subst, refl, arith, Some, slice_set, IsSome}
use Rattle.pl_desc.specs.Rows.{count_at, change_count, one_more, at}
use Rattle.pl_desc.specs.Descs.{Descs}
use Rattle.pl_desc.specs.Slots.{loose_from}
use Rattle.pl_desc.proofs.SlotLemmas.{opened-lent, slot_of}
use Rattle.pl_desc.proofs.Sound.{tidy}
use Rattle.pl_desc.proofs.Steps.{fits-lent, sound-more, loose-more}
use Rattle.pl_desc.proofs.ViewLemmas.{view-held}
use Rattle.pl_desc.proofs.Known.{known}
use Rattle.pl_desc.proofs.descs.Descs.hold.Goals as goal

pub overflow_add-held : goal.overflow_add-held
overflow_add-held g c =
    let k = c.self.inside in
    let few = subst (λ d. count_at d.loose c.args.key < 2 ^ 100) (sym c.self.view_is) c.requires.few in
    let fits = fits-lent (known k c.self.invariant) c.args.key c.index_mut-held.result.now c.index_mut-held.result.now c.index_mut-held.ensures.value few in
    omega (arith, fits)

pub invariant_of-self : goal.invariant_of-self
invariant_of-self g c =
    let k = c.self.inside in
    let x = c.index_mut-held.result.now in
    sound-more (known k c.self.invariant) c.args.key x (record x { holders = x.holders + 1 }) c.index_mut-held.ensures.value refl refl

pub returns-clause-loose : goal.returns-clause-loose
returns-clause-loose g c =
    let k = c.self.inside in
    let x = c.index_mut-held.result.now in
    loose-more (known k c.self.invariant) c.args.key x (record x { holders = x.holders + 1 }) c.index_mut-held.ensures.value refl
    ∙ ap (λ d. change_count c.args.key one_more (count_at d.loose)) c.self.view_is

pub returns-clause-rest : goal.returns-clause-rest
returns-clause-rest g c =
    let k = c.self.inside in
    let x = c.index_mut-held.result.now in
    let after = slice_set k.descriptions.slots c.args.key (Some (record x { holders = x.holders + 1 })) in
    view-held k after (opened-lent k.descriptions.slots c.args.key x (record x { holders = x.holders + 1 }) c.index_mut-held.ensures.value refl)
    ∙ (let f : Descs → Descs = λ d. record d { loose = loose_from 0 k.tables.tables after } in ap f c.self.view_is)

pub returns-clause-tidy : goal.returns-clause-tidy
returns-clause-tidy g c = tidy _ _ _ (invariant_of-self g c) _

pub index_mut-held-requires : goal.index_mut-held-requires
index_mut-held-requires g c = slot_of c.self.inside.descriptions.slots c.args.key (subst (λ d. IsSome (at d.opened c.args.key)) (sym c.self.view_is) c.requires.here)
