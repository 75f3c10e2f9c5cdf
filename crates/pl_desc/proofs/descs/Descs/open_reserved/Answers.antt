use Rattle.std.proofs.Common.{◌≡◌, ℕ, ◌+◌, ◌-◌, ◌<◌, ap, ◌∙◌, sym, subst, refl, arith, Some, nat_eq}
use Rattle.std.specs.Prelude.{option_map}
use Rattle.slab.specs.Slab.{Slab}
use Rattle.pl_model.specs.Map.{set_at}
use Rattle.pl_model.specs.Modes.{reads, writes}
use Rattle.pl_desc.specs.declared.description.Description.{Description}
use Rattle.pl_desc.specs.Rows.{at, naming, count_at, change_count, one_more}
use Rattle.pl_desc.specs.Descs.{live_count, fresh}
use Rattle.pl_desc.specs.Ends.{ends_at}
use Rattle.pl_desc.specs.Slots.{opened_in, opened_of, holders_of}
use Rattle.pl_desc.proofs.SlotLemmas.{at-opened, opened-updates, loose-change}
use Rattle.pl_desc.proofs.Sound.{ends-few, sound-opened, live-more, tidy}
use Rattle.pl_desc.proofs.Known.{Known, known}
use Rattle.pl_desc.proofs.descs.Descs.open_reserved.Given.{Over}
use Rattle.pl_desc.proofs.descs.Descs.open_reserved.Goals.{After-add}
use Rattle.pl_desc.proofs.descs.Descs.open_reserved.Goals as goal

-- a description is opened, under a vacant key
module _ (g : Over) (c : After-add g) where
  abbrev m : Known
  m = known c.self.inside c.self.invariant

  abbrev new : Slab Description
  new = c.insert_reserved-key.new.self

  abbrev key : ℕ
  key = c.insert_reserved-key.result

  abbrev added : Description
  added = record { node = c.args.node; mode = c.args.mode; flags = c.args.flags; offset = 0; holders = 1 }

  same : opened_in m.slots ≡ c.args.self.now.opened
  same = ap (λ d. d.opened) c.self.view_is

pub add-requires-clause-readers : goal.add-requires-clause-readers
add-requires-clause-readers g c =
    let is = ap (λ e. e.readers) (c.self.invariant.counted c.args.node) in
    omega (arith, is, ends-few reads (opened_in c.self.inside.descriptions.slots) c.args.node, c.self.invariant.most, c.self.invariant.limited.descriptions)

pub add-requires-clause-writers : goal.add-requires-clause-writers
add-requires-clause-writers g c =
    let is = ap (λ e. e.writers) (c.self.invariant.counted c.args.node) in
    omega (arith, is, ends-few writes (opened_in c.self.inside.descriptions.slots) c.args.node, c.self.invariant.most, c.self.invariant.limited.descriptions)

pub invariant_of-self : goal.invariant_of-self
invariant_of-self g c =
    let k = c.self.inside in
    let few : live_count (opened_in k.descriptions.slots) < k.limits.descriptions = subst (λ d. live_count d.opened < d.limits.descriptions) (sym c.self.view_is) c.requires.few in
    sound-opened k.tables.tables k.descriptions (new g c) (ends_at k.counts) (ends_at c.add.new.self) (key g c) (added g c) c.self.invariant c.insert_reserved-key.ensures.updates c.insert_reserved-key.ensures.was_vacant refl few c.add.ensures.counts

pub returns-clause-vacant : goal.returns-clause-vacant
returns-clause-vacant g c = ap (λ os. at os (key g c)) (sym (same g c)) ∙ at-opened c.self.inside.descriptions.slots (key g c) ∙ ap (option_map opened_of) c.insert_reserved-key.ensures.was_vacant

pub returns-clause-opened : goal.returns-clause-opened
returns-clause-opened g c =
    opened-updates c.self.inside.descriptions (new g c) (key g c) (Some (added g c)) c.insert_reserved-key.ensures.updates
    ∙ ap (λ os. set_at nat_eq (at os) (key g c) (Some (fresh c.args.node c.args.mode c.args.flags))) (same g c)

pub returns-clause-loose : goal.returns-clause-loose
returns-clause-loose g c =
    let m = m g c in
    let key = key g c in
    let slots = (new g c).slots in
    let updates = c.insert_reserved-key.ensures.updates in
    let bare : holders_of (at m.slots key) ≡ 0 = ap holders_of c.insert_reserved-key.ensures.was_vacant in
    let named = m.sound.held key in
    let one : holders_of (at slots key) ≡ 1 = ap holders_of updates.changed in
    let here : holders_of (at slots key) - naming m.tables key ≡ (holders_of (at m.slots key) - naming m.tables key) + 1 = omega (arith, bare, named, one) in
    loose-change m.tables m.tables m.slots slots key one_more here (λ q n. ap (λ o. holders_of o - naming m.tables q) (updates.others q n))
    ∙ ap (λ d. change_count key one_more (count_at d.loose)) c.self.view_is

pub returns-clause-live : goal.returns-clause-live
returns-clause-live g c =
    let k = c.self.inside in
    live-more k.tables.tables k.descriptions (new g c) (ends_at k.counts) (ends_at c.add.new.self) (key g c) (added g c) c.self.invariant c.insert_reserved-key.ensures.updates c.insert_reserved-key.ensures.was_vacant refl
    ∙ ap (λ os. live_count os + 1) (same g c)

pub returns-clause-tidy : goal.returns-clause-tidy
returns-clause-tidy g c = tidy _ _ _ (invariant_of-self g c) _
