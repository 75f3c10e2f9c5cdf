use Rattle.std.proofs.Common.{◌≡◌, ap, ◌∙◌, refl, Some, slice_set, subst, sym, IsSome}
use Rattle.pl_model.specs.Map.{change_at}
use Rattle.pl_model.specs.Modes.{reads, writes}
use Rattle.pl_desc.specs.declared.description.Description.{Description}
use Rattle.pl_desc.specs.Rows.{at}
use Rattle.pl_desc.specs.Descs.{Descs, live_count, ends_on}
use Rattle.pl_desc.specs.Slots.{opened_in}
use Rattle.pl_desc.proofs.SlotLemmas.{opened-change, slot_of}
use Rattle.pl_desc.proofs.Sound.{tidy}
use Rattle.pl_desc.proofs.Steps.{sound-said, said-live, said-ends, said-loose}
use Rattle.pl_desc.proofs.ViewLemmas.{view-said}
use Rattle.pl_desc.proofs.Known.{Known, known}
use Rattle.pl_desc.proofs.descs.Descs.set_flags.Given.{Over}
use Rattle.pl_desc.proofs.descs.Descs.set_flags.Goals.{After-self-1}
use Rattle.pl_desc.proofs.descs.Descs.set_flags.Goals as goal

-- a description says another flags
module _ (g : Over) (c : After-self-1 g) where
  abbrev m : Known
  m = known c.self.inside c.self.invariant

  abbrev x : Description
  x = c.index_mut-description.result.now

  abbrev now : Description
  now = record x { flags = c.args.flags }

  was : at m.slots c.args.key ≡ Some x
  was = c.index_mut-description.ensures.value

  live : live_count (opened_in (slice_set m.slots c.args.key (Some now))) ≡ live_count (opened_in m.slots)
  live = said-live m c.args.key x now was refl refl refl

pub invariant_of-self : goal.invariant_of-self
invariant_of-self g c = sound-said (m g c) c.args.key (x g c) (now g c) (was g c) refl refl refl

pub returns-clause-opened : goal.returns-clause-opened
returns-clause-opened g c =
    opened-change c.self.inside.descriptions.slots c.args.key (x g c) (now g c) (was g c) (λ o. record o { flags = c.args.flags }) refl
    ∙ ap (λ d. change_at c.args.key (λ o. record o { flags = c.args.flags }) (at d.opened)) c.self.view_is

pub returns-clause-live : goal.returns-clause-live
returns-clause-live g c = live g c ∙ ap (λ d. live_count d.opened) c.self.view_is

pub returns-clause-readers : goal.returns-clause-readers
returns-clause-readers g c = said-ends (m g c) c.args.key (x g c) (now g c) (was g c) refl refl refl reads ∙ ap (λ d. ends_on reads d.opened) c.self.view_is

pub returns-clause-writers : goal.returns-clause-writers
returns-clause-writers g c = said-ends (m g c) c.args.key (x g c) (now g c) (was g c) refl refl refl writes ∙ ap (λ d. ends_on writes d.opened) c.self.view_is

pub returns-clause-rest : goal.returns-clause-rest
returns-clause-rest g c =
    let after = slice_set c.self.inside.descriptions.slots c.args.key (Some (now g c)) in
    view-said c.self.inside after (live g c) (said-loose (m g c) c.args.key (x g c) (now g c) (was g c) refl refl refl)
    ∙ (let f : Descs → Descs = λ d. record d { opened = opened_in after } in ap f c.self.view_is)

pub returns-clause-tidy : goal.returns-clause-tidy
returns-clause-tidy g c = tidy _ _ _ (invariant_of-self g c) _

pub index_mut-description-requires : goal.index_mut-description-requires
index_mut-description-requires g c = slot_of c.self.inside.descriptions.slots c.args.key (subst (λ d. IsSome (at d.opened c.args.key)) (sym c.self.view_is) c.requires)
