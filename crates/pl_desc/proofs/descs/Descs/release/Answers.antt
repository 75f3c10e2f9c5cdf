use Rattle.std.proofs.Common.{◌≡◌, ℕ, List, Option, ◌+◌, ◌-◌, ◌<◌, ap, ◌∙◌, sym, subst, refl, arith, Some, None, true, false, nat_eq, slice_set}
use Rattle.std.specs.Prelude.{option_map, if◌then◌else◌}
use Rattle.std.proofs.lemmas.Bool.{eq-eqb, ne_eqb}
use Rattle.std.proofs.lemmas.Option.{same_Some}
use Rattle.pl_model.specs.Map.{set_at}
use Rattle.pl_model.specs.Modes.{reads, writes}
use Rattle.pl_desc.specs.declared.description.Description.{Description}
use Rattle.pl_desc.specs.declared.released.Released.TheVariants.{Gone}
use Rattle.pl_desc.specs.Rows.{at, naming, count_at, change_count, one_less, rows_at}
use Rattle.pl_desc.specs.Descs.{Descs, live_count, last_hold, released}
use Rattle.pl_desc.specs.Ends.{ends_at}
use Rattle.pl_desc.specs.Slots.{opened_in, opened_of, holders_of, IsSound}
use Rattle.pl_desc.specs.DescsView.{view_of}
use Rattle.pl_desc.proofs.SlotLemmas.{at-opened, opened-updates, opened-lent, loose-change}
use Rattle.pl_desc.proofs.Sound.{counted_there, has_counts, sound-gone, live-less, tidy}
use Rattle.pl_desc.proofs.Steps.{loose-some, last-is, one-left, sound-less, loose-less}
use Rattle.pl_desc.proofs.ViewLemmas.{len-same}
use Rattle.pl_desc.proofs.Known.{Known, known}
use Rattle.pl_desc.proofs.descs.Descs.release.Given.{Over}
use Rattle.pl_desc.proofs.descs.Descs.release.Goals.{After-self-1, After-remove-arg-1, After-at-left}
use Rattle.pl_desc.proofs.descs.Descs.release.Goals as goal

-- there is a loose hold to give up
held : (d : Descs) (old : Descs) (key : ℕ) → d ≡ old → 0 < count_at old.loose key → 0 < count_at d.loose key
held d old key is h = subst (λ z. 0 < count_at z.loose key) (sym is) h

-- others are left
module _ (g : Over) (c : After-self-1 g) where
  abbrev m : Known
  m = known c.self.inside c.self.invariant

  abbrev y : Description
  y = c.index_mut-held.result.now

  abbrev less : Description
  less = record y { holders = y.holders - 1 }

  abbrev after : List (Option Description)
  after = slice_set m.slots c.args.key (Some less)

  was : at m.slots c.args.key ≡ Some y
  was = c.index_mut-held.ensures.value

  more : 1 < y.holders
  more = subst (λ d. 1 < d.holders) (same_Some c.index-description.result.now y (sym c.index-description.ensures ∙ was)) c.if-description-gt1.true

  not_last : last_hold c.args.self.now c.args.key ≡ false
  not_last = ap (λ d. last_hold d c.args.key) (sym c.self.view_is) ∙ last-is m c.args.key y less was (view_of c.self.inside).room ∙ ne_eqb y.holders 1 (λ e. absurd (omega (arith, more, e)))

  same : opened_in after ≡ opened_in m.slots
  same = opened-lent m.slots c.args.key y less was refl

-- none is left
module _ (g : Over) (c : After-at-left g) where
  abbrev at_last : Known
  at_last = known c.self.inside c.self.invariant

  abbrev x : Description
  x = c.index-description.result.now

  one : (x.holders ≡ 1) × (naming at_last.tables c.args.key ≡ 0)
  one = one-left at_last c.args.key x x c.index-description.ensures (held (view_of c.self.inside) c.args.self.now c.args.key c.self.view_is c.requires) c.if-description-gt1.false

  last : last_hold c.args.self.now c.args.key ≡ true
  last = ap (λ d. last_hold d c.args.key) (sym c.self.view_is) ∙ last-is at_last c.args.key x x c.index-description.ensures (view_of c.self.inside).room ∙ eq-eqb x.holders 1 one.0

  sound : IsSound at_last.limits at_last.tables c.try_remove-gone.new.self.slots (ends_at c.remove.new.self)
  sound = sound-gone at_last.tables c.self.inside.descriptions c.try_remove-gone.new.self at_last.ends (ends_at c.remove.new.self) c.args.key x at_last.sound c.try_remove-gone.ensures.updates c.index-description.ensures one.1 c.remove.ensures.counts

-- the description that goes
said : (g : Over) (c : After-remove-arg-1 g) → at (opened_in c.self.inside.descriptions.slots) c.args.key ≡ Some (opened_of c.index-description.result.now)
said g c = at-opened c.self.inside.descriptions.slots c.args.key ∙ ap (option_map opened_of) c.index-description.ensures

pub index-description-requires : goal.index-description-requires
index-description-requires g c = loose-some (known c.self.inside c.self.invariant) c.args.key (held (view_of c.self.inside) c.args.self.now c.args.key c.self.view_is c.requires)

pub invariant_of-self : goal.invariant_of-self
invariant_of-self g c = sound-less (m g c) c.args.key (y g c) (less g c) (was g c) refl (held (view_of c.self.inside) c.args.self.now c.args.key c.self.view_is c.requires) refl (more g c)

pub returns-then-description-gt1-clause-value : goal.returns-then-description-gt1-clause-value
returns-then-description-gt1-clause-value g c =
    (λ i. option_map (released (not_last g c i) (opened_in (after g c))) (at (sym c.self.view_is i).opened c.args.key))
    ∙ ap (option_map (released false (opened_in (after g c)))) (at-opened c.self.inside.descriptions.slots c.args.key ∙ ap (option_map opened_of) (was g c))

pub returns-then-description-gt1-clause-opened : goal.returns-then-description-gt1-clause-opened
returns-then-description-gt1-clause-opened g c =
    let old = c.args.self.now.opened in
    ap at (same g c) ∙ ap (λ d. at d.opened) c.self.view_is ∙ ap (λ b. if b then set_at nat_eq (at old) c.args.key None else at old) (sym (not_last g c))

pub returns-then-description-gt1-clause-loose : goal.returns-then-description-gt1-clause-loose
returns-then-description-gt1-clause-loose g c = loose-less (m g c) c.args.key (y g c) (less g c) (was g c) refl ∙ ap (λ d. change_count c.args.key one_less (count_at d.loose)) c.self.view_is

pub returns-then-description-gt1-clause-live : goal.returns-then-description-gt1-clause-live
returns-then-description-gt1-clause-live g c =
    let left = live_count (opened_in (after g c)) in
    ap (λ b. left + (if b then 1 else 0)) (not_last g c)
    ∙ (let e : left + 0 ≡ left = omega arith in e)
    ∙ ap live_count (same g c) ∙ ap (λ d. live_count d.opened) c.self.view_is

pub returns-then-description-gt1-clause-room : goal.returns-then-description-gt1-clause-room
returns-then-description-gt1-clause-room g c =
    let len = len-same c.self.inside.descriptions.slots (after g c) (ap live_count (same g c)) in
    let d = ap (λ d. d.room.descriptions) c.self.view_is in
    let p = ap (λ d. d.room.pipes) c.self.view_is in
    let f = ap (λ d. d.room.files) c.self.view_is in
    record { descriptions = omega (arith, len, d); pipes = omega (arith, p); files = omega (arith, f); rows = λ pid. omega (arith, ap (λ d. rows_at d.room.rows pid) c.self.view_is) }

pub remove-requires-clause-readers : goal.remove-requires-clause-readers
remove-requires-clause-readers g c =
    let x = c.index-description.result.now in
    let there = counted_there (opened_in c.self.inside.descriptions.slots) c.args.key (opened_of x) (said g c) reads in
    omega (arith, there, ap (λ e. e.readers) (c.self.invariant.counted x.node))

pub remove-requires-clause-writers : goal.remove-requires-clause-writers
remove-requires-clause-writers g c =
    let x = c.index-description.result.now in
    let there = counted_there (opened_in c.self.inside.descriptions.slots) c.args.key (opened_of x) (said g c) writes in
    omega (arith, there, ap (λ e. e.writers) (c.self.invariant.counted x.node))

pub remove-requires-clause-place : goal.remove-requires-clause-place
remove-requires-clause-place g c =
    let x = c.index-description.result.now in
    has_counts c.self.inside.counts x.node x.mode (remove-requires-clause-readers g c) (remove-requires-clause-writers g c)

pub invariant_of-self-2 : goal.invariant_of-self-2
invariant_of-self-2 g c = sound g c

pub returns-clause-value : goal.returns-clause-value
returns-clause-value g c =
    let x = x g c in
    let left = opened_in c.try_remove-gone.new.self.slots in
    let ends = sym ((sound g c).counted x.node) ∙ sym c.at-left.ensures in
    (λ i. option_map (released (last g c i) left) (at (sym c.self.view_is i).opened c.args.key))
    ∙ ap (option_map (released true left)) (at-opened c.self.inside.descriptions.slots c.args.key ∙ ap (option_map opened_of) c.index-description.ensures)
    ∙ (λ i. Some (Gone x.node x.mode (ends i).readers (ends i).writers))

pub returns-clause-opened : goal.returns-clause-opened
returns-clause-opened g c =
    let old = c.args.self.now.opened in
    opened-updates c.self.inside.descriptions c.try_remove-gone.new.self c.args.key None c.try_remove-gone.ensures.updates
    ∙ ap (λ d. set_at nat_eq (at d.opened) c.args.key None) c.self.view_is
    ∙ ap (λ b. if b then set_at nat_eq (at old) c.args.key None else at old) (sym (last g c))

pub returns-clause-loose : goal.returns-clause-loose
returns-clause-loose g c =
    let k = c.self.inside in
    let updates = c.try_remove-gone.ensures.updates in
    let left = c.try_remove-gone.new.self.slots in
    let none : holders_of (at left c.args.key) ≡ 0 = ap holders_of updates.changed in
    let is : holders_of (at k.descriptions.slots c.args.key) ≡ 1 = ap holders_of c.index-description.ensures ∙ (one g c).0 in
    let bare = (one g c).1 in
    let here : holders_of (at left c.args.key) - naming k.tables.tables c.args.key ≡ (holders_of (at k.descriptions.slots c.args.key) - naming k.tables.tables c.args.key) - 1 = omega (arith, none, is, bare) in
    loose-change k.tables.tables k.tables.tables k.descriptions.slots left c.args.key one_less here (λ q n. ap (λ o. holders_of o - naming k.tables.tables q) (updates.others q n))
    ∙ ap (λ d. change_count c.args.key one_less (count_at d.loose)) c.self.view_is

pub returns-clause-live : goal.returns-clause-live
returns-clause-live g c =
    let k = c.self.inside in
    ap (λ b. live_count (opened_in c.try_remove-gone.new.self.slots) + (if b then 1 else 0)) (last g c)
    ∙ live-less k.tables.tables k.descriptions c.try_remove-gone.new.self (ends_at k.counts) (ends_at c.remove.new.self) c.args.key (x g c) c.self.invariant c.try_remove-gone.ensures.updates c.index-description.ensures (one g c).1 ∙ ap (λ d. live_count d.opened) c.self.view_is

pub returns-then-description-gt1-clause-tidy : goal.returns-then-description-gt1-clause-tidy
returns-then-description-gt1-clause-tidy g c = tidy _ _ _ (invariant_of-self g c) _

pub returns-clause-tidy : goal.returns-clause-tidy
returns-clause-tidy g c = tidy _ _ _ (invariant_of-self-2 g c) _
