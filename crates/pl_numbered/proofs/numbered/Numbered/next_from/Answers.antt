use Rattle.std.proofs.Common.{◌≡◌, ◌<◌, ◌^◌, ℕ, true, Option, subst, length, sym, ◌∙◌, arith}
use Rattle.std.specs.Prelude.{is_some}
use Rattle.pl_numbered.specs.Rising.{Rise}
use Rattle.pl_numbered.specs.Entries.{AllBelow, NoneBelow}
use Rattle.pl_numbered.proofs.FromNumber.{first_here, first_least, none_from, empty_too}
use Rattle.pl_numbered.proofs.numbered.Numbered.next_from.Given.{Over}
use Rattle.pl_numbered.proofs.numbered.Numbered.next_from.Goals.{After-count_below-start, Then-is_some}
use Rattle.pl_numbered.proofs.numbered.Numbered.next_from.Goals as goal

module _ (g : Over) (c : After-count_below-start g) where
  rise : Rise 0 (2 ^ 64) c.deref.result.now
  rise = subst (λ es. Rise 0 (2 ^ 64) es) (sym c.deref.ensures.value) c.args.self.now.kept.rise

  below : AllBelow c.args.from c.count_below-start.result c.args.self.now.entries.items
  below = subst (λ es. AllBelow c.args.from c.count_below-start.result es) c.deref.ensures.value (c.count_below-start.ensures.below (2 ^ 64) rise)

  above : NoneBelow c.args.from c.count_below-start.result c.args.self.now.entries.items
  above = subst (λ es. NoneBelow c.args.from c.count_below-start.result es) c.deref.ensures.value (c.count_below-start.ensures.above (2 ^ 64) rise)

module _ (g : Over) (c : Then-is_some g) where
  abbrev entry : ℕ × Option g.row.T.Denot
  entry = c.index-entry.result.now

  within : c.loop-place.place < length c.args.self.now.entries.items
  within = let l = c.loop-place-test.true in let n = c.len-place-end.ensures in let ok = c.args.self.now.entries.ok.0 in omega (arith, l, n, ok)

  full : is_some entry.1 ≡ true
  full = sym c.is_some.ensures ∙ c.if-is_some.true

pub returns-then-is_some-clause-here : goal.returns-then-is_some-clause-here
returns-then-is_some-clause-here g c =
    let w = (goal.at.returns-then-is_some-clause-here g c).After-count_below-start in
    first_here c.args.from (2 ^ 64) c.count_below-start.result c.loop-place.place c.args.self.now.entries.items c.args.self.now.kept.rise (below g w) (above g w) c.loop-place.invariant
    (entry g c) c.index-entry.ensures c.loop-place.auto.place (within g c) (full g c)

pub returns-then-is_some-clause-least : goal.returns-then-is_some-clause-least
returns-then-is_some-clause-least g c =
    let w = (goal.at.returns-then-is_some-clause-least g c).After-count_below-start in
    first_least c.args.from (2 ^ 64) c.count_below-start.result c.loop-place.place c.args.self.now.entries.items c.args.self.now.kept.rise (below g w) (above g w) c.loop-place.invariant
    (entry g c) c.index-entry.ensures c.loop-place.auto.place (within g c) (full g c)

pub loop-place-preserved : goal.loop-place-preserved
loop-place-preserved g c =
    let l = c.loop-place-test.true in
    let n = c.len-place-end.ensures in
    let ok = c.args.self.now.entries.ok.0 in
    empty_too c.args.self.now.entries.items c.count_below-start.result c.loop-place.place c.index-entry.result.now c.index-entry.ensures
    (sym c.is_some.ensures ∙ c.if-is_some.false) (omega (arith, l, n, ok)) c.loop-place.invariant

pub returns-clause-none : goal.returns-clause-none
returns-clause-none g c =
    let w = (goal.at.returns-clause-none g c).After-count_below-start in
    let l = c.loop-place-test.false in
    let n = c.len-place-end.ensures in
    let ok = c.args.self.now.entries.ok.0 in
    none_from c.args.from (2 ^ 64) c.count_below-start.result c.loop-place.place c.args.self.now.entries.items c.args.self.now.kept.rise (below g w) (above g w) c.loop-place.invariant (omega (arith, l, n, ok))
