use Rattle.std.proofs.Common.{◌≡◌, ◌<◌, ◌+◌, ◌-◌, ◌/◌, ◌∙◌, ap, take, arith}
use Rattle.std.proofs.lemmas.Option.{slice_get_read}
use Rattle.pl_segments.specs.Slots.{total}
use Rattle.pl_file.specs.Rows.{Row}
use Rattle.pl_file.proofs.Placed.{count-is, start-is}
use Rattle.pl_file.proofs.row.Row.starting_up_to.Given.{Over}
use Rattle.pl_file.proofs.row.Row.starting_up_to.Goals.{After-index}
use Rattle.pl_file.proofs.row.Row.starting_up_to.Goals as goal

-- where the slot in the middle starts
starts : (g : Over) (c : After-index g) → c.index.result.now.start ≡ c.args.self.now.base + total (take (c.loop-low.low + (c.loop-low.high - c.loop-low.low) / 2) c.args.self.now.slots)
starts g c =
    let k = c.self.inside.entries in
    let i = c.loop-low.low + (c.loop-low.high - c.loop-low.low) / 2 in
    let n = count-is c.self.inside c.args.self.now c.self.view_is in
    let most = c.loop-low.invariant.most in
    let test = c.loop-low-test.true in
    let here : i < k.len = omega (arith, n, most, test) in
    start-is c.self.inside.base k.items c.self.invariant.placed i c.index.result.now (slice_get_read k.items k.len i c.index.result.now k.ok.0 here c.index.ensures)
    ∙ ap (λ (r : Row). r.base + total (take i r.slots)) c.self.view_is

pub loop-low-init : goal.loop-low-init
loop-low-init g c =
    let n = count-is c.self.inside c.args.self.now c.self.view_is in
    let len = c.len-high.ensures in
    record { order = omega arith; most = omega (arith, n, len); before = λ h. absurd (omega (arith, h)); after = λ h. absurd (omega (arith, n, len, h)) }

pub index-requires : goal.index-requires
index-requires g c =
    let n = count-is c.self.inside c.args.self.now c.self.view_is in
    let most = c.loop-low.invariant.most in
    let test = c.loop-low-test.true in
    omega (arith, n, most, test)

pub loop-low-preserved-then-index-place : goal.loop-low-preserved-then-index-place
loop-low-preserved-then-index-place g c =
    let i = c.loop-low.low + (c.loop-low.high - c.loop-low.low) / 2 in
    let s = starts g (goal.at.loop-low-preserved-then-index-place g c).After-index in
    let inv = c.loop-low.invariant in
    let loop = c.loop-low-test.true in
    let test = c.if-index-place.true in
    let same : total (take (i + 1 - 1) c.args.self.now.slots) ≡ total (take i c.args.self.now.slots) = ap (λ n. total (take n c.args.self.now.slots)) (let e : i + 1 - 1 ≡ i = omega arith in e) in
    record { order = omega (arith, loop); most = inv.most; before = λ h. omega (arith, s, same, test); after = inv.after }

pub loop-low-preserved : goal.loop-low-preserved
loop-low-preserved g c =
    let s = starts g (goal.at.loop-low-preserved g c).After-index in
    let inv = c.loop-low.invariant in
    let loop = c.loop-low-test.true in
    let test = c.if-index-place.false in
    let most = inv.most in
    record { order = omega arith; most = omega (arith, loop, most); before = inv.before; after = λ h. omega (arith, s, test) }
