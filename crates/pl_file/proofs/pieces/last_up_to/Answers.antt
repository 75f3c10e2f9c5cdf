use Rattle.std.proofs.Common.{◌≡◌, ◌+◌, ◌-◌, ◌/◌, refl, ap, length, take, arith}
use Rattle.std.proofs.lemmas.Option.{slice_get_read}
use Rattle.pl_segments.specs.Slots.{total}
use Rattle.pl_file.specs.Rows.{flat}
use Rattle.pl_file.proofs.Chunking.{chunk-at}
use Rattle.pl_file.proofs.pieces.last_up_to.Given.{Over}
use Rattle.pl_file.proofs.pieces.last_up_to.Goals.{After-start}
use Rattle.pl_file.proofs.pieces.last_up_to.Goals as goal

-- where the chunk in the middle starts
starts : (g : Over) (c : After-start g) → c.start.result ≡ total (flat (take (c.loop-low.low + (c.loop-low.high - c.loop-low.low) / 2) c.args.rows.now))
starts g c =
    let i = c.loop-low.low + (c.loop-low.high - c.loop-low.low) / 2 in
    let rows = c.args.rows.now in
    let r = c.index-rows-middle.result in
    let most = c.loop-low.invariant.most in
    let test = c.loop-low-test.true in
    let base = (chunk-at 0 rows i r c.requires.chunks (slice_get_read rows (length rows) i r refl (omega (arith, most, test)) c.index-rows-middle.is)).base in
    let s = c.start.ensures in
    omega (arith, s, base)

pub loop-low-preserved-then-start-place : goal.loop-low-preserved-then-start-place
loop-low-preserved-then-start-place g c =
    let i = c.loop-low.low + (c.loop-low.high - c.loop-low.low) / 2 in
    let s = starts g (goal.at.loop-low-preserved-then-start-place g c).After-start in
    let inv = c.loop-low.invariant in
    let loop = c.loop-low-test.true in
    let test = c.if-start-place.true in
    let same : total (flat (take (i + 1 - 1) c.args.rows.now)) ≡ total (flat (take i c.args.rows.now)) = ap (λ n. total (flat (take n c.args.rows.now))) (let e : i + 1 - 1 ≡ i = omega arith in e) in
    record { some = omega arith; order = omega (arith, loop); most = inv.most; before = omega (arith, s, same, test); after = inv.after }

pub loop-low-preserved : goal.loop-low-preserved
loop-low-preserved g c =
    let s = starts g (goal.at.loop-low-preserved g c).After-start in
    let inv = c.loop-low.invariant in
    let loop = c.loop-low-test.true in
    let test = c.if-start-place.false in
    let most = inv.most in
    record { some = inv.some; order = omega arith; most = omega (arith, loop, most); before = inv.before; after = λ h. omega (arith, s, test) }
