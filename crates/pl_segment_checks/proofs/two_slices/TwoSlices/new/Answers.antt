use Rattle.std.proofs.Common.{◌≡◌, ap, arith}
use Rattle.pl_segments.specs.Segments.{segment_at, holders, holders_in}
use Rattle.pl_segments.proofs.Changing.{set-here}
use Rattle.pl_segment_checks.proofs.Slices.{held-again}
use Rattle.pl_segment_checks.proofs.two_slices.TwoSlices.new.Goals as goal

pub hold-requires-clause-lies : goal.hold-requires-clause-lies
hold-requires-clause-lies g c = c.in_ok-slice.ensures.turns.lie.0

pub hold-requires-clause-few : goal.hold-requires-clause-few
hold-requires-clause-few g c =
    let x = c.in_ok-slice.slice in
    let one : holders (segment_at c.make.new.self) x.segment ≡ 1 = ap holders_in (set-here _ (segment_at c.make.new.self) x.segment _ c.in_ok-slice.ensures.made) in
    omega (arith, one)

pub invariant_of-result : goal.invariant_of-result
invariant_of-result g c = held-again _ (segment_at c.make.new.self) (segment_at c.hold.new.self) c.in_ok-slice.slice c.in_ok-slice.ensures.turns c.hold.ensures.turns
