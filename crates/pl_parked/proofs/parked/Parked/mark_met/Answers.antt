use Rattle.std.proofs.Common.{◌≡◌, ℕ, ◌+◌, ◌<◌, ◌∙◌, arith}
use Rattle.pl_parked.proofs.Meeting.{marks-one, unmet}
use Rattle.pl_parked.proofs.parked.Parked.mark_met.Goals as goal

below : (a b : ℕ) → a + 1 ≡ b → a < b
below a b e = omega arith

pub loop-number-smaller : goal.loop-number-smaller
loop-number-smaller g c = let less = (marks-one c.args.pipe c.args.mode c.loop-number.self c.mark.new.self c.in-Some.number c.in-Some.ensures.some c.mark.ensures).1 in below (unmet c.mark.new.self.calls) (unmet c.loop-number.self.calls) less

pub loop-number-preserved : goal.loop-number-preserved
loop-number-preserved g c = (marks-one c.args.pipe c.args.mode c.loop-number.self c.mark.new.self c.in-Some.number c.in-Some.ensures.some c.mark.ensures).0 ∙ c.loop-number.invariant
