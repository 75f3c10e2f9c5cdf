use Rattle.std.proofs.Common.{sym, subst, inl, inr, arith}
use Rattle.std.proofs.lemmas.Bool.{cases_eq}
use Rattle.std.proofs.lemmas.List.{length-take-le}
use Rattle.pl_lines.specs.Runs.{ThreeBegin}
use Rattle.pl_lines.proofs.Places.{first_is_second, second_is_third}
use Rattle.pl_lines.proofs.runs.three_begin.Goals as goal

pub slice_bounds-first-end : goal.slice_bounds-first-end
slice_bounds-first-end c = sym (length-take-le 32 c.args.bytes.now (omega (arith, c.requires)))

pub bounds-first-i : goal.bounds-first-i
bounds-first-i c = rw (length-take-le 32 c.args.bytes.now (omega (arith, c.requires))) c.loop-i-test.true

pub loop-i-preserved : goal.loop-i-preserved
loop-i-preserved c none k lt three = elim (cases_eq k c.loop-i.i) [
  | inl e ↦
      let bytes = c.args.bytes.now in
      let here : ThreeBegin bytes c.loop-i.i = subst (ThreeBegin bytes) e three in
      c.one_if_equal.ensures (grind (arith, none, c.max-most.ensures)) (first_is_second bytes c.loop-i.i c.loop-i-test.true here) (second_is_third bytes c.loop-i.i c.loop-i-test.true here)
  | inr ne ↦ c.loop-i.invariant (grind (arith, none, c.max-most.ensures)) k (omega (arith, ne, lt)) three
]
