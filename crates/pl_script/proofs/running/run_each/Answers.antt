use Rattle.std.proofs.Common.{◌≡◌, ◌+◌, length, refl, sym, ap, ◌∙◌, arith, rules, tests}
use Rattle.std.proofs.lemmas.Result.{err_from_is_err_and}
use Rattle.pl_model.specs.declared.script.Totals.{Totals}
use Rattle.pl_model.specs.Script.{lines, header_lines, version_of}
use Rattle.pl_lines.proofs.LineLemmas.{lines-empty}
use Rattle.pl_script.proofs.RunSteps.{starts, goes_on, flushes, ends, ends_at_bad, ends_at_want, fails_to_write, number_fits, unchanged}
use Rattle.pl_script.proofs.running.run_each.Goals as goal

pub loop-rest-init : goal.loop-rest-init
loop-rest-init g c = record {
  underway = λ limits stands.
      let none = c.requires.none in
      let count : c.args.totals.now.lines + c.header_lines.result ≡ header_lines (version_of c.args.script.now) =
      omega (arith, ap (λ (t : Totals). t.lines) none, c.header_lines.ensures.exact, ap header_lines c.split_version-version.ensures.version) in
      starts c.args.script.now limits _ _ _ c.split_version-version.result.1.now _ _ _ stands c.requires.nothing c.split_version-version.ensures.body count (ap (λ (t : Totals). t.steps) none) (ap (λ (t : Totals). t.nomem) none);
  kept = refl;
}

pub run_line-requires-clause-lines : goal.run_line-requires-clause-lines
run_line-requires-clause-lines g c = number_fits c.requires.short (rw c.next_line.ensures.lines at (c.loop-rest.invariant.underway c.requires.stands.0 c.requires.stands.1))

pub run_line-requires-clause-steps : goal.run_line-requires-clause-steps
run_line-requires-clause-steps g c = (c.loop-rest.invariant.underway c.requires.stands.0 c.requires.stands.1).at.steps_below

pub run_line-requires-clause-nomem : goal.run_line-requires-clause-nomem
run_line-requires-clause-nomem g c = (c.loop-rest.invariant.underway c.requires.stands.0 c.requires.stands.1).at.nomem_below

pub returns-in_err-write_whole-clause-run : goal.returns-in_err-write_whole-clause-run
returns-in_err-write_whole-clause-run g c = λ limits stands.
    let before = rw c.next_line.ensures.lines at (c.loop-rest.invariant.underway limits stands) in
    let stop = c.in-Err.ensures c.args.script.now before.flushed limits (lines c.next_line.result.1.now) (sym c.split_version-version.ensures.version) before.at in
    let bytes = c.as_bytes-answered.ensures.value ∙ (unchanged _ _ _ _ _ _ _ c.in-Err.fault stop).1 in
    let p = err_from_is_err_and c.from_residual.result c.from_residual.ensures.1 in
    rw (p.1, p.2, c.in_err-write_whole.ensures.stopped.0)
    (fails_to_write _ c.run_line.new.totals c.requires.short (rw bytes at c.in_err-write_whole.ensures.front) before)

pub overflow_add-result : goal.overflow_add-result
overflow_add-result g c =
    let before = rw c.next_line.ensures.lines at (c.loop-rest.invariant.underway c.requires.stands.0 c.requires.stands.1) in
    let stop = c.in-Err.ensures c.args.script.now before.flushed c.requires.stands.0 (lines c.next_line.result.1.now) (sym c.split_version-version.ensures.version) before.at in
    let same : c.run_line.new.totals.lines ≡ c.loop-rest.totals.lines = ap (λ (t : Totals). t.lines) (unchanged _ _ _ _ _ _ _ c.in-Err.fault stop).0 in
    omega (arith, same, number_fits c.requires.short before)

pub returns-in-Bad-clause-run : goal.returns-in-Bad-clause-run
returns-in-Bad-clause-run g c = λ limits stands.
    let before = rw c.next_line.ensures.lines at (c.loop-rest.invariant.underway limits stands) in
    let stop = rw c.in-Bad.is at (c.in-Err.ensures c.args.script.now before.flushed limits (lines c.next_line.result.1.now) (sym c.split_version-version.ensures.version) before.at) in
    ends_at_bad _ c.run_line.new.totals _ c.requires.short (rw (sym c.split_version-version.ensures.version) stop.2) (ap (λ (t : Totals). t.lines + 1) stop.0) (rw (c.as_bytes-answered.ensures.value ∙ stop.1) at c.in_ok-write_whole.ensures.front) before

pub returns-in-NoMemory-clause-run : goal.returns-in-NoMemory-clause-run
returns-in-NoMemory-clause-run g c = λ limits stands.
    let before = rw c.next_line.ensures.lines at (c.loop-rest.invariant.underway limits stands) in
    let stop = rw c.in-NoMemory.is at (c.in-Err.ensures c.args.script.now before.flushed limits (lines c.next_line.result.1.now) (sym c.split_version-version.ensures.version) before.at) in
    ends_at_want _ _ c.requires.short (rw (sym c.split_version-version.ensures.version) stop.2) stop.0 (rw (c.as_bytes-answered.ensures.value ∙ stop.1) at c.in_ok-write_whole.ensures.front) before

pub returns-in_err-write_whole-2-clause-run : goal.returns-in_err-write_whole-2-clause-run
returns-in_err-write_whole-2-clause-run g c = λ limits stands.
    let before = rw c.next_line.ensures.lines at (c.loop-rest.invariant.underway limits stands) in
    let after = goes_on _ _ c.run_line.new.totals (λ front at. c.in_default.ensures c.args.script.now front limits (lines c.next_line.result.1.now) (sym c.split_version-version.ensures.version) at) before in
    let p = err_from_is_err_and c.from_residual-in_err-write_whole-2.result c.from_residual-in_err-write_whole-2.ensures.1 in
    rw (p.1, p.2, c.in_err-write_whole-2.ensures.stopped.0)
    (fails_to_write _ c.run_line.new.totals c.requires.short (rw c.as_bytes.ensures.value at c.in_err-write_whole-2.ensures.front) after)

pub loop-rest-preserved-then-len-ge-WAITING : goal.loop-rest-preserved-then-len-ge-WAITING
loop-rest-preserved-then-len-ge-WAITING g c = record {
  underway = λ limits stands.
      let before = rw c.next_line.ensures.lines at (c.loop-rest.invariant.underway limits stands) in
      let after = goes_on _ _ c.run_line.new.totals (λ front at. c.in_default.ensures c.args.script.now front limits (lines c.next_line.result.1.now) (sym c.split_version-version.ensures.version) at) before in
      rw c.clear.ensures.bytes (flushes _ (rw c.as_bytes.ensures.value at c.in_ok-write_whole-2.ensures.front) after);
  kept = c.in_ok-write_whole-2.ensures.kept ∙ c.loop-rest.invariant.kept;
}

pub loop-rest-preserved : goal.loop-rest-preserved
loop-rest-preserved g c = record {
  underway = λ limits stands.
      goes_on _ _ c.run_line.new.totals (λ front at. c.in_default.ensures c.args.script.now front limits (lines c.next_line.result.1.now) (sym c.split_version-version.ensures.version) at) (rw c.next_line.ensures.lines at (c.loop-rest.invariant.underway limits stands));
  kept = c.loop-rest.invariant.kept;
}

pub returns-in_err-write_whole-3-clause-run : goal.returns-in_err-write_whole-3-clause-run
returns-in_err-write_whole-3-clause-run g c = λ limits stands.
    let p = err_from_is_err_and c.from_residual-in_err-write_whole-3.result c.from_residual-in_err-write_whole-3.ensures.1 in
    rw (p.1, p.2, c.in_err-write_whole-3.ensures.stopped.0)
    (fails_to_write _ c.loop-rest.totals c.requires.short (rw c.as_bytes-2.ensures.value at c.in_err-write_whole-3.ensures.front) (c.loop-rest.invariant.underway limits stands))

pub returns-clause-run : goal.returns-clause-run
returns-clause-run g c = λ limits stands.
    let none : length c.loop-rest.rest.now ≡ 0 = search (rules, tests) in
    ends _ c.requires.short (lines-empty c.loop-rest.rest.now none) (rw c.as_bytes-2.ensures.value at c.in_ok-write_whole-3.ensures.front) (c.loop-rest.invariant.underway limits stands)
