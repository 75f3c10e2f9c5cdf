use Rattle.std.proofs.Common.{◌≡◌, ◌+◌, ◌<◌, ◌≤◌, length, refl, sym, ap, ◌∙◌, arith, rules, tests}
use Rattle.std.proofs.lemmas.Result.{err_from_is_err_and}
use Rattle.pl_model.specs.Numbers.{most_script_bytes}
use Rattle.pl_model.specs.Script.{lines, header_lines, version_of}
use Rattle.pl_lines.proofs.LineLemmas.{lines-empty}
use Rattle.pl_script.specs.Comparing.{text_of}
use Rattle.pl_script.proofs.CheckSteps.{starts, goes_on, flushes, ends, ends_at_bad, ends_at_want, fails_to_write, number_fits, counts_fit, unchanged}
use Rattle.pl_script.proofs.checking.check_each.Goals as goal

pub loop-rest-init : goal.loop-rest-init
loop-rest-init g c = record {
  underway = λ limits stands.
      let number : c.header_lines-number.result + 1 ≡ header_lines (version_of c.args.script.now) + 1 =
      omega (arith, c.header_lines-number.ensures.exact, ap header_lines c.split_version-version.ensures.version) in
      starts c.args.all c.args.script.now limits _ _ _ _ c.split_version-version.result.1.now _ _ stands (ap text_of c.requires.nothing) c.requires.empty c.split_version-version.ensures.body c.requires.none number;
  kept = refl;
}

pub check_line-requires-clause-few : goal.check_line-requires-clause-few
check_line-requires-clause-few g c =
    let before = rw c.next_line.ensures.lines at (c.loop-rest.invariant.underway c.requires.stands.0 c.requires.stands.1) in
    let below : c.loop-rest.number ≤ most_script_bytes = number_fits c.requires.short before in
    let fit : c.loop-rest.checked.compared < c.loop-rest.number = (counts_fit before).0 in
    omega arith

pub check_line-requires-clause-fewer : goal.check_line-requires-clause-fewer
check_line-requires-clause-fewer g c = (counts_fit (c.loop-rest.invariant.underway c.requires.stands.0 c.requires.stands.1)).1

pub overflow_add-number-in-loop-rest : goal.overflow_add-number-in-loop-rest
overflow_add-number-in-loop-rest g c =
    let before = rw c.next_line.ensures.lines at (c.loop-rest.invariant.underway c.requires.stands.0 c.requires.stands.1) in
    let below : c.loop-rest.number ≤ most_script_bytes = number_fits c.requires.short before in
    omega arith

pub returns-in_err-write_whole-clause-run : goal.returns-in_err-write_whole-clause-run
returns-in_err-write_whole-clause-run g c = λ limits stands.
    let before = rw c.next_line.ensures.lines at (c.loop-rest.invariant.underway limits stands) in
    let stop = c.in-Err.ensures c.args.script.now before.flushed limits (lines c.next_line.result.1.now) (sym c.split_version-version.ensures.version) before.at in
    let bytes = c.as_slice.ensures.value ∙ (unchanged _ _ _ _ _ _ _ c.in-Err.fault stop).1 in
    let p = err_from_is_err_and c.from_residual.result c.from_residual.ensures.1 in
    rw (p.1, p.2, c.in_err-write_whole.ensures.stopped.0)
    (fails_to_write _ c.requires.short (rw bytes at c.in_err-write_whole.ensures.front) before)

pub returns-in-Bad-clause-run : goal.returns-in-Bad-clause-run
returns-in-Bad-clause-run g c = λ limits stands.
    let before = rw c.next_line.ensures.lines at (c.loop-rest.invariant.underway limits stands) in
    let stop = rw c.in-Bad.is at (c.in-Err.ensures c.args.script.now before.flushed limits (lines c.next_line.result.1.now) (sym c.split_version-version.ensures.version) before.at) in
    ends_at_bad _ c.requires.short (rw (sym c.split_version-version.ensures.version) stop.2) (rw (c.as_slice.ensures.value ∙ stop.1) at c.in_ok-write_whole.ensures.front) before

pub returns-in-NoMemory-clause-run : goal.returns-in-NoMemory-clause-run
returns-in-NoMemory-clause-run g c = λ limits stands.
    let before = rw c.next_line.ensures.lines at (c.loop-rest.invariant.underway limits stands) in
    let stop = rw c.in-NoMemory.is at (c.in-Err.ensures c.args.script.now before.flushed limits (lines c.next_line.result.1.now) (sym c.split_version-version.ensures.version) before.at) in
    ends_at_want _ c.requires.short (rw (sym c.split_version-version.ensures.version) stop.2) (rw (c.as_slice.ensures.value ∙ stop.1) at c.in_ok-write_whole.ensures.front) before

pub returns-in_err-write_whole-2-clause-run : goal.returns-in_err-write_whole-2-clause-run
returns-in_err-write_whole-2-clause-run g c = λ limits stands.
    let before = rw c.next_line.ensures.lines at (c.loop-rest.invariant.underway limits stands) in
    let after = goes_on _ _ _ c.check_line.new.checked (λ front at. c.in_default.ensures c.args.script.now front limits (lines c.next_line.result.1.now) (sym c.split_version-version.ensures.version) at) before in
    let p = err_from_is_err_and c.from_residual-in_err-write_whole-2.result c.from_residual-in_err-write_whole-2.ensures.1 in
    rw (p.1, p.2, c.in_err-write_whole-2.ensures.stopped.0)
    (fails_to_write _ c.requires.short (rw c.as_slice-then-len-ge-WAITING.ensures.value at c.in_err-write_whole-2.ensures.front) after)

pub loop-rest-preserved-then-len-ge-WAITING : goal.loop-rest-preserved-then-len-ge-WAITING
loop-rest-preserved-then-len-ge-WAITING g c = record {
  underway = λ limits stands.
      let before = rw c.next_line.ensures.lines at (c.loop-rest.invariant.underway limits stands) in
      let after = goes_on _ _ _ c.check_line.new.checked (λ front at. c.in_default.ensures c.args.script.now front limits (lines c.next_line.result.1.now) (sym c.split_version-version.ensures.version) at) before in
      rw c.clear.ensures.items (flushes _ (rw c.as_slice-then-len-ge-WAITING.ensures.value at c.in_ok-write_whole-2.ensures.front) after);
  kept = c.in_ok-write_whole-2.ensures.kept ∙ c.loop-rest.invariant.kept;
}

pub loop-rest-preserved : goal.loop-rest-preserved
loop-rest-preserved g c = record {
  underway = λ limits stands.
      goes_on _ _ _ c.check_line.new.checked (λ front at. c.in_default.ensures c.args.script.now front limits (lines c.next_line.result.1.now) (sym c.split_version-version.ensures.version) at) (rw c.next_line.ensures.lines at (c.loop-rest.invariant.underway limits stands));
  kept = c.loop-rest.invariant.kept;
}

pub returns-in_err-write_whole-3-clause-run : goal.returns-in_err-write_whole-3-clause-run
returns-in_err-write_whole-3-clause-run g c = λ limits stands.
    let p = err_from_is_err_and c.from_residual-in_err-write_whole-3.result c.from_residual-in_err-write_whole-3.ensures.1 in
    rw (p.1, p.2, c.in_err-write_whole-3.ensures.stopped.0)
    (fails_to_write _ c.requires.short (rw c.as_slice-2.ensures.value at c.in_err-write_whole-3.ensures.front) (c.loop-rest.invariant.underway limits stands))

pub returns-clause-run : goal.returns-clause-run
returns-clause-run g c = λ limits stands.
    let none : length c.loop-rest.rest.now ≡ 0 = search (rules, tests) in
    ends _ c.requires.short (lines-empty c.loop-rest.rest.now none) (rw c.as_slice-2.ensures.value at c.in_ok-write_whole-3.ensures.front) (c.loop-rest.invariant.underway limits stands)
