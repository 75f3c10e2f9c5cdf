use Rattle.std.proofs.Common.{◌+◌, ◌++◌, take, drop, refl, sym, ◌∙◌, arith, rules}
use Rattle.std.proofs.lemmas.Result.{err_from_is_err_and}
use Rattle.pl_model.specs.Script.{lines}
use Rattle.pl_script.proofs.LiveText.{feed_at, feed_nowhere}
use Rattle.pl_script.proofs.LiveRuns.{holds_line, holds_all, goes_behind, wants_to_hold}
use Rattle.pl_script.proofs.live.take_in.Goals as goal

pub loop-end-init : goal.loop-end-init
loop-end-init g c = record {
  underway = λ limits first t known at. (t, known, at, refl);
  read = refl;
  write = refl;
  lines = omega arith;
  bad = search rules;
}

pub returns-in_err-gather-clause-run : goal.returns-in_err-gather-clause-run
returns-in_err-gather-clause-run g c = λ limits first t known at.
    let way = c.loop-end.invariant.underway limits first t known at in
    let p = err_from_is_err_and c.from_residual.result c.from_residual.ensures.1 in
    rw (p.1, p.2) (way.0, way.1, wants_to_hold limits c.args.strict c.loop-end.live c.loop-end.live way.0 c.loop-end.rest.now refl way.2, tt)

pub returns-in_err-run_held-clause-run : goal.returns-in_err-run_held-clause-run
returns-in_err-run_held-clause-run g c = λ limits first t known at.
    let way = c.loop-end.invariant.underway limits first t known at in
    let cut = feed_at c.loop-end.rest.now c.in-Some.end (sym c.in-Some.ensures.place) in
    let ran = c.in_err-run_held.ensures.run limits first way.0 way.2.before (way.2.line ++ take c.in-Some.end c.loop-end.rest.now) (lines (drop (c.in-Some.end + 1) c.loop-end.rest.now)) way.1
    (holds_line limits c.args.strict c.loop-end.live _ way.0 c.loop-end.rest.now (take c.in-Some.end c.loop-end.rest.now) (drop (c.in-Some.end + 1) c.loop-end.rest.now) cut.0 cut.1 refl refl refl refl refl way.2 (rw c.split_at.ensures.front at (c.in_ok-gather.ensures way.2.line way.2.behind.held))) in
    let p = err_from_is_err_and c.from_residual-in_err-run_held.result c.from_residual-in_err-run_held.ensures.1 in
    rw (p.1, p.2) ran

pub loop-end-preserved-in-Continue-branch-3 : goal.loop-end-preserved-in-Continue-branch-3
loop-end-preserved-in-Continue-branch-3 g c = record {
  underway = λ limits first t known at.
      let way = c.loop-end.invariant.underway limits first t known at in
      let cut = feed_at c.loop-end.rest.now c.in-Some.end (sym c.in-Some.ensures.place) in
      let ran = c.in_ok-run_held.ensures.run limits first way.0 way.2.before (way.2.line ++ take c.in-Some.end c.loop-end.rest.now) (lines (drop (c.in-Some.end + 1) c.loop-end.rest.now)) way.1
      (holds_line limits c.args.strict c.loop-end.live _ way.0 c.loop-end.rest.now (take c.in-Some.end c.loop-end.rest.now) (drop (c.in-Some.end + 1) c.loop-end.rest.now) cut.0 cut.1 refl refl refl refl refl way.2 (rw c.split_at.ensures.front at (c.in_ok-gather.ensures way.2.line way.2.behind.held))) in
      let later = c.in_ok-tell_waiting.ensures.run limits c.args.strict first ran.0 (drop (c.in-Some.end + 1) c.loop-end.rest.now) ran.1 (goes_behind limits c.args.strict c.loop-end.live c.run_held.new.live way.0 c.loop-end.rest.now (take c.in-Some.end c.loop-end.rest.now) (drop (c.in-Some.end + 1) c.loop-end.rest.now) ran.0 cut.0 cut.1 way.2 ran.2.1 ran.2.0) in
      rw c.split_at-in-Some.ensures.back (later.0, later.1, later.2.0, later.2.3 ∙ ran.2.3 ∙ way.3);
  read = search rules;
  write = search rules;
  lines = omega (arith, c.loop-end.invariant.lines, c.in_ok-run_held.ensures.lines, c.in_ok-tell_waiting.ensures.lines, c.split_at-in-Some.ensures.back_len);
  bad = search rules;
}

pub returns-in_err-tell_waiting-clause-run : goal.returns-in_err-tell_waiting-clause-run
returns-in_err-tell_waiting-clause-run g c = λ limits first t known at.
    let way = c.loop-end.invariant.underway limits first t known at in
    let cut = feed_at c.loop-end.rest.now c.in-Some.end (sym c.in-Some.ensures.place) in
    let ran = c.in_ok-run_held.ensures.run limits first way.0 way.2.before (way.2.line ++ take c.in-Some.end c.loop-end.rest.now) (lines (drop (c.in-Some.end + 1) c.loop-end.rest.now)) way.1
    (holds_line limits c.args.strict c.loop-end.live _ way.0 c.loop-end.rest.now (take c.in-Some.end c.loop-end.rest.now) (drop (c.in-Some.end + 1) c.loop-end.rest.now) cut.0 cut.1 refl refl refl refl refl way.2 (rw c.split_at.ensures.front at (c.in_ok-gather.ensures way.2.line way.2.behind.held))) in
    let p = err_from_is_err_and c.from_residual-in_err-tell_waiting.result c.from_residual-in_err-tell_waiting.ensures.1 in
    rw (p.1, p.2) (c.in_err-tell_waiting.ensures.run limits c.args.strict first ran.0 (drop (c.in-Some.end + 1) c.loop-end.rest.now) ran.1 (goes_behind limits c.args.strict c.loop-end.live c.run_held.new.live way.0 c.loop-end.rest.now (take c.in-Some.end c.loop-end.rest.now) (drop (c.in-Some.end + 1) c.loop-end.rest.now) ran.0 cut.0 cut.1 way.2 ran.2.1 ran.2.0))

pub loop-end-preserved : goal.loop-end-preserved
loop-end-preserved g c = record {
  underway = λ limits first t known at.
      let way = c.loop-end.invariant.underway limits first t known at in
      let cut = feed_at c.loop-end.rest.now c.in-Some.end (sym c.in-Some.ensures.place) in
      let ran = c.in_ok-run_held.ensures.run limits first way.0 way.2.before (way.2.line ++ take c.in-Some.end c.loop-end.rest.now) (lines (drop (c.in-Some.end + 1) c.loop-end.rest.now)) way.1
      (holds_line limits c.args.strict c.loop-end.live _ way.0 c.loop-end.rest.now (take c.in-Some.end c.loop-end.rest.now) (drop (c.in-Some.end + 1) c.loop-end.rest.now) cut.0 cut.1 refl refl refl refl refl way.2 (rw c.split_at.ensures.front at (c.in_ok-gather.ensures way.2.line way.2.behind.held))) in
      rw c.split_at-in-Some.ensures.back (ran.0, ran.1, goes_behind limits c.args.strict c.loop-end.live c.run_held.new.live way.0 c.loop-end.rest.now (take c.in-Some.end c.loop-end.rest.now) (drop (c.in-Some.end + 1) c.loop-end.rest.now) ran.0 cut.0 cut.1 way.2 ran.2.1 ran.2.0, ran.2.3 ∙ way.3);
  read = search rules;
  write = search rules;
  lines = omega (arith, c.loop-end.invariant.lines, c.in_ok-run_held.ensures.lines, c.split_at-in-Some.ensures.back_len);
  bad = search rules;
}

pub returns-in_err-gather-2-clause-run : goal.returns-in_err-gather-2-clause-run
returns-in_err-gather-2-clause-run g c = λ limits first t known at.
    let way = c.loop-end.invariant.underway limits first t known at in
    let p = err_from_is_err_and c.from_residual-in_err-gather-2.result c.from_residual-in_err-gather-2.ensures.1 in
    rw (p.1, p.2) (way.0, way.1, wants_to_hold limits c.args.strict c.loop-end.live c.loop-end.live way.0 c.loop-end.rest.now refl way.2, tt)

pub returns-clause-run : goal.returns-clause-run
returns-clause-run g c = λ limits first t known at.
    let way = c.loop-end.invariant.underway limits first t known at in
    (way.0, way.1, (holds_all limits c.args.strict c.loop-end.live _ way.0 c.loop-end.rest.now (feed_nowhere c.loop-end.rest.now (sym c.in_default.ensures.place)) refl refl refl refl refl way.2 (c.in_ok-gather-2.ensures way.2.line way.2.behind.held), way.3))
