use Rattle.std.proofs.Common.{refl, ◌∙◌}
use Rattle.std.proofs.lemmas.Result.{err_from_is_err_and}
use Rattle.pl_script.specs.Talk.{refusing}
use Rattle.pl_script.proofs.LiveSteps.{refused_so}
use Rattle.pl_script.proofs.LiveRuns.{wants, passes, stops, stops_why, refuses_line}
use Rattle.pl_script.proofs.live.run_held.Goals as goal

pub returns-in_err-is_good-clause-run : goal.returns-in_err-is_good-clause-run
returns-in_err-is_good-clause-run g c = λ limits first t ls l others known at.
    let p = err_from_is_err_and c.from_residual.result c.from_residual.ensures.1 in
    rw (p.1, p.2) (t, known, wants limits c.args.strict c.args.live.now c.take_line.new.live t ls l others (c.in_err-is_good.ensures.taken limits t.written t.refused ls l at.behind) at, tt)

pub returns-then-is_good-clause-run : goal.returns-then-is_good-clause-run
returns-then-is_good-clause-run g c = λ limits first t ls l others known at.
    let is = c.if-is_good.true in
    (t, known, (passes limits c.args.strict c.args.live.now c.take_line.new.live t ls l others at (rw is at (c.in_ok-is_good.ensures.taken limits t.written t.refused ls l at.behind)) (c.in_ok-is_good.ensures.good is), refl, refl, refl))

pub returns-then-strict-clause-run : goal.returns-then-strict-clause-run
returns-then-strict-clause-run g c = λ limits first t ls l others known at.
    let is = c.if-is_good.false in
    let next = rw is at (c.in_ok-is_good.ensures.taken limits t.written t.refused ls l at.behind) in (
      t,
      known,
      stops limits c.args.strict c.args.live.now c.take_line.new.live t ls l others c.if-strict.true at next (c.in_ok-is_good.ensures.silent is),
      stops_why limits c.args.strict c.args.live.now c.take_line.new.live t ls l others _ _ at next (c.in_ok-is_good.ensures.why is),
    )

pub returns-in_err-push_bad_answer-clause-run : goal.returns-in_err-push_bad_answer-clause-run
returns-in_err-push_bad_answer-clause-run g c = λ limits first t ls l others known at.
    let is = c.if-is_good.false in
    let p = err_from_is_err_and c.from_residual-in_err-push_bad_answer.result c.from_residual-in_err-push_bad_answer.ensures.1 in
    rw (p.1, p.2) (t, known, wants limits c.args.strict c.args.live.now (record c.take_line.new.live { out = c.push_bad_answer.new.out }) t ls l others (c.in_err-push_bad_answer.ensures.undone ∙ c.in_ok-is_good.ensures.silent is) at, tt)

pub returns-clause-run : goal.returns-clause-run
returns-clause-run g c = λ limits first t ls l others known at.
    let is = c.if-is_good.false in (
      refusing c.take_line.new.live.lines t,
      refused_so first _ _ t known c.take_line.new.live.lines c.refuse.ensures.side,
      (
        refuses_line limits c.args.strict c.args.live.now c.take_line.new.live _ t ls l others c.if-strict.false at (rw is at (c.in_ok-is_good.ensures.taken limits t.written t.refused ls l at.behind))
            refl refl refl refl refl refl c.in_ok-push_bad_answer.ensures.done,
        refl,
        refl,
        refl,
      ),
    )
