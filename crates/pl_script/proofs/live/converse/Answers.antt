use Rattle.std.proofs.Common.{◌≡◌, ◌++◌, ◌∷◌, [], length, take, refl, subst, ◌∙◌, ap, arith, rules}
use Rattle.std.specs.Prelude.{◌==◌, Ok, Err}
use Rattle.std.proofs.lemmas.List.{take-append-le}
use Rattle.std.proofs.lemmas.Result.{err_from_is_err_and}
use Rattle.std.proofs.lemmas.Grind.{common_steps}
use Rattle.pl_script.specs.Talk.{now}
use Rattle.pl_script.specs.Live.{most_live_reads}
use Rattle.pl_script.specs.LiveSteps.{IsUnderway}
use Rattle.pl_script.proofs.LiveSteps.{heard_so}
use Rattle.pl_script.proofs.LiveRuns.{wants_to_hold, hears, hears_end, hears_nothing, ends_unread, ends_endless, one_more}
use Rattle.pl_script.proofs.live.converse.Goals as goal

pub returns-in_err-chunk-clause-run : goal.returns-in_err-chunk-clause-run
returns-in_err-chunk-clause-run g c = λ limits first t known silent at.
    let p = err_from_is_err_and c.from_residual.result c.from_residual.ensures.1 in
    rw (p.1, p.2) (t, known, wants_to_hold limits c.args.strict c.args.live.now c.args.live.now t [] refl at, tt)

pub returns-in_err-tell_waiting-clause-run : goal.returns-in_err-tell_waiting-clause-run
returns-in_err-tell_waiting-clause-run g c = λ limits first t known silent at.
    let way = c.loop-i.invariant.underway limits first t known silent at in
    let p = err_from_is_err_and c.from_residual-in_err-tell_waiting.result c.from_residual-in_err-tell_waiting.ensures.1 in
    rw (p.1, p.2) (c.in_err-tell_waiting.ensures.run limits c.args.strict first way.0 [] way.1 way.2)

pub returns-in_default-clause-run : goal.returns-in_default-clause-run
returns-in_default-clause-run g c = λ limits first t known silent at.
    let way = c.loop-i.invariant.underway limits first t known silent at in
    let said = c.in_ok-tell_waiting.ensures.run limits c.args.strict first way.0 [] way.1 way.2 in (
      record said.0 { moments = said.0.moments ++ now said.0 ∷ [] },
      heard_so first _ _ said.0 said.1 (Err tt) c.read.new.buf c.in_default.ensures.side,
      ends_unread limits c.args.strict c.tell_waiting.new.live (record said.0 { moments = said.0.moments ++ now said.0 ∷ [] }) (hears_nothing limits c.args.strict c.tell_waiting.new.live said.0 said.2.0 said.0.is_over said.2.1 said.2.2),
      tt,
    )

pub returns-then-count-eq0-clause-run : goal.returns-then-count-eq0-clause-run
returns-then-count-eq0-clause-run g c = λ limits first t known silent at.
    let way = c.loop-i.invariant.underway limits first t known silent at in
    let said = c.in_ok-tell_waiting.ensures.run limits c.args.strict first way.0 [] way.1 way.2 in
    c.finish.ensures.run limits first _ (heard_so first _ _ said.0 said.1 (Ok c.in-Ok.count) c.read.new.buf c.in-Ok.ensures.side) (ap (λ n. n == 0) c.if-count-eq0.true)
    (hears_end limits c.args.strict c.tell_waiting.new.live said.0 said.2.0 c.in-Ok.count c.read.new.buf c.if-count-eq0.true said.2.1 said.2.2)

pub returns-in_err-take_in-clause-run : goal.returns-in_err-take_in-clause-run
returns-in_err-take_in-clause-run g c = λ limits first t known silent at.
    let way = c.loop-i.invariant.underway limits first t known silent at in
    let said = c.in_ok-tell_waiting.ensures.run limits c.args.strict first way.0 [] way.1 way.2 in
    let p = err_from_is_err_and c.from_residual-in_err-take_in.result c.from_residual-in_err-take_in.ensures.1 in
    rw (p.1, p.2)
    (c.in_err-take_in.ensures.run limits first _ (heard_so first _ _ said.0 said.1 (Ok c.in-Ok.count) c.read.new.buf c.in-Ok.ensures.side)
    (rw c.deref.ensures.value (subst (λ x. IsUnderway {A = g.row.A.Denot} limits c.args.strict c.tell_waiting.new.live (record said.0 { heard = said.0.heard ++ take c.in-Ok.count c.read.new.buf; moments = said.0.moments ++ now said.0 ∷ []; is_over = c.in-Ok.count == 0 }) x) (first_of (grind (arith, common_steps, c.in-Ok.ensures.bound), search (rules, take-append-le))) (hears limits c.args.strict c.tell_waiting.new.live said.0 said.2.0 (take c.in-Ok.count c.read.new.buf) (c.in-Ok.count == 0) said.2.1 said.2.2))))

pub loop-i-init : goal.loop-i-init
loop-i-init g c = record {
  underway = λ limits first t known silent at. (t, known, at, ap length silent);
  chunk = search rules;
  read = refl;
  write = refl;
  lines = omega arith;
  bad = omega arith;
}

pub loop-i-preserved : goal.loop-i-preserved
loop-i-preserved g c = record {
  underway = λ limits first t known silent at.
      let way = c.loop-i.invariant.underway limits first t known silent at in
      let said = c.in_ok-tell_waiting.ensures.run limits c.args.strict first way.0 [] way.1 way.2 in
      let took = c.in_ok-take_in.ensures.run limits first _ (heard_so first _ _ said.0 said.1 (Ok c.in-Ok.count) c.read.new.buf c.in-Ok.ensures.side)
      (rw c.deref.ensures.value (subst (λ x. IsUnderway {A = g.row.A.Denot} limits c.args.strict c.tell_waiting.new.live (record said.0 { heard = said.0.heard ++ take c.in-Ok.count c.read.new.buf; moments = said.0.moments ++ now said.0 ∷ []; is_over = c.in-Ok.count == 0 }) x) (first_of (grind (arith, common_steps, c.in-Ok.ensures.bound), search (rules, take-append-le))) (hears limits c.args.strict c.tell_waiting.new.live said.0 said.2.0 (take c.in-Ok.count c.read.new.buf) (c.in-Ok.count == 0) said.2.1 said.2.2))) in
      (took.0, took.1, took.2.0, one_more way.0.moments said.0.moments took.0.moments (now said.0) c.loop-i._i way.3 said.2.3 took.2.1);
  chunk = search rules;
  read = search rules;
  write = search rules;
  lines = grind (arith, common_steps);
  bad = search rules;
}

pub returns-clause-run : goal.returns-clause-run
returns-clause-run g c = λ limits first t known silent at.
    let way = c.loop-i.invariant.underway limits first t known silent at in
    let all : c.loop-i._i ≡ most_live_reads = search rules in
    (way.0, way.1, ends_endless limits c.args.strict c.loop-i.live way.0 way.2 (way.3 ∙ all), tt)
