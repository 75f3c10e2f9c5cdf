use Rattle.std.proofs.Common.{refl, sym, ◌∙◌}
use Rattle.std.specs.Prelude.{string_bytes}
use Rattle.std.proofs.lemmas.Result.{err_from_is_err_and}
use Rattle.pl_script.specs.Talk.{silence, telling}
use Rattle.pl_script.proofs.LiveSteps.{nothing_said}
use Rattle.pl_script.proofs.LiveRuns.{underway_first, parts_well, parts_cut, parts_unwritten}
use Rattle.pl_script.proofs.WhyBad.{handed_out, nothing_handed_out}
use Rattle.pl_script.proofs.live.run_live_explained.Goals as goal

pub returns-then-is_unwritable-clause-run : goal.returns-then-is_unwritable-clause-run
returns-then-is_unwritable-clause-run g c =
    let ran = c.converse-ended.ensures.run c.args.limits _ silence (nothing_said _) refl (underway_first c.args.limits c.args.strict c.new_live-live.result c.new_live-live.ensures.0 c.new_live-live.ensures.0.bad) in
    (ran.0, ran.1, parts_unwritten _ c.args.limits c.args.strict ran.0 (string_bytes c.converse-ended.new.live.out) c.converse-ended.result (sym c.is_unwritable.ensures ∙ c.if-is_unwritable.true) ran.2, nothing_handed_out ran.0 c.converse-ended.result c.args.why.now (sym c.is_unwritable.ensures ∙ c.if-is_unwritable.true))

pub returns-in_err-tell-clause-run : goal.returns-in_err-tell-clause-run
returns-in_err-tell-clause-run g c =
    let ran = c.converse-ended.ensures.run c.args.limits _ silence (nothing_said _) refl (underway_first c.args.limits c.args.strict c.new_live-live.result c.new_live-live.ensures.0 c.new_live-live.ensures.0.bad) in
    let p = err_from_is_err_and c.from_residual.result c.from_residual.ensures.1 in
    let part = c.in_err-tell.ensures.talk _ ran.0 ran.1 in
    rw (p.1, p.2, part.0)
    (_, part.1.3, parts_cut _ c.args.limits c.args.strict ran.0 (string_bytes c.converse-ended.new.live.out) c.converse-ended.result part.1.0 part.1.1 (sym c.is_unwritable.ensures ∙ c.if-is_unwritable.false) (sym c.as_bytes.ensures.value ∙ part.1.2) ran.2, refl)

pub returns-clause-run : goal.returns-clause-run
returns-clause-run g c =
    let ran = c.converse-ended.ensures.run c.args.limits _ silence (nothing_said _) refl (underway_first c.args.limits c.args.strict c.new_live-live.result c.new_live-live.ensures.0 c.new_live-live.ensures.0.bad) in (
      telling (string_bytes c.converse-ended.new.live.out) ran.0,
      rw c.as_bytes.ensures.value at (c.in_ok-tell.ensures.talk _ ran.0 ran.1),
      parts_well _ c.args.limits c.args.strict ran.0 (string_bytes c.converse-ended.new.live.out) c.converse-ended.result (sym c.is_unwritable.ensures ∙ c.if-is_unwritable.false) ran.2,
      handed_out (telling (string_bytes c.converse-ended.new.live.out) ran.0) c.converse-ended.result c.converse-ended.new.live.why _ _ ran.3 c.hand_out.ensures,
    )
