use Rattle.std.proofs.Common.{◌∙◌, Err, ap}
use Rattle.std.proofs.lemmas.Result.{err_from_is_err_and}
use Rattle.pl_run.proofs.Rows.{run_refused, check_refused, live_refused, run_asked, check_asked, live_asked}
use Rattle.pl_run.proofs.Checks.{not_checked}
use Rattle.pl_run.proofs.Unread.{not_run}
use Rattle.pl_run.proofs.program.run.Goals as goal

pub returns-in_err-live-clause-run : goal.returns-in_err-live-clause-run
returns-in_err-live-clause-run g c = λ explain limits bytes asked.
    let p = err_from_is_err_and c.from_residual.result c.from_residual.ensures.1 in
    let memory = run_refused _ explain limits bytes c.in_err-live.field-0.0 asked c.in_err-live.ensures in
    rw (p.1 ∙ ap Err (p.2 ∙ memory)) (not_run explain limits _ _)

pub returns-in_err-live-clause-check : goal.returns-in_err-live-clause-check
returns-in_err-live-clause-check g c = λ every explain limits bytes asked.
    let p = err_from_is_err_and c.from_residual.result c.from_residual.ensures.1 in
    let memory = check_refused _ every explain limits bytes c.in_err-live.field-0.0 asked c.in_err-live.ensures in
    rw (p.1 ∙ ap Err (p.2 ∙ memory)) (not_checked every explain limits _ _)

pub returns-in_err-check_from-in-Check-default-default-default-default-None-clause-check : goal.returns-in_err-check_from-in-Check-default-default-default-default-None-clause-check
returns-in_err-check_from-in-Check-default-default-default-default-None-clause-check g c = λ every explain limits bytes asked.
    let asks = c.in-Check-default-default-default-default-None in
    let residual = c.from_residual-in_err-check_from-in-Check-default-default-default-default-None in
    let p = err_from_is_err_and residual.result residual.ensures.1 in
    let same = check_asked _ every asks.all explain asks.explain limits asks.limits bytes _ _ asked (rw asks.is at c.in_ok-live.ensures) in
    rw (p.1 ∙ ap Err p.2, ← same.0, ← same.1, ← same.2) c.in_err-check_from-in-Check-default-default-default-default-None.ensures.check

pub returns-in_ok-check_from-in-Check-default-default-default-default-None-clause-check : goal.returns-in_ok-check_from-in-Check-default-default-default-default-None-clause-check
returns-in_ok-check_from-in-Check-default-default-default-default-None-clause-check g c = λ every explain limits bytes asked.
    let asks = c.in-Check-default-default-default-default-None in
    let same = check_asked _ every asks.all explain asks.explain limits asks.limits bytes _ _ asked (rw asks.is at c.in_ok-live.ensures) in
    rw (← same.0, ← same.1, ← same.2) c.in_ok-check_from-in-Check-default-default-default-default-None.ensures.check

pub returns-in_err-live-clause-live : goal.returns-in_err-live-clause-live
returns-in_err-live-clause-live g c = λ strict explain limits bytes asked.
    let p = err_from_is_err_and c.from_residual.result c.from_residual.ensures.1 in
    let memory = live_refused _ strict explain limits bytes c.in_err-live.field-0.0 asked c.in_err-live.ensures in
    rw (p.1 ∙ ap Err (p.2 ∙ memory)) tt

pub returns-in-Live-clause-live : goal.returns-in-Live-clause-live
returns-in-Live-clause-live g c = λ strict explain limits bytes asked. live_asked _ strict explain limits bytes c.in-Live.live asked (rw c.in-Live.is at c.in_ok-live.ensures)

pub returns-in_err-run_from-in-Run-default-default-default-None-clause-run : goal.returns-in_err-run_from-in-Run-default-default-default-None-clause-run
returns-in_err-run_from-in-Run-default-default-default-None-clause-run g c = λ explain limits bytes asked.
    let asks = c.in-Run-default-default-default-None in
    let residual = c.from_residual-in_err-run_from-in-Run-default-default-default-None in
    let p = err_from_is_err_and residual.result residual.ensures.1 in
    let same = run_asked _ explain asks.explain limits asks.limits bytes _ _ asked (rw asks.is at c.in_ok-live.ensures) in
    rw (p.1 ∙ ap Err p.2, ← same.0, ← same.1) c.in_err-run_from-in-Run-default-default-default-None.ensures.run

pub returns-in_ok-run_from-in-Run-default-default-default-None-clause-run : goal.returns-in_ok-run_from-in-Run-default-default-default-None-clause-run
returns-in_ok-run_from-in-Run-default-default-default-None-clause-run g c = λ explain limits bytes asked.
    let asks = c.in-Run-default-default-default-None in
    let same = run_asked _ explain asks.explain limits asks.limits bytes _ _ asked (rw asks.is at c.in_ok-live.ensures) in
    rw (← same.0, ← same.1) c.in_ok-run_from-in-Run-default-default-default-None.ensures.run
