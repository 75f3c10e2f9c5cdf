use Rattle.std.proofs.Common.{◌≡◌, ◌∙◌, ap, subst}
use Rattle.std.specs.Prelude.{IfOk, codes}
use Rattle.clap.specs.Words.{App, with_rule, app_of}
use Rattle.pl_run.specs.Words.{valued_rule, with_table_limits}
use Rattle.pl_run.proofs.choice.with_limits.Goals as goal

pub returns : goal.returns
returns c =
    let two = c.in_ok-command-2.ensures ∙ ap (λ (app : App). with_rule app (valued_rule (codes "names-max"))) c.in_ok-command.ensures in
    let three = c.in_ok-command-3.ensures ∙ ap (λ (app : App). with_rule app (valued_rule (codes "waiting-max"))) two in
    let four = c.in_ok-command-4.ensures ∙ ap (λ (app : App). with_rule app (valued_rule (codes "waiting-of-each"))) three in
    let five = c.in_ok-command-5.ensures ∙ ap (λ (app : App). with_rule app (valued_rule (codes "capacity-max"))) four in
    let six = c.in_ok-command-6.ensures ∙ ap (λ (app : App). with_table_limits app) five in
    subst (λ (app : App). IfOk c.with_option-6.result (λ made. app_of made ≡ with_rule app (valued_rule (codes "spare-max")))) six c.with_option-6.ensures
