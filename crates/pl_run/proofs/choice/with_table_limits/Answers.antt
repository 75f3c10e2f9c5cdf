use Rattle.std.proofs.Common.{◌≡◌, ◌∙◌, ap, subst}
use Rattle.std.specs.Prelude.{IfOk, codes}
use Rattle.clap.specs.Words.{App, with_rule, app_of}
use Rattle.pl_run.specs.Words.{valued_rule}
use Rattle.pl_run.proofs.choice.with_table_limits.Goals as goal

pub returns : goal.returns
returns c =
    let two = c.in_ok-command-2.ensures ∙ ap (λ (app : App). with_rule app (valued_rule (codes "descriptions-max"))) c.in_ok-command.ensures in
    subst (λ (app : App). IfOk c.with_option-3.result (λ made. app_of made ≡ with_rule app (valued_rule (codes "processes-max")))) two c.with_option-3.ensures
