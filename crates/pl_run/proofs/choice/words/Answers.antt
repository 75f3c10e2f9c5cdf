use Rattle.std.proofs.Common.{◌≡◌, []}
use Rattle.clap.specs.Words.{HasKind}
use Rattle.pl_run.proofs.Rows.{one_text-rows_of, first_value-rows_of, of_faults, told_alike, taken, refused}
use Rattle.pl_run.proofs.choice.words.Goals as goal

pub returns-in-Ok : goal.returns-in-Ok
returns-in-Ok c =
    let clap = c.in-Ok in
    taken _ _ _
    (told_alike _ _ _ _ (λ name. one_text-rows_of _ _ clap.matches name c.in_ok-command.ensures clap.ensures.matches) (λ name. first_value-rows_of _ _ clap.matches name c.in_ok-command.ensures clap.ensures.matches))
    (of_faults (λ kinds. kinds ≡ []) _ _ c.in_ok-command.ensures clap.ensures.kinds)
    c.run_of.ensures

pub returns-in-Err : goal.returns-in-Err
returns-in-Err c =
    refused _ _ _ (of_faults (λ kinds. HasKind kinds c.in-Err.error) _ _ c.in_ok-command.ensures c.in-Err.ensures.kinds) c.refusal.ensures
