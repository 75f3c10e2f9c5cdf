use Rattle.std.proofs.Common.{◌≡◌, ◌++◌, [], ◌∷◌, ◌∙◌, List, ℕ}
use Rattle.std.specs.Prelude.{codes}
use Rattle.std.specs.Fmt.{decimal}
use Rattle.std.proofs.lemmas.Result.{err_from_is_err_and}
use Rattle.pl_run.proofs.Fronts.{stops, ends}
use Rattle.pl_run.proofs.program.write_same.Goals as goal

abbrev same : List ℕ
same = codes " replies as recorded" ++ 10 ∷ []

pub returns-in_err-write_whole-clause-front : goal.returns-in_err-write_whole-clause-front
returns-in_err-write_whole-clause-front g c =
    let p = err_from_is_err_and c.from_residual.result c.from_residual.ensures.1 in
    let digits : c.as_bytes.result.now ≡ decimal c.args.compared = c.as_bytes.ensures.value ∙ c.format.ensures.text in
    rw p.1 (stops _ _ (decimal c.args.compared) same (rw digits at c.in_err-write_whole.ensures.front))

pub returns-clause-front : goal.returns-clause-front
returns-clause-front g c =
    let digits : c.as_bytes.result.now ≡ decimal c.args.compared = c.as_bytes.ensures.value ∙ c.format.ensures.text in
    ends _ _ _ (decimal c.args.compared) same c.write_whole-2.result (rw digits at c.in_ok-write_whole.ensures.front) c.write_whole-2.ensures.front
