use Rattle.std.proofs.Common.{◌≡◌, ◌++◌, [], ◌∷◌, List, ℕ}
use Rattle.std.specs.Prelude.{codes}
use Rattle.std.proofs.lemmas.Result.{err_from_is_err_and}
use Rattle.pl_run.proofs.Fronts.{stops, goes_on, ends}
use Rattle.pl_run.proofs.program.write_version.Goals as goal

abbrev program : List ℕ
program = codes "piperun "

abbrev number : List ℕ
number = codes "0.8.0"

abbrev feed : List ℕ
feed = 10 ∷ []

pub returns-in_err-write_whole-clause-front : goal.returns-in_err-write_whole-clause-front
returns-in_err-write_whole-clause-front g c =
    let p = err_from_is_err_and c.from_residual.result c.from_residual.ensures.1 in
    rw p.1 (stops _ _ program (number ++ feed) c.in_err-write_whole.ensures.front)

pub returns-in_err-write_whole-2-clause-front : goal.returns-in_err-write_whole-2-clause-front
returns-in_err-write_whole-2-clause-front g c =
    let p = err_from_is_err_and c.from_residual-in_err-write_whole-2.result c.from_residual-in_err-write_whole-2.ensures.1 in
    let says : c.as_bytes.result.now ≡ number = c.as_bytes.ensures.value in
    rw p.1 (goes_on _ _ _ program (number ++ feed) c.in_ok-write_whole.ensures.front (stops _ _ number feed (rw says at c.in_err-write_whole-2.ensures.front)))

pub returns-clause-front : goal.returns-clause-front
returns-clause-front g c =
    let says : c.as_bytes.result.now ≡ number = c.as_bytes.ensures.value in
    let r = c.write_whole-3.result in
    ends _ _ _ program (number ++ feed) r c.in_ok-write_whole.ensures.front (ends _ _ _ number feed r (rw says at c.in_ok-write_whole-2.ensures.front) c.write_whole-3.ensures.front)
