use Rattle.std.proofs.Common.{◌≡◌, ◌++◌, [], ◌∷◌, ◌∙◌, List, ℕ}
use Rattle.std.specs.Prelude.{codes}
use Rattle.std.specs.Fmt.{decimal}
use Rattle.std.proofs.lemmas.Result.{err_from_is_err_and}
use Rattle.pl_run.specs.Fault.{line_of_why}
use Rattle.pl_run.proofs.Fronts.{stops, goes_on, ends}
use Rattle.pl_run.proofs.fault.write_bad_line.Goals as goal

abbrev line : List ℕ
line = codes "piperun: line "

abbrev rest : List ℕ
rest = codes ": not a command" ++ 10 ∷ []

pub returns-in_err-write_whole-clause-front : goal.returns-in_err-write_whole-clause-front
returns-in_err-write_whole-clause-front g c =
    let p = err_from_is_err_and c.from_residual.result c.from_residual.ensures.1 in
    rw p.1 (stops _ _ line (decimal c.args.number ++ (rest ++ line_of_why c.args.number c.args.why.now)) c.in_err-write_whole.ensures.front)

pub returns-in_err-write_whole-2-clause-front : goal.returns-in_err-write_whole-2-clause-front
returns-in_err-write_whole-2-clause-front g c =
    let p = err_from_is_err_and c.from_residual-in_err-write_whole-2.result c.from_residual-in_err-write_whole-2.ensures.1 in
    let digits : c.as_bytes.result.now ≡ decimal c.args.number = c.as_bytes.ensures.value ∙ c.format.ensures.text in
    rw p.1 (goes_on _ _ _ line (decimal c.args.number ++ (rest ++ line_of_why c.args.number c.args.why.now)) c.in_ok-write_whole.ensures.front
    (stops _ _ (decimal c.args.number) (rest ++ line_of_why c.args.number c.args.why.now) (rw digits at c.in_err-write_whole-2.ensures.front)))

pub returns-in_err-write_whole-3-clause-front : goal.returns-in_err-write_whole-3-clause-front
returns-in_err-write_whole-3-clause-front g c =
    let p = err_from_is_err_and c.from_residual-in_err-write_whole-3.result c.from_residual-in_err-write_whole-3.ensures.1 in
    let digits : c.as_bytes.result.now ≡ decimal c.args.number = c.as_bytes.ensures.value ∙ c.format.ensures.text in
    rw p.1 (goes_on _ _ _ line (decimal c.args.number ++ (rest ++ line_of_why c.args.number c.args.why.now)) c.in_ok-write_whole.ensures.front
    (goes_on _ _ _ (decimal c.args.number) (rest ++ line_of_why c.args.number c.args.why.now) (rw digits at c.in_ok-write_whole-2.ensures.front)
    (stops _ _ rest (line_of_why c.args.number c.args.why.now) c.in_err-write_whole-3.ensures.front)))

pub returns-clause-front : goal.returns-clause-front
returns-clause-front g c =
    let digits : c.as_bytes.result.now ≡ decimal c.args.number = c.as_bytes.ensures.value ∙ c.format.ensures.text in
    let r = c.write_why.result in
    ends _ _ _ line (decimal c.args.number ++ (rest ++ line_of_why c.args.number c.args.why.now)) r c.in_ok-write_whole.ensures.front
    (ends _ _ _ (decimal c.args.number) (rest ++ line_of_why c.args.number c.args.why.now) r (rw digits at c.in_ok-write_whole-2.ensures.front)
    (ends _ _ _ rest (line_of_why c.args.number c.args.why.now) r c.in_ok-write_whole-3.ensures.front c.write_why.ensures.front))
