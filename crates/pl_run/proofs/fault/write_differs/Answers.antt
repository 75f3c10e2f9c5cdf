use Rattle.std.proofs.Common.{◌≡◌, ◌++◌, [], ◌∷◌, ◌∙◌, List, ℕ}
use Rattle.std.specs.Prelude.{codes}
use Rattle.std.specs.Fmt.{decimal}
use Rattle.std.proofs.lemmas.Result.{err_from_is_err_and}
use Rattle.pl_run.proofs.Fronts.{stops, goes_on, ends}
use Rattle.pl_run.proofs.fault.write_differs.Goals as goal

abbrev program : List ℕ
program = codes "piperun: "

abbrev of : List ℕ
of = codes " of "

abbrev differ : List ℕ
differ = codes " replies differ" ++ 10 ∷ []

pub returns-in_err-write_whole-clause-front : goal.returns-in_err-write_whole-clause-front
returns-in_err-write_whole-clause-front g c =
    let p = err_from_is_err_and c.from_residual.result c.from_residual.ensures.1 in
    rw p.1 (stops _ _ program (decimal c.args.different ++ (of ++ (decimal c.args.compared ++ differ))) c.in_err-write_whole.ensures.front)

pub returns-in_err-write_whole-2-clause-front : goal.returns-in_err-write_whole-2-clause-front
returns-in_err-write_whole-2-clause-front g c =
    let p = err_from_is_err_and c.from_residual-in_err-write_whole-2.result c.from_residual-in_err-write_whole-2.ensures.1 in
    let first : c.as_bytes.result.now ≡ decimal c.args.different = c.as_bytes.ensures.value ∙ c.format.ensures.text in
    rw p.1 (goes_on _ _ _ program (decimal c.args.different ++ (of ++ (decimal c.args.compared ++ differ))) c.in_ok-write_whole.ensures.front
    (stops _ _ (decimal c.args.different) (of ++ (decimal c.args.compared ++ differ)) (rw first at c.in_err-write_whole-2.ensures.front)))

pub returns-in_err-write_whole-3-clause-front : goal.returns-in_err-write_whole-3-clause-front
returns-in_err-write_whole-3-clause-front g c =
    let p = err_from_is_err_and c.from_residual-in_err-write_whole-3.result c.from_residual-in_err-write_whole-3.ensures.1 in
    let first : c.as_bytes.result.now ≡ decimal c.args.different = c.as_bytes.ensures.value ∙ c.format.ensures.text in
    rw p.1 (goes_on _ _ _ program (decimal c.args.different ++ (of ++ (decimal c.args.compared ++ differ))) c.in_ok-write_whole.ensures.front
    (goes_on _ _ _ (decimal c.args.different) (of ++ (decimal c.args.compared ++ differ)) (rw first at c.in_ok-write_whole-2.ensures.front)
    (stops _ _ of (decimal c.args.compared ++ differ) c.in_err-write_whole-3.ensures.front)))

pub returns-in_err-write_whole-4-clause-front : goal.returns-in_err-write_whole-4-clause-front
returns-in_err-write_whole-4-clause-front g c =
    let p = err_from_is_err_and c.from_residual-in_err-write_whole-4.result c.from_residual-in_err-write_whole-4.ensures.1 in
    let first : c.as_bytes.result.now ≡ decimal c.args.different = c.as_bytes.ensures.value ∙ c.format.ensures.text in
    let second : c.as_bytes-2.result.now ≡ decimal c.args.compared = c.as_bytes-2.ensures.value ∙ c.format-2.ensures.text in
    rw p.1 (goes_on _ _ _ program (decimal c.args.different ++ (of ++ (decimal c.args.compared ++ differ))) c.in_ok-write_whole.ensures.front
    (goes_on _ _ _ (decimal c.args.different) (of ++ (decimal c.args.compared ++ differ)) (rw first at c.in_ok-write_whole-2.ensures.front)
    (goes_on _ _ _ of (decimal c.args.compared ++ differ) c.in_ok-write_whole-3.ensures.front
    (stops _ _ (decimal c.args.compared) differ (rw second at c.in_err-write_whole-4.ensures.front)))))

pub returns-clause-front : goal.returns-clause-front
returns-clause-front g c =
    let first : c.as_bytes.result.now ≡ decimal c.args.different = c.as_bytes.ensures.value ∙ c.format.ensures.text in
    let second : c.as_bytes-2.result.now ≡ decimal c.args.compared = c.as_bytes-2.ensures.value ∙ c.format-2.ensures.text in
    let r = c.write_whole-5.result in
    ends _ _ _ program (decimal c.args.different ++ (of ++ (decimal c.args.compared ++ differ))) r c.in_ok-write_whole.ensures.front
    (ends _ _ _ (decimal c.args.different) (of ++ (decimal c.args.compared ++ differ)) r (rw first at c.in_ok-write_whole-2.ensures.front)
    (ends _ _ _ of (decimal c.args.compared ++ differ) r c.in_ok-write_whole-3.ensures.front
    (ends _ _ _ (decimal c.args.compared) differ r (rw second at c.in_ok-write_whole-4.ensures.front) c.write_whole-5.ensures.front)))
