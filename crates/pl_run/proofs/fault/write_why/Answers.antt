use Rattle.std.proofs.Common.{◌≡◌, ◌++◌, ◌∙◌, List, ℕ}
use Rattle.std.specs.Prelude.{codes}
use Rattle.std.specs.Fmt.{decimal}
use Rattle.std.proofs.lemmas.Result.{err_from_is_err_and}
use Rattle.pl_lines.specs.declared.explain.Explanation.{Explanation}
use Rattle.pl_run.specs.Fault.{text_of_reason}
use Rattle.pl_run.proofs.Fronts.{stops, goes_on, ends}
use Rattle.pl_run.proofs.fault.write_why.Goals as goal

abbrev line : List ℕ
line = codes "line "

abbrev word : List ℕ
word = codes ", word "

abbrev colon : List ℕ
colon = codes ": "

-- what comes behind each piece but the last two
abbrev behind_line : ℕ → Explanation → List ℕ
behind_line n why = decimal n ++ (word ++ (decimal why.word ++ (colon ++ text_of_reason why.reason)))

abbrev behind_number : Explanation → List ℕ
behind_number why = word ++ (decimal why.word ++ (colon ++ text_of_reason why.reason))

abbrev behind_word : Explanation → List ℕ
behind_word why = decimal why.word ++ (colon ++ text_of_reason why.reason)

pub returns-in_err-write_whole-clause-front : goal.returns-in_err-write_whole-clause-front
returns-in_err-write_whole-clause-front g c =
    let p = err_from_is_err_and c.from_residual.result c.from_residual.ensures.1 in
    rw (c.in-Some.is, p.1)
    (stops _ _ line (behind_line c.args.line c.in-Some.why) c.in_err-write_whole.ensures.front)

pub returns-in_err-write_whole-2-clause-front : goal.returns-in_err-write_whole-2-clause-front
returns-in_err-write_whole-2-clause-front g c =
    let p = err_from_is_err_and c.from_residual-in_err-write_whole-2.result c.from_residual-in_err-write_whole-2.ensures.1 in
    let number : c.as_bytes.result.now ≡ decimal c.args.line = c.as_bytes.ensures.value ∙ c.format.ensures.text in
    rw (c.in-Some.is, p.1)
    (goes_on _ _ _ line (behind_line c.args.line c.in-Some.why) c.in_ok-write_whole.ensures.front
    (stops _ _ (decimal c.args.line) (behind_number c.in-Some.why) (rw number at c.in_err-write_whole-2.ensures.front)))

pub returns-in_err-write_whole-3-clause-front : goal.returns-in_err-write_whole-3-clause-front
returns-in_err-write_whole-3-clause-front g c =
    let p = err_from_is_err_and c.from_residual-in_err-write_whole-3.result c.from_residual-in_err-write_whole-3.ensures.1 in
    let number : c.as_bytes.result.now ≡ decimal c.args.line = c.as_bytes.ensures.value ∙ c.format.ensures.text in
    rw (c.in-Some.is, p.1)
    (goes_on _ _ _ line (behind_line c.args.line c.in-Some.why) c.in_ok-write_whole.ensures.front
    (goes_on _ _ _ (decimal c.args.line) (behind_number c.in-Some.why) (rw number at c.in_ok-write_whole-2.ensures.front)
    (stops _ _ word (behind_word c.in-Some.why) c.in_err-write_whole-3.ensures.front)))

pub returns-in_err-write_whole-4-clause-front : goal.returns-in_err-write_whole-4-clause-front
returns-in_err-write_whole-4-clause-front g c =
    let p = err_from_is_err_and c.from_residual-in_err-write_whole-4.result c.from_residual-in_err-write_whole-4.ensures.1 in
    let number : c.as_bytes.result.now ≡ decimal c.args.line = c.as_bytes.ensures.value ∙ c.format.ensures.text in
    let place : c.as_bytes-2.result.now ≡ decimal c.in-Some.why.word = c.as_bytes-2.ensures.value ∙ c.format-2.ensures.text in
    rw (c.in-Some.is, p.1)
    (goes_on _ _ _ line (behind_line c.args.line c.in-Some.why) c.in_ok-write_whole.ensures.front
    (goes_on _ _ _ (decimal c.args.line) (behind_number c.in-Some.why) (rw number at c.in_ok-write_whole-2.ensures.front)
    (goes_on _ _ _ word (behind_word c.in-Some.why) c.in_ok-write_whole-3.ensures.front
    (stops _ _ (decimal c.in-Some.why.word) (colon ++ text_of_reason c.in-Some.why.reason) (rw place at c.in_err-write_whole-4.ensures.front)))))

pub returns-in_err-write_whole-5-clause-front : goal.returns-in_err-write_whole-5-clause-front
returns-in_err-write_whole-5-clause-front g c =
    let p = err_from_is_err_and c.from_residual-in_err-write_whole-5.result c.from_residual-in_err-write_whole-5.ensures.1 in
    let number : c.as_bytes.result.now ≡ decimal c.args.line = c.as_bytes.ensures.value ∙ c.format.ensures.text in
    let place : c.as_bytes-2.result.now ≡ decimal c.in-Some.why.word = c.as_bytes-2.ensures.value ∙ c.format-2.ensures.text in
    rw (c.in-Some.is, p.1)
    (goes_on _ _ _ line (behind_line c.args.line c.in-Some.why) c.in_ok-write_whole.ensures.front
    (goes_on _ _ _ (decimal c.args.line) (behind_number c.in-Some.why) (rw number at c.in_ok-write_whole-2.ensures.front)
    (goes_on _ _ _ word (behind_word c.in-Some.why) c.in_ok-write_whole-3.ensures.front
    (goes_on _ _ _ (decimal c.in-Some.why.word) (colon ++ text_of_reason c.in-Some.why.reason) (rw place at c.in_ok-write_whole-4.ensures.front)
    (stops _ _ colon (text_of_reason c.in-Some.why.reason) c.in_err-write_whole-5.ensures.front)))))

pub returns-clause-front : goal.returns-clause-front
returns-clause-front g c =
    let number : c.as_bytes.result.now ≡ decimal c.args.line = c.as_bytes.ensures.value ∙ c.format.ensures.text in
    let place : c.as_bytes-2.result.now ≡ decimal c.in-Some.why.word = c.as_bytes-2.ensures.value ∙ c.format-2.ensures.text in
    let r = c.write_reason.result in
    rw c.in-Some.is
    (ends _ _ _ line (behind_line c.args.line c.in-Some.why) r c.in_ok-write_whole.ensures.front
    (ends _ _ _ (decimal c.args.line) (behind_number c.in-Some.why) r (rw number at c.in_ok-write_whole-2.ensures.front)
    (ends _ _ _ word (behind_word c.in-Some.why) r c.in_ok-write_whole-3.ensures.front
    (ends _ _ _ (decimal c.in-Some.why.word) (colon ++ text_of_reason c.in-Some.why.reason) r (rw place at c.in_ok-write_whole-4.ensures.front)
    (ends _ _ _ colon (text_of_reason c.in-Some.why.reason) r c.in_ok-write_whole-5.ensures.front c.write_reason.ensures.front)))))
