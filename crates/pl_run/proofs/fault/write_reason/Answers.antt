use Rattle.std.proofs.Common.{◌≡◌, ◌++◌, [], ◌∷◌, ◌∙◌, ap, List, ℕ}
use Rattle.std.proofs.lemmas.Result.{err_from_is_err_and}
use Rattle.pl_words.specs.Reasons.{reason_text}
use Rattle.pl_run.proofs.Fronts.{stops, goes_on, ends}
use Rattle.pl_run.proofs.fault.write_reason.Goals as goal

abbrev feed : List ℕ
feed = 10 ∷ []

pub returns-in_err-write_whole-clause-front : goal.returns-in_err-write_whole-clause-front
returns-in_err-write_whole-clause-front g c =
    let p = err_from_is_err_and c.from_residual.result c.from_residual.ensures.1 in
    let one : c.as_bytes.result.now ≡ (reason_text c.args.reason.now).0 = c.as_bytes.ensures.value ∙ ap (λ (x : List ℕ × List ℕ). x.0) c.text.ensures in
    rw p.1 (stops _ _ (reason_text c.args.reason.now).0 ((reason_text c.args.reason.now).1 ++ feed) (rw one at c.in_err-write_whole.ensures.front))

pub returns-in_err-write_whole-2-clause-front : goal.returns-in_err-write_whole-2-clause-front
returns-in_err-write_whole-2-clause-front g c =
    let p = err_from_is_err_and c.from_residual-in_err-write_whole-2.result c.from_residual-in_err-write_whole-2.ensures.1 in
    let one : c.as_bytes.result.now ≡ (reason_text c.args.reason.now).0 = c.as_bytes.ensures.value ∙ ap (λ (x : List ℕ × List ℕ). x.0) c.text.ensures in
    let two : c.as_bytes-2.result.now ≡ (reason_text c.args.reason.now).1 = c.as_bytes-2.ensures.value ∙ ap (λ (x : List ℕ × List ℕ). x.1) c.text.ensures in
    rw p.1 (goes_on _ _ _ (reason_text c.args.reason.now).0 ((reason_text c.args.reason.now).1 ++ feed) (rw one at c.in_ok-write_whole.ensures.front)
    (stops _ _ (reason_text c.args.reason.now).1 feed (rw two at c.in_err-write_whole-2.ensures.front)))

pub returns-clause-front : goal.returns-clause-front
returns-clause-front g c =
    let one : c.as_bytes.result.now ≡ (reason_text c.args.reason.now).0 = c.as_bytes.ensures.value ∙ ap (λ (x : List ℕ × List ℕ). x.0) c.text.ensures in
    let two : c.as_bytes-2.result.now ≡ (reason_text c.args.reason.now).1 = c.as_bytes-2.ensures.value ∙ ap (λ (x : List ℕ × List ℕ). x.1) c.text.ensures in
    let r = c.write_whole-3.result in
    ends _ _ _ (reason_text c.args.reason.now).0 ((reason_text c.args.reason.now).1 ++ feed) r (rw one at c.in_ok-write_whole.ensures.front)
    (ends _ _ _ (reason_text c.args.reason.now).1 feed r (rw two at c.in_ok-write_whole-2.ensures.front) c.write_whole-3.ensures.front)
