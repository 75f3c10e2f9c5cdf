use Rattle.std.proofs.Common.{◌≡◌, length, sym, ap, ◌∙◌, arith, rules, tests}
use Rattle.pl_words.proofs.Places.{first_near, first_far, none_far, none_past}
use Rattle.pl_words.proofs.search.first_blank.Goals as goal

pub returns-in-Some-clause-place : goal.returns-in-Some-clause-place
returns-in-Some-clause-place c = sym (first_near _ c.args.text.now c.min.result (omega arith) c.in-Some.place (rw c.split_at.ensures.front at (sym c.in-Some.ensures.place)))

pub returns-then-is_empty-clause-place : goal.returns-then-is_empty-clause-place
returns-then-is_empty-clause-place c =
    let empty : length c.split_at.result.1.now ≡ 0 = search (rules, tests) in
    sym (none_past _ c.args.text.now c.min.result (omega arith) (rw c.split_at.ensures.front at (sym c.in_default.ensures.place)) (ap length (sym c.split_at.ensures.back) ∙ empty))

pub returns-in_err-place-clause-place : goal.returns-in_err-place-clause-place
returns-in_err-place-clause-place c =
    c.from_residual.ensures ∙ sym (none_far _ c.args.text.now c.min.result (omega arith) (rw c.split_at.ensures.front at (sym c.in_default.ensures.place)) (rw c.split_at.ensures.back at c.in_err-place.ensures))

pub returns-clause-place : goal.returns-clause-place
returns-clause-place c =
    let far = first_far _ c.args.text.now c.min.result (omega arith) c.in_ok-place.place (rw c.split_at.ensures.front at (sym c.in_default.ensures.place)) (rw c.split_at.ensures.back at c.in_ok-place.ensures) in
    rw c.split_at.ensures.front_len (sym far.0)
