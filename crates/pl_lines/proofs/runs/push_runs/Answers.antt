use Rattle.std.proofs.Common.{◌≡◌, ◌<◌, List, ◌∷◌, length, get_or, take, arith, rules, tests}
use Rattle.std.specs.Prelude.{string_bytes}
use Rattle.std.proofs.lemmas.Result.{err_from_is_err_and}
use Rattle.pl_model.specs.Shown.{Piece, Digits, Times, pieces_text, runs_text}
use Rattle.pl_lines.proofs.Pushing.{IsSoFar, stopped, pushed, all_put}
use Rattle.pl_lines.proofs.Pieces.{pieces, no_piece_yet, sign_put, no_sign, piece_put, no_piece_left, run_first, digits_first}
use Rattle.pl_lines.proofs.runs.push_runs.Given.{Over}
use Rattle.pl_lines.proofs.runs.push_runs.Goals as goal
use Rattle.pl_lines.proofs.runs.push_runs.Goals.{After-digits_len-len, After-split_at, then-others+in_ok-push_str, else-others}

-- the next piece may go in: its sign did, if it has one
module _ (g : Over) (c : After-digits_len-len g) where
  signed : (p : Piece) (ps : List Piece) → pieces c.loop-rest.rest.now ≡ p ∷ ps → IsSoFar (runs_text c.args.bytes.now) (string_bytes c.args.text.now) (string_bytes c.if-others.text) (pieces_text (p ∷ ps))
  signed p ps are = elim c.if-others.branch [
    | then-others+in_ok-push_str w ↦
        let so_far = rw w.if-others.true at c.loop-rest.invariant in
        rw w.text-is (sign_put c.args.bytes.now c.loop-rest.rest.now _ so_far are w.in_ok-push_str.was (pushed _ _ _ _ w.push_str.ensures.bytes))
    | else-others w ↦
        let so_far = rw w.if-others.false at c.loop-rest.invariant in
        rw w.text-is (no_sign c.args.bytes.now c.loop-rest.rest.now so_far are)
  ]

-- a run is next
module _ (g : Over) (c : After-split_at g) where
  run_is : pieces c.loop-rest.rest.now ≡ Times (length c.split_at.result.0.now) (get_or c.split_at.result.0.now 0 0) ∷ pieces c.split_at.result.1.now
  run_is =
      let some : 0 < length c.loop-rest.rest.now = search (rules, tests) in
      let four = (rw c.if-len-eq0.true at c.digits_len-len.ensures.there) some in
      let parts = c.split_at.ensures in
      rw (parts.back, parts.front_len, parts.by_index.1 0 0 c.run_len.ensures.some) (run_first c.loop-rest.rest.now c.run_len.result c.run_len.ensures four)

pub loop-rest-init : goal.loop-rest-init
loop-rest-init g c = no_piece_yet c.args.bytes.now _

pub returns-in_err-push_run : goal.returns-in_err-push_run
returns-in_err-push_run g c =
    let is = err_from_is_err_and c.from_residual-in_err-push_run.result c.from_residual-in_err-push_run.ensures.1 in
    let path = goal.at.returns-in_err-push_run g c in
    stopped (signed g path.After-digits_len-len _ _ (run_is g path.After-split_at)) _ is.1 c.push_run.ensures

pub loop-rest-preserved-in_ok-push_run : goal.loop-rest-preserved-in_ok-push_run
loop-rest-preserved-in_ok-push_run g c =
    let path = goal.at.loop-rest-preserved-in_ok-push_run g c in
    piece_put c.args.bytes.now _ _ _ (signed g path.After-digits_len-len _ _ (run_is g path.After-split_at)) c.in_ok-push_run.was c.push_run.ensures

pub loop-rest-preserved : goal.loop-rest-preserved
loop-rest-preserved g c =
    let path = goal.at.loop-rest-preserved g c in
    let parts = c.split_at-else-len-eq0.ensures in
    let some : 0 < c.digits_len-len.result = omega arith in
    let are = digits_first c.loop-rest.rest.now c.digits_len-len.result some c.digits_len-len.ensures in
    let so_far = signed g path.After-digits_len-len _ _ are in
    rw parts.back (piece_put c.args.bytes.now (Digits (take c.digits_len-len.result c.loop-rest.rest.now)) _ _ so_far c.in_ok-push_digits.was (rw (← parts.front) c.push_digits.ensures))

pub returns : goal.returns
returns g c =
    let none : length c.loop-rest.rest.now ≡ 0 = search (rules, tests) in
    all_put tt (no_piece_left _ c.loop-rest.others c.loop-rest.rest.now none c.loop-rest.invariant)
