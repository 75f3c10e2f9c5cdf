use Rattle.std.proofs.Common.{◌≡◌, Some, None, sym, arith, rules}
use Rattle.std.specs.Prelude.{position}
use Rattle.std.proofs.lemmas.Result.{err_from_is_err_and}
use Rattle.pl_model.specs.Words.{is_plus}
use Rattle.pl_words.specs.Parsed.{BytesTake}
use Rattle.pl_words.proofs.HexBytes.{taken, gives}
use Rattle.pl_words.proofs.PieceLemmas.{pieces_in, count_of, few_done, put_more, put_fails, put_last, last_fails}
use Rattle.pl_words.proofs.pieces.parse_pieces.Goals as goal

pub returns-in_err-push_piece : goal.returns-in_err-push_piece
returns-in_err-push_piece g c =
    let p = err_from_is_err_and c.from_residual-in_err-push_piece.result c.from_residual-in_err-push_piece.ensures.1 in
    let count : Some c.in_ok-len.len ≡ count_of (pieces_in c.args.word.now) = search rules in
    let found : position is_plus c.loop-plus.rest.now ≡ Some c.in-Some.plus = sym c.in-Some.ensures.place in
    rw (p.1, p.2) (put_fails count c.loop-plus.bytes.items c.loop-plus.rest.now c.loop-plus.invariant.1 c.in-Some.plus found c.in_err-push_piece.field-0.0 c.push_piece.new.bytes.items (rw c.split_at.ensures.front at c.in_err-push_piece.ensures))

pub loop-plus-preserved : goal.loop-plus-preserved
loop-plus-preserved g c =
    let count : Some c.in_ok-len.len ≡ count_of (pieces_in c.args.word.now) = search rules in
    let found : position is_plus c.loop-plus.rest.now ≡ Some c.in-Some.plus = sym c.in-Some.ensures.place in
    let next = put_more count c.loop-plus.bytes.items c.loop-plus.rest.now c.loop-plus.invariant.1 c.in-Some.plus found c.in_ok-push_piece.field-0 c.push_piece.new.bytes.items c.split_at-in-Some.result.1.now
    (rw c.split_at.ensures.front at c.in_ok-push_piece.ensures) c.split_at-in-Some.ensures.back in
    (omega (arith, c.push_piece.new.bytes.ok, few_done count c.push_piece.new.bytes.items c.split_at-in-Some.result.1.now next), next)

pub returns-in_err-push_piece-2 : goal.returns-in_err-push_piece-2
returns-in_err-push_piece-2 g c =
    let p = err_from_is_err_and c.from_residual-in_err-push_piece-2.result c.from_residual-in_err-push_piece-2.ensures.1 in
    let count : Some c.in_ok-len.len ≡ count_of (pieces_in c.args.word.now) = search rules in
    let none : position is_plus c.loop-plus.rest.now ≡ None = search rules in
    rw (p.1, p.2) (last_fails count c.loop-plus.bytes.items c.loop-plus.rest.now c.loop-plus.invariant.1 none c.in_err-push_piece-2.field-0.0 c.push_piece-2.new.bytes.items c.in_err-push_piece-2.ensures)

pub returns : goal.returns
returns g c =
    let count : Some c.in_ok-len.len ≡ count_of (pieces_in c.args.word.now) = search rules in
    let none : position is_plus c.loop-plus.rest.now ≡ None = search rules in
    let all = put_last count c.loop-plus.bytes.items c.loop-plus.rest.now c.loop-plus.invariant.1 none c.in_ok-push_piece-2.field-0 c.push_piece-2.new.bytes.items c.in_ok-push_piece-2.ensures in
    rw (taken (pieces_in c.args.word.now) c.push_piece-2.new.bytes.items c.from_vec.result all c.from_vec.ensures.fits c.from_vec.ensures.list, c.ok_or-2.ensures.value) (gives BytesTake c.from_vec.result)
