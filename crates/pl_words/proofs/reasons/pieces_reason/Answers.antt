use Rattle.std.proofs.Common.{◌≡◌, true, false, Some, None, sym, ◌∙◌, rules, tests}
use Rattle.std.specs.Prelude.{position}
use Rattle.std.specs.Option.{is_none}
use Rattle.pl_model.specs.Words.{is_plus}
use Rattle.pl_words.proofs.ReasonLemmas.{bad_piece, good_piece, bad_last, good_last}
use Rattle.pl_words.proofs.reasons.pieces_reason.Goals as goal

pub returns-then-is_none : goal.returns-then-is_none
returns-then-is_none c =
    let found : position is_plus c.loop-plus.rest.now ≡ Some c.in-Some.plus = sym c.in-Some.ensures.place in
    let none : is_none c.piece_len.result ≡ true = search (rules, tests) in
    rw (c.piece_reason.ensures, c.split_at.ensures.front) (sym (bad_piece c.args.word.now c.loop-plus.rest.now c.loop-plus.invariant c.in-Some.plus found c.piece_len.result (rw c.split_at.ensures.front at c.piece_len.ensures) none))

pub loop-plus-preserved : goal.loop-plus-preserved
loop-plus-preserved c =
    let found : position is_plus c.loop-plus.rest.now ≡ Some c.in-Some.plus = sym c.in-Some.ensures.place in
    let some : is_none c.piece_len.result ≡ false = search (rules, tests) in
    rw c.split_at-in-Some.ensures.back (good_piece c.args.word.now c.loop-plus.rest.now c.loop-plus.invariant c.in-Some.plus found c.piece_len.result (rw c.split_at.ensures.front at c.piece_len.ensures) some)

pub returns-then-is_none-2 : goal.returns-then-is_none-2
returns-then-is_none-2 c =
    let nowhere : position is_plus c.loop-plus.rest.now ≡ None = search rules in
    let none : is_none c.piece_len-2.result ≡ true = search (rules, tests) in
    c.piece_reason-then-is_none-2.ensures ∙ sym (bad_last c.args.word.now c.loop-plus.rest.now c.loop-plus.invariant nowhere c.piece_len-2.result c.piece_len-2.ensures none)

pub returns-else-is_none-2 : goal.returns-else-is_none-2
returns-else-is_none-2 c =
    let nowhere : position is_plus c.loop-plus.rest.now ≡ None = search rules in
    let some : is_none c.piece_len-2.result ≡ false = search (rules, tests) in
    sym (good_last c.args.word.now c.loop-plus.rest.now c.loop-plus.invariant nowhere c.piece_len-2.result c.piece_len-2.ensures some)
