use Rattle.std.proofs.Common.{◌≡◌, None, Some, refl, sym, arith, rules}
use Rattle.std.specs.Prelude.{position}
use Rattle.pl_model.specs.Words.{is_plus}
use Rattle.pl_words.proofs.PieceLemmas.{too_many, counted_more, refused_more, counted_last, too_many_last, refused_last}
use Rattle.pl_words.proofs.pieces.pieces_len.Goals as goal

pub returns-in_err-len : goal.returns-in_err-len
returns-in_err-len c =
    let found : position is_plus c.loop-plus.rest.now ≡ Some c.in-Some.plus = sym c.in-Some.ensures.place in
    rw c.from_residual.ensures (refused_more c.loop-plus.invariant.1 c.in-Some.plus found (rw c.split_at.ensures.front at c.in_err-len.ensures))

pub returns-then-len-gt-MAX_BYTES : goal.returns-then-len-gt-MAX_BYTES
returns-then-len-gt-MAX_BYTES c =
    let found : position is_plus c.loop-plus.rest.now ≡ Some c.in-Some.plus = sym c.in-Some.ensures.place in
    too_many (counted_more c.loop-plus.invariant.1 c.in-Some.plus c.in_ok-len.field-0 found _ (rw c.split_at.ensures.front at c.in_ok-len.ensures) refl) (omega arith)

pub loop-plus-preserved : goal.loop-plus-preserved
loop-plus-preserved c =
    let found : position is_plus c.loop-plus.rest.now ≡ Some c.in-Some.plus = sym c.in-Some.ensures.place in (
      omega arith,
      counted_more c.loop-plus.invariant.1 c.in-Some.plus c.in_ok-len.field-0 found c.split_at-in-Some.result.1.now (rw c.split_at.ensures.front at c.in_ok-len.ensures) c.split_at-in-Some.ensures.back,
    )

pub returns-in_err-len-2 : goal.returns-in_err-len-2
returns-in_err-len-2 c =
    let none : position is_plus c.loop-plus.rest.now ≡ None = search rules in
    rw c.from_residual-in_err-len-2.ensures (refused_last c.loop-plus.invariant.1 none c.in_err-len-2.ensures)

pub returns-then-len-gt-MAX_BYTES-2 : goal.returns-then-len-gt-MAX_BYTES-2
returns-then-len-gt-MAX_BYTES-2 c =
    let none : position is_plus c.loop-plus.rest.now ≡ None = search rules in
    too_many_last c.loop-plus.invariant.1 none c.in_ok-len-2.field-0 c.in_ok-len-2.ensures (omega arith)

pub returns-else-len-gt-MAX_BYTES-2 : goal.returns-else-len-gt-MAX_BYTES-2
returns-else-len-gt-MAX_BYTES-2 c =
    let none : position is_plus c.loop-plus.rest.now ≡ None = search rules in
    counted_last c.loop-plus.invariant.1 none c.in_ok-len-2.field-0 c.in_ok-len-2.ensures (omega arith)
