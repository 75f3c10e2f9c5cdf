use Rattle.std.proofs.Common.{◌≡◌, true, get_or}
use Rattle.pl_model.specs.Words.{is_digit}
use Rattle.pl_words.proofs.NumberLemmas.{value_more, digits_more, fits_more}
use Rattle.pl_words.proofs.numbers.value.Goals as goal

pub loop-c-preserved : goal.loop-c-preserved
loop-c-preserved c =
    let word = c.args.word.now in
    let i = c.loop-c.c-index in
    let digit : is_digit (get_or word i 0) ≡ true = cc in
    record {
      value = value_more word i c.loop-c.value _ c.loop-c-test.true digit c.from.ensures c.loop-c.invariant.value;
      digits = digits_more word i c.loop-c-test.true digit c.loop-c.invariant.digits;
      fits = fits_more (get_or word i 0) i c.loop-c.value _ digit c.from.ensures c.loop-c.invariant.fits;
    }
