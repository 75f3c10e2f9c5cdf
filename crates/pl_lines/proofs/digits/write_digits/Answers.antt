use Rattle.std.proofs.Common.{◌/◌, ◌%◌, slice_index, arith, sym, ◌∙◌}
use Rattle.std.proofs.lemmas.List.{length-set}
use Rattle.hex.proofs.Pairs.{encode_step, encode_done}
use Rattle.pl_model.specs.Shown.{lower_digits}
use Rattle.pl_lines.proofs.HexText.{hex_text_is}
use Rattle.pl_lines.proofs.Places.{row_more}
use Rattle.pl_lines.proofs.digits.write_digits.Goals as goal

pub loop-i-preserved : goal.loop-i-preserved
loop-i-preserved c =
    let bytes = c.args.bytes.now in
    let long = c.loop-i.invariant.0 in
    let rows = c.loop-i.invariant.1 in (
      (length-set _ _ _ ∙ long.0, length-set _ _ _ ∙ long.1),
      (
        row_more c.loop-i.high c.loop-i.i c.digit.result (λ k. slice_index lower_digits (slice_index bytes k / 16)) (omega (arith, long.0)) c.digit.ensures rows.0,
        row_more c.loop-i.low c.loop-i.i c.digit-in-loop-i.result (λ k. slice_index lower_digits (slice_index bytes k % 16)) (omega (arith, long.1)) c.digit-in-loop-i.ensures rows.1,
      ),
    )

pub loop-i-2-preserved : goal.loop-i-2-preserved
loop-i-2-preserved c =
    let i = c.loop-i-2.i in
    let rows = c.loop-i.invariant.1 in
    encode_step lower_digits c.args.bytes.now c.loop-i-2.digits i _ _ (omega arith) (omega arith) (rows.0 i (omega arith)) (rows.1 i (omega arith)) c.loop-i-2.invariant

pub returns : goal.returns
returns c = encode_done lower_digits c.args.bytes.now c.loop-i-2.digits c.loop-i-2.i (omega arith) (omega arith) c.loop-i-2.invariant ∙ sym (hex_text_is c.args.bytes.now)
