use Rattle.std.proofs.Common.{◌≡◌, ◌<◌, ◌/◌, ◌%◌, slice_index, refl, arith}
use Rattle.pl_model.specs.Shown.{lower_digits, hex_text}
use Rattle.pl_lines.proofs.HexText.{digit_ascii}
use Rattle.pl_lines.proofs.Pushing.{pushed, behind}
use Rattle.pl_lines.proofs.digits.push_byte.Goals as goal

pub returns : goal.returns
unfolding hex_text
returns g c =
    let high : c.from-2.result ≡ slice_index lower_digits (c.args.byte / 16) = rw (c.as_slice-digits.ensures, c.from.ensures) at c.from-2.ensures in
    let low : c.from-4.result ≡ slice_index lower_digits (c.args.byte % 16) = rw (c.as_slice-digits.ensures, c.from-3.ensures) at c.from-4.ensures in
    let high_ascii : c.from-2.result < 128 = rw high (digit_ascii (c.args.byte / 16) (omega (arith, c.ranges.byte.fits))) in
    let low_ascii : c.from-4.result < 128 = rw low (digit_ascii (c.args.byte % 16) (omega arith)) in
    rw (← high, ← low)
    (behind _ _ c.in_ok-push.was (pushed _ _ _ _ (rw (c.push.ensures.ascii high_ascii) at c.push.ensures.bytes)) (pushed _ _ _ _ (rw (c.push-2.ensures.ascii low_ascii) at c.push-2.ensures.bytes)) refl)
