use Rattle.std.proofs.Common.{◌≡◌, ◌/◌, length, arith}
use Rattle.pl_words.proofs.HexBytes.{put_behind, not_put}
use Rattle.pl_words.proofs.pieces.decode_behind.Goals as goal

pub returns-in-Ok : goal.returns-in-Ok
returns-in-Ok c =
    let places : length c.split_at_mut-added.result.1.now ≡ length c.args.digits.now / 2 = omega (arith, c.split_at_mut-added.ensures.back_len, c.requires) in
    rw c.split_at_mut-added.ensures.front (put_behind c.args.digits.now _ places c.decode_to_slice.result c.decode_to_slice.new.out c.decode_to_slice.ensures.value _ c.in-Ok.is)

pub returns-in-Err : goal.returns-in-Err
returns-in-Err c =
    let places : length c.split_at_mut-added.result.1.now ≡ length c.args.digits.now / 2 = omega (arith, c.split_at_mut-added.ensures.back_len, c.requires) in
    not_put c.args.digits.now _ places c.decode_to_slice.result c.decode_to_slice.new.out c.decode_to_slice.ensures.value c.in-Err.field-0 c.in-Err.is
