use Rattle.pl_words.proofs.HexBytes.{one_byte_left, no_byte}
use Rattle.pl_words.proofs.bytes.one_byte.Goals as goal

pub returns-in-Ok : goal.returns-in-Ok
returns-in-Ok c = one_byte_left c.args.digits.now c.decode_to_slice.new.out c.decode_to_slice.result c.decode_to_slice.ensures.value c.in-Ok.is c.decode_to_slice.auto.out

pub returns-in-Err : goal.returns-in-Err
returns-in-Err c = no_byte c.args.digits.now c.decode_to_slice.new.out c.decode_to_slice.result c.in-Err.field-0 c.decode_to_slice.ensures.value c.in-Err.is
