use Rattle.pl_lines.proofs.HexText.{hex_text_is, encoded_is_text}
use Rattle.pl_lines.proofs.digits.push_few.Goals as goal

pub from_utf8_unchecked-requires : goal.from_utf8_unchecked-requires
from_utf8_unchecked-requires g c = rw (c.write_digits.ensures, hex_text_is c.args.bytes.now) (encoded_is_text c.args.bytes.now)
