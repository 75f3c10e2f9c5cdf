use Rattle.std.proofs.Common.{arith, inl, inr}
use Rattle.pl_words.proofs.HexBytes.{no_write, write_of_digits}
use Rattle.pl_words.proofs.bytes.is_one_write.Goals as goal

pub returns-then-word-eq1 : goal.returns-then-word-eq1
returns-then-word-eq1 c = no_write c.args.word.now (inl (omega arith))

pub returns-then-word-gt-MAX_BYTES : goal.returns-then-word-gt-MAX_BYTES
returns-then-word-gt-MAX_BYTES c = no_write c.args.word.now (inr (omega arith))

pub returns : goal.returns
returns c = write_of_digits c.args.word.now c.are_hex_digits.result (λ odd. absurd (omega arith)) (omega arith) c.are_hex_digits.ensures
