use Rattle.std.proofs.Common.{◌≡◌, None, refl, sym, ap, ◌∙◌, inl, inr}
use Rattle.std.specs.Result.{result_ok}
use Rattle.pl_model.specs.Words.{hex_bytes}
use Rattle.pl_words.specs.Parsed.{one_write, BytesTake}
use Rattle.pl_words.proofs.HexBytes.{decoded, gives, takes_some, says_none, decode_ok}
use Rattle.pl_words.proofs.bytes.hex_bytes.Goals as goal
use Rattle.pl_words.proofs.bytes.hex_bytes.Goals.{then-is_one_write, else-is_one_write}

pub returns-in-Ok : goal.returns-in-Ok
returns-in-Ok g c =
    let said = decoded c.args.word.now c.in-Ok.bytes.items c.from_vec.result c.in-Ok.ensures.ok c.from_vec.ensures.fits c.from_vec.ensures.list in
    rw (said, c.ok_or.ensures.value) (gives BytesTake c.from_vec.result)

pub returns-after-is_one_write : goal.returns-after-is_one_write
returns-after-is_one_write g c =
    elim c.if-is_one_write.branch [
      | then-is_one_write w ↦ rw w.result-is (takes_some c.args.word.now c.requires (sym w.if-is_one_write.ensures))
      | else-is_one_write w ↦ rw w.result-is (says_none (one_write (hex_bytes c.args.word.now)) (sym w.if-is_one_write.ensures))
    ]

pub returns-in_default : goal.returns-in_default
returns-in_default g c =
    elim c.in-Err.ensures.err [
      | inl memory ↦ absurd (c.in_default.not-OutOfMemory memory)
      | inr bad ↦
          let none : hex_bytes c.args.word.now ≡ None = sym (decode_ok c.args.word.now) ∙ ap result_ok bad in
          rw none refl
    ]
