-- The small examples of the lines of splices and tees, computed from the definitions.
use Rattle.std.proofs.Common.{refl}
use Rattle.pl_model.specs.Words.{words, without_return, number, signed_below, splice_flag, with_flags, flags_of, flags_if_any, offset_of}
use Rattle.pl_model.specs.Lines.{len_and_flags, splice_of, tee_of, call_of, begin_of, words_line, line_of_words, line}
use Rattle.pl_model.specs.WorkedSpliceLines.{LinesOfSplices}

pub lines_of_splices : (A : Type 0) → LinesOfSplices A
unfolding words without_return number signed_below splice_flag with_flags flags_of flags_if_any offset_of len_and_flags splice_of tee_of call_of begin_of words_line line_of_words line
lines_of_splices A =
    record {
      plain = refl;
      offsets = refl;
      flags = refl;
      one_flag = refl;
      far_offset = refl;
      no_offset = refl;
      no_len = refl;
      dash_for_len = refl;
      dash_for_flags = refl;
      flag_of_an_open = refl;
      two_lists = refl;
      tee = refl;
      tee_flags = refl;
      tee_no_len = refl;
      tee_offset = refl;
    }
