-- The flags that a list names.
use Rattle.std.specs.Prelude.{ℕ, List, Option}
use Rattle.pl_model.specs.Words.{open_flag, pipe_flag, splice_flag, poll_flag}
use Rattle.pl_words.specs.declared.flags.Named.{Named}

abbrev pub flag_of : Named → List ℕ → Option ℕ
flag_of Named.Open = open_flag
flag_of Named.Pipe = pipe_flag
flag_of Named.Splice = splice_flag
flag_of Named.Poll = poll_flag
