-- Where an offset is counted from.
use Rattle.std.specs.Prelude.{ℤ, pos, zero, suc, Option}
use Rattle.std.specs.declared.option.Option.TheVariants.{None, Some}
use Rattle.pl_model.specs.declared.calls.Whence.{Whence}
use Rattle.pl_model.specs.declared.calls.Whence.TheVariants.{Set, Cur, End}

-- POSIX.1-2017, lseek: SEEK_SET, SEEK_CUR and SEEK_END, by their numbers on Linux.
abbrev pub whence_of_number : ℤ → Option Whence
whence_of_number (pos zero) = Some Set
whence_of_number (pos (suc zero)) = Some Cur
whence_of_number (pos (suc (suc zero))) = Some End
whence_of_number n = None
