-- What a seek comes to.
use Rattle.std.specs.Prelude.{ℕ, ℤ, pos, ◌+ℤ◌, nat_lt, Option, Result, Ok, Err, if◌then◌else◌}
use Rattle.std.specs.declared.option.Option.TheVariants.{None, Some}
use Rattle.pl_model.specs.declared.replies.Errno.{Errno}
use Rattle.pl_model.specs.declared.replies.Errno.TheVariants.{EINVAL, EOVERFLOW}
use Rattle.pl_model.specs.Numbers.{greatest_offset}
use Rattle.pl_model.specs.Keys.{Keys}
use Rattle.pl_model.specs.Trial.{Begins, refused}
use Rattle.pl_model.specs.Begin.{unsigned}

-- POSIX.1-2017, lseek: the offset, EINVAL where there is none since it is below 0, EOVERFLOW above the greatest one.
abbrev pub within_offsets : Option ℕ → Result ℕ Errno
within_offsets None = Err EINVAL
within_offsets (Some n) = if nat_lt greatest_offset n then Err EOVERFLOW else Ok n

-- the offset that lies so far from the base
abbrev pub offset_sought : ℕ → ℤ → Result ℕ Errno
offset_sought base offset = within_offsets (unsigned (pos base +ℤ offset))

-- where it is a fault, this answers
abbrev pub or_refused : {A : Type 0} {K : Keys} → Result ℕ Errno → (ℕ → Begins A K) → Begins A K
or_refused (Ok n) next = next n
or_refused (Err errno) next = refused errno
