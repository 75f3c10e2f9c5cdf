-- What the modes of an open description allow (POSIX.1-2017, open: O_RDONLY, O_WRONLY, O_RDWR).
use Rattle.std.specs.Prelude.{Bool, true, false, not, ◌&&◌, ◌||◌}
use Rattle.pl_model.specs.declared.calls.Mode.{Mode}
use Rattle.pl_model.specs.declared.calls.Mode.TheVariants.{Read, Write, Both}

abbrev pub reads : Mode → Bool
reads Read = true
reads Write = false
reads Both = true

abbrev pub writes : Mode → Bool
writes Read = false
writes Write = true
writes Both = true

-- a mode lacks an end that another has: it doesn't read where the other reads, or doesn't write where the other writes
abbrev pub lacks_end_of : Mode → Mode → Bool
lacks_end_of mode other = (reads other && not (reads mode)) || (writes other && not (writes mode))

abbrev pub any_mode : Mode → Bool
any_mode mode = true

-- `Read` and `Write` by names of their own, where those of calls are in scope
abbrev pub for_reading : Mode
for_reading = Read

abbrev pub for_writing : Mode
for_writing = Write
