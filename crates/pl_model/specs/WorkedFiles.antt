-- What the definitions answer of regular files in small examples.
use Rattle.std.specs.Prelude.{◌≡◌, ℕ, ◌+◌, ℤ, pos, negsuc, List, [], ◌∷◌, ◌++◌, false, replicate, codes, map, Some, None}
use Rattle.pl_model.specs.declared.calls.Call.{Call}
use Rattle.pl_model.specs.declared.calls.Mode.{Mode}
use Rattle.pl_model.specs.declared.calls.Step.{Step}
use Rattle.pl_model.specs.declared.calls.Step.TheVariants.{Start, Begin}
use Rattle.pl_model.specs.declared.calls.Whence.{Whence}
use Rattle.pl_model.specs.declared.calls.Whence.TheVariants.{Set, Cur, End}
use Rattle.pl_model.specs.declared.replies.Reply.{Reply}
use Rattle.pl_model.specs.declared.replies.Reply.TheVariants.{Pid, Fd, Fds, Count, Bytes, Offset, Flags, Unit, Fault}
use Rattle.pl_model.specs.declared.replies.Errno.TheVariants.{EBADF, EEXIST, EFBIG, EINVAL, EMFILE, ENAMETOOLONG, ENOENT, EOVERFLOW, ESPIPE}
use Rattle.pl_model.specs.Numbers.{numbers_from}
use Rattle.pl_model.specs.Flags.{creat, excl, trunc, append, nonblock, no_flags}
use Rattle.pl_model.specs.Numbered.{opening}
use Rattle.pl_model.specs.Run.{replies}
use Rattle.pl_model.specs.Words.{name_of}
use Rattle.pl_model.specs.Script.{output}
use Rattle.pl_model.specs.Worked.{usual, pipe, read, write, close, dup, get_fl, set_fl, no_bytes, text}

module _ {A : Type 0} where
  -- what the process of pid 1 does
  abbrev pub open_name : List ℕ → Mode → ℕ → Step A
  open_name name mode flags = Begin 1 (Call.OpenName name mode (record { 0 = flags }))

  abbrev pub lseek : ℕ → ℤ → Whence → Step A
  lseek fd offset whence = Begin 1 (Call.Lseek (pos fd) offset whence)

  abbrev pub unlink : List ℕ → Step A
  unlink name = Begin 1 (Call.Unlink name)

-- after a new kernel's first step, where a file has at most this many bytes, these steps have these replies
abbrev pub AnswersWithin : (A : Type 0) → ℕ → List (Step A) → List (Reply A) → Type 0
AnswersWithin A most steps wanted =
    (first_call : ℕ) → replies (opening {A = A} (usual first_call most)) (Start ∷ steps) ≡ Pid 1 ∷ wanted

-- the last bytes that a file may have, and what lies beyond
abbrev pub EndOfAFile : Type 0 → Type 0
EndOfAFile A =
    AnswersWithin A 16
    (open_name (codes "f") Mode.Both creat ∷ lseek 0 (pos 14) Set ∷ write 0 (codes "abc") ∷ write 0 (codes "a") ∷ write 0 [] ∷ lseek 0 (negsuc 0) Set
    ∷ lseek 0 (pos 9223372036854775807) End ∷ unlink (codes "f") ∷ lseek 0 (pos 0) End ∷ open_name (codes "f") Mode.Read 0 ∷ [])
    (Fd (pos 0) ∷ Offset 14 ∷ Count 2 false ∷ Fault EFBIG ∷ Count 0 false ∷ Fault EINVAL ∷ Fault EOVERFLOW ∷ Unit ∷ Offset 16 ∷ Fault ENOENT ∷ [])

-- what is wrong with a name, before all else that might be wrong
abbrev pub BadNames : Type 0 → Type 0
BadNames A =
    AnswersWithin A 16
    (open_name [] Mode.Read creat ∷ open_name (replicate 256 97) Mode.Read creat ∷ open_name (replicate 256 47) Mode.Read creat ∷ open_name (codes "a/b") Mode.Read creat
    ∷ open_name (97 ∷ 0 ∷ []) Mode.Read creat ∷ open_name (codes "a") Mode.Read 0 ∷ unlink [] ∷ unlink (replicate 256 97) ∷ unlink (codes "/") ∷ unlink (codes "a")
    ∷ open_name (replicate 255 97) Mode.Read creat ∷ unlink (replicate 255 97) ∷ [])
    (Fault ENOENT ∷ Fault ENAMETOOLONG ∷ Fault ENAMETOOLONG ∷ Fault EINVAL
    ∷ Fault EINVAL ∷ Fault ENOENT ∷ Fault ENOENT ∷ Fault ENAMETOOLONG ∷ Fault EINVAL ∷ Fault ENOENT
    ∷ Fd (pos 0) ∷ Unit ∷ [])

-- what an open is refused for where several things are wrong, and that a refused one makes no file
abbrev pub RefusalsOfAnOpen : Type 0 → Type 0
RefusalsOfAnOpen A =
    AnswersWithin A 16
    (open_name (codes "f") Mode.Both creat ∷ (replicate 255 (dup 0) ++ (open_name [] Mode.Read creat ∷ open_name (codes "f") Mode.Read (creat + excl) ∷ open_name (codes "g") Mode.Read excl
    ∷ open_name (codes "f") Mode.Read 0 ∷ open_name (codes "g") Mode.Read creat ∷ close 9 ∷ open_name (codes "g") Mode.Read 0 ∷ open_name (codes "g") Mode.Read creat ∷ [])))
    (Fd (pos 0) ∷ (map (λ fd. Fd (pos fd)) (numbers_from 255 1) ++ (Fault ENOENT ∷ Fault EEXIST ∷ Fault ENOENT
    ∷ Fault EMFILE ∷ Fault EMFILE ∷ Unit ∷ Fault ENOENT ∷ Fd (pos 9) ∷ [])))

-- what the flags of an open do, and which of them the description keeps
abbrev pub FlagsOfAnOpen : Type 0 → Type 0
FlagsOfAnOpen A =
    AnswersWithin A 16
    (open_name (codes "x") Mode.Write (creat + excl) ∷ open_name (codes "x") Mode.Write (creat + excl) ∷ read 0 1 ∷ get_fl 0 ∷ set_fl 0 (append + (nonblock + trunc))
    ∷ get_fl 0 ∷ write 0 (codes "ab") ∷ open_name (codes "x") Mode.Read trunc ∷ read 1 9 ∷ open_name (codes "x") Mode.Both (excl + trunc) ∷ lseek 2 (pos 0) End
    ∷ open_name (codes "x") Mode.Write (append + (creat + trunc)) ∷ get_fl 3 ∷ [])
    (Fd (pos 0) ∷ Fault EEXIST ∷ Fault EBADF ∷ Flags Mode.Write no_flags ∷ Unit
    ∷ Flags Mode.Write (record { 0 = append + nonblock }) ∷ Count 2 false ∷ Fd (pos 1) ∷ Bytes (codes "ab") ∷ Fd (pos 2) ∷ Offset 0
    ∷ Fd (pos 3) ∷ Flags Mode.Write (record { 0 = append }) ∷ [])

-- Each description has its own offset; a write that appends starts at the end, whatever that is, and moves the offset there.
abbrev pub AppendingAndSeeking : Type 0 → Type 0
AppendingAndSeeking A =
    AnswersWithin A 16
    (open_name (codes "f") Mode.Both creat ∷ write 0 (codes "old") ∷ open_name (codes "f") Mode.Write append ∷ write 1 (codes "er") ∷ lseek 1 (pos 0) Cur
    ∷ lseek 0 (pos 0) Cur ∷ read 0 9 ∷ lseek 0 (pos 0) Set ∷ write 0 (codes "gold") ∷ lseek 0 (negsuc 1) Cur ∷ read 0 9 ∷ lseek 0 (pos 1) End ∷ read 0 9
    ∷ write 1 (codes "!") ∷ write 0 (codes "z") ∷ lseek 0 (negsuc 2) End ∷ read 0 9 ∷ lseek 0 (pos 2) End ∷ write 0 (codes "y") ∷ lseek 0 (negsuc 2) Cur
    ∷ read 0 9 ∷ [])
    (Fd (pos 0) ∷ Count 3 false ∷ Fd (pos 1) ∷ Count 2 false ∷ Offset 5
    ∷ Offset 3 ∷ Bytes (codes "er") ∷ Offset 0 ∷ Count 4 false ∷ Offset 2 ∷ Bytes (codes "ldr") ∷ Offset 6 ∷ no_bytes
    ∷ Count 1 false ∷ Count 1 false ∷ Offset 4 ∷ Bytes (codes "r!z") ∷ Offset 9 ∷ Count 1 false ∷ Offset 7
    ∷ Bytes (0 ∷ 0 ∷ codes "y") ∷ [])

-- A file lives on while it is open, without its name, which may come to stand for another one.
abbrev pub UnlinkedFileLivesOn : Type 0 → Type 0
UnlinkedFileLivesOn A =
    AnswersWithin A 16
    (open_name (codes "f") Mode.Both creat ∷ write 0 (codes "ab") ∷ unlink (codes "f") ∷ unlink (codes "f") ∷ open_name (codes "f") Mode.Read 0
    ∷ open_name (codes "f") Mode.Read creat ∷ read 1 9 ∷ lseek 0 (pos 0) Set ∷ read 0 9 ∷ close 0 ∷ lseek 0 (pos 0) Set ∷ read 1 9 ∷ [])
    (Fd (pos 0) ∷ Count 2 false ∷ Unit ∷ Fault ENOENT ∷ Fault ENOENT
    ∷ Fd (pos 1) ∷ no_bytes ∷ Offset 0 ∷ Bytes (codes "ab") ∷ Unit ∷ Fault EBADF ∷ no_bytes ∷ [])

-- a closed file keeps its bytes under its name, and each name stands for its own
abbrev pub NamesKeepTheirFiles : Type 0 → Type 0
NamesKeepTheirFiles A =
    AnswersWithin A 16
    (open_name (codes "b") Mode.Write creat ∷ write 0 (codes "2") ∷ close 0 ∷ open_name (codes "a") Mode.Write creat ∷ write 0 (codes "1") ∷ close 0
    ∷ open_name (codes "ab") Mode.Write creat ∷ close 0 ∷ open_name (codes "b") Mode.Read creat ∷ read 0 9 ∷ open_name (codes "a") Mode.Read 0 ∷ read 1 9
    ∷ unlink (codes "a") ∷ open_name (codes "ab") Mode.Read 0 ∷ read 2 9 ∷ open_name (codes "a") Mode.Read 0 ∷ [])
    (Fd (pos 0) ∷ Count 1 false ∷ Unit ∷ Fd (pos 0) ∷ Count 1 false ∷ Unit
    ∷ Fd (pos 0) ∷ Unit ∷ Fd (pos 0) ∷ Bytes (codes "2") ∷ Fd (pos 1) ∷ Bytes (codes "1")
    ∷ Unit ∷ Fd (pos 2) ∷ no_bytes ∷ Fault ENOENT ∷ [])

-- a pipe has no offset
abbrev pub PipesHaveNoOffset : Type 0 → Type 0
PipesHaveNoOffset A =
    AnswersWithin A 16
    (lseek 0 (pos 0) Set ∷ pipe ∷ lseek 0 (negsuc 0) Set ∷ lseek 1 (pos 0) Cur ∷ lseek 256 (pos 0) Set ∷ [])
    (Fault EBADF ∷ Fds (pos 0) (pos 1) ∷ Fault ESPIPE ∷ Fault ESPIPE ∷ Fault EBADF ∷ [])

-- a script, and what it prints where no step wants for memory and a file has at most this many bytes
abbrev pub PrintsWithin : (A : Type 0) → ℕ → List ℕ → ℕ → List (List ℕ) → Type 0
PrintsWithin A most script steps wanted =
    (first_call : ℕ) → output A script (usual first_call most) (replicate steps false) ≡ text wanted

abbrev pub ScriptOfFiles : Type 0 → Type 0
ScriptOfFiles A =
    PrintsWithin A 16
    (text (
    codes "start" ∷ codes "1 open - r" ∷ codes "1 open a%2Fb r creat" ∷ codes "1 open x w creat,excl" ∷ codes "1 open %78 w creat,excl" ∷ codes "1 write 0 6162"
    ∷ codes "1 open x r trunc" ∷ codes "1 read 1 9" ∷ codes "1 lseek 1 -1 cur" ∷ codes "1 read 1 9" ∷ codes "1 lseek 0 0014 set" ∷ codes "1 write 0 616263"
    ∷ codes "1 write 0 61" ∷ codes "1 lseek 0 -1 set" ∷ codes "1 lseek 0 9223372036854775807 end" ∷ codes "1 unlink x" ∷ codes "1 lseek 0 0 end"
    ∷ codes "1 open x r" ∷ codes "1 open %2d rw creat" ∷ codes "1 unlink %2D" ∷ codes "1 unlink -" ∷ []))
    21
    (codes "pid 1" ∷ codes "ENOENT" ∷ codes "EINVAL" ∷ codes "fd 0" ∷ codes "EEXIST" ∷ codes "count 2"
    ∷ codes "fd 1" ∷ codes "data 6162" ∷ codes "offset 1" ∷ codes "data 62" ∷ codes "offset 14" ∷ codes "count 2"
    ∷ codes "EFBIG" ∷ codes "EINVAL" ∷ codes "EOVERFLOW" ∷ codes "ok" ∷ codes "offset 16"
    ∷ codes "ENOENT" ∷ codes "fd 2" ∷ codes "ok" ∷ codes "ENOENT" ∷ [])

-- the words that say names, and those that say none
pub record NamesInWords : Type 0 where
  pub plain : name_of (codes "a-b.c/~!") ≡ Some (codes "a-b.c/~!")
  pub empty : name_of (codes "-") ≡ Some []
  pub dash : name_of (codes "%2d") ≡ Some (codes "-")
  pub either_case : name_of (codes "%fF%00a%25") ≡ Some (255 ∷ 0 ∷ 97 ∷ 37 ∷ [])
  pub cut_short : name_of (codes "a%2") ≡ None
  pub alone : name_of (codes "%") ≡ None
  pub no_digit : name_of (codes "%2g") ≡ None
  pub no_letter : name_of (97 ∷ 127 ∷ []) ≡ None
  pub no_blank : name_of (32 ∷ 97 ∷ 98 ∷ 99 ∷ []) ≡ None
