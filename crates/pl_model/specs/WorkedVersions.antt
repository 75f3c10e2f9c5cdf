-- Lines, bytes and first lines of version 2, beside those of version 1 (our own).
use Rattle.std.specs.Prelude.{◌≡◌, true, false, [], ◌∷◌, ◌++◌, replicate, Some, None, codes}
use Rattle.pl_model.specs.declared.calls.Call.TheVariants as Call
use Rattle.pl_model.specs.declared.calls.Step.TheVariants.{Begin}
use Rattle.pl_model.specs.declared.script.Line.TheVariants.{Do}
use Rattle.pl_model.specs.declared.script.Version.TheVariants.{One, Two}
use Rattle.pl_model.specs.Words.{bytes_of}
use Rattle.pl_model.specs.Lines.{line}
use Rattle.pl_model.specs.Shown.{bytes_text, file_text}
use Rattle.pl_model.specs.Script.{version_of, bad_line}
use Rattle.pl_model.specs.Worked.{text, Prints}

-- BYTES may be pieces that `+` joins, in version 2 alone
pub record PiecesOfBytes : Type 0 where
  pub several : bytes_of Two (codes "3*61+62+5*00") ≡ Some (replicate 3 97 ++ (98 ∷ replicate 5 0))
  pub one : bytes_of Two (codes "616A") ≡ Some (97 ∷ 106 ∷ [])
  pub none : bytes_of Two (codes "-") ≡ Some []
  pub of_no_bytes : bytes_of Two (codes "0*61+62") ≡ Some (98 ∷ [])
  pub at_the_end : bytes_of Two (codes "61+") ≡ None
  pub at_the_front : bytes_of Two (codes "+61") ≡ None
  pub nothing_between : bytes_of Two (codes "61++62") ≡ None
  pub none_and_some : bytes_of Two (codes "-+61") ≡ None
  pub in_version_1 : bytes_of One (codes "61+62") ≡ None

-- a run of four bytes is a piece by itself, one of three is not
pub record BytesByRuns : Type 0 where
  pub three : bytes_text Two (codes "aaa") ≡ codes "616161"
  pub four : bytes_text Two (codes "aaaa") ≡ codes "4*61"
  pub behind_others : bytes_text Two (codes "aabcccc") ≡ codes "616162+4*63"
  pub between : bytes_text Two (codes "aaaabcccc") ≡ codes "4*61+62+4*63"
  pub alternating : bytes_text Two (codes "abababab") ≡ codes "6162616261626162"
  pub none : bytes_text Two [] ≡ codes "-"
  pub file : file_text Two (Some (replicate 5 0)) ≡ codes "file 5*00"
  pub in_version_1 : bytes_text One (codes "aaaa") ≡ codes "61616161"

-- a line `pipe` of version 2 has flags
pub record LinesWithPackets (A : Type 0) : Type 0 where
  pub plain : line {A = A} Two (codes "1 pipe") ≡ Some (Some (Do (Begin 1 (Call.Pipe false false))))
  pub packets : line {A = A} Two (codes "1 pipe direct") ≡ Some (Some (Do (Begin 1 (Call.Pipe false true))))
  pub both : line {A = A} Two (codes "1 pipe direct,nonblock") ≡ Some (Some (Do (Begin 1 (Call.Pipe true true))))
  pub twice : line {A = A} Two (codes "1 pipe nonblock,nonblock") ≡ Some (Some (Do (Begin 1 (Call.Pipe true false))))
  pub no_flags : line {A = A} Two (codes "1 pipe -") ≡ None
  pub set : line {A = A} Two (codes "1 setfl 0 direct") ≡ None

-- the first line alone names the version, and is exactly this
pub record FirstLines (A : Type 0) : Type 0 where
  pub alone : version_of (codes "piperun 2") ≡ Two
  pub good : bad_line A (codes "piperun 2\nstart\n") ≡ None
  pub again : bad_line A (codes "piperun 2\npiperun 2\n") ≡ Some 2
  pub second : bad_line A (codes "start\npiperun 2\n") ≡ Some 2
  pub behind_a_blank : bad_line A (codes " piperun 2\n") ≡ Some 1
  pub before_a_blank : bad_line A (codes "piperun 2 \n") ≡ Some 1
  pub longer : bad_line A (codes "piperun 20\n") ≡ Some 1

-- pieces, runs and a packet pipe in one script
abbrev pub ScriptOfVersion2 : Type 0 → Type 0
ScriptOfVersion2 A =
    Prints A
    (text (
    codes "piperun 2" ∷ codes "start" ∷ codes "1 pipe" ∷ codes "1 write 1 3*61+62+5*00" ∷ codes "1 read 0 3" ∷ codes "1 read 0 9"
    ∷ codes "1 pipe direct,nonblock" ∷ codes "1 getfl 2" ∷ codes "1 getfl 3" ∷ codes "1 read 2 1" ∷ []))
    9
    (codes "pid 1" ∷ codes "fds 0 1" ∷ codes "count 9" ∷ codes "data 616161" ∷ codes "data 62+5*00"
    ∷ codes "fds 2 3" ∷ codes "flags r nonblock" ∷ codes "flags w nonblock,direct" ∷ codes "EAGAIN" ∷ [])
