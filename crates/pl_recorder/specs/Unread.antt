-- What a recorder has written and not handed out.
use Rattle.std.specs.Prelude.{◌≡◌, ◌≤◌, ◌+◌, ℕ, List, [], ◌++◌, length, take, drop, string_bytes, string_len, string_capacity, Option}
use Rattle.std.specs.declared.option.Option.TheVariants.{None, Some}
use Rattle.pl_model.specs.declared.replies.Reply.{Reply}
use Rattle.pl_recording.specs.Record.{ended, comment_text}
use Rattle.pl_recorder.specs.declared.recorder.Recorder.{Recorder}

-- the text in front of the line of a step that isn't made yet
abbrev pub text_before : Option ℕ → List ℕ → List ℕ
text_before None text = text
text_before (Some start) text = take start text

-- that line
abbrev pub line_in : Option ℕ → List ℕ → Option (List ℕ)
line_in None text = None
line_in (Some start) text = Some (drop start text)

module _ {A : Type 0} where
  -- the comment of the last step, while the text lacks it
  abbrev pub owed : Option (Reply A) → List ℕ
  owed None = []
  owed (Some reply) = ended (comment_text reply)

  -- all that is recorded and wasn't handed out
  abbrev pub unread : Recorder A → List ℕ
  unread r = drop r.read (string_bytes r.reading) ++ (text_before r.line (string_bytes r.text) ++ owed r.last)

  -- the line of a step that isn't made yet
  abbrev pub line_of : Recorder A → Option (List ℕ)
  line_of r = line_in r.line (string_bytes r.text)

  -- so many bytes fit behind the text
  abbrev pub HasRoom : Recorder A → ℕ → Type 0
  HasRoom r n = string_len r.text + n ≤ string_capacity r.text

  -- the text has the comment of each step, so that handing out writes none
  abbrev pub IsTold : Recorder A → Type 0
  IsTold r = r.last ≡ None

  -- the text has the comment of each step, and so many bytes
  pub record IsSettled (r : Recorder A) (len : ℕ) : Type 0 where
    pub told : r.last ≡ None
    pub whole : len ≡ length (string_bytes r.text)

  -- Nothing of the text in front was handed out yet. If there is none, nothing is left.
  pub record HasTurned (r : Recorder A) : Type 0 where
    pub fresh : r.read ≡ 0
    pub all : string_bytes r.reading ≡ [] → unread r ≡ []
