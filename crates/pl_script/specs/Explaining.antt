-- Why a line of a script isn't a command.
use Rattle.std.specs.Prelude.{◌≡◌, ⊤, ℕ, ◌-◌, List, length, nat_le, Bool, true, false, if◌then◌else◌, Option, None, Result, Ok, Err}
use Rattle.std.specs.List.{slice_get}
use Rattle.pl_model.specs.declared.script.Version.{Version}
use Rattle.pl_model.specs.Words.{◌>>=◌, words, without_return}
use Rattle.pl_model.specs.Script.{lines, version_of}
use Rattle.pl_lines.specs.declared.explain.Explanation.{Explanation}
use Rattle.pl_lines.specs.Explained.{explained}
use Rattle.pl_script.specs.Talk.{Talk}
use Rattle.pl_script.specs.Live.{most_line_bytes}
use Rattle.pl_script.specs.declared.fault.ScriptFault.{ScriptFault}
use Rattle.pl_script.specs.declared.fault.ScriptFault.TheVariants as faults
use Rattle.pl_script.specs.declared.peer.LiveTotals.{LiveTotals}
use Rattle.pl_script.specs.declared.peer.LiveFault.{LiveFault}
use Rattle.pl_script.specs.declared.peer.LiveFault.TheVariants as live

-- what is wrong with a line of this version; nothing if it isn't bad
abbrev pub why_of : Version → List ℕ → Option Explanation
why_of version l = explained version (words (without_return l))

-- what is wrong with the line of this number of a script, counted from 1, also if the first names the version
abbrev pub why_bad : List ℕ → ℕ → Option Explanation
why_bad script n = slice_get (lines script) (n - 1) >>= λ l. why_of (version_of script) l

-- what a run or a check of the script tells: why its line is bad, if it ends at one, and else what was told before
abbrev pub IsExplained : {X : Type 0} → List ℕ → Result X ScriptFault → (old new : Option Explanation) → Type 0
IsExplained script (Err (faults.BadLine n)) old new = new ≡ why_bad script n
IsExplained script (Ok x) old new = new ≡ old
IsExplained script (Err faults.Read) old new = new ≡ old
IsExplained script (Err faults.Write) old new = new ≡ old
IsExplained script (Err faults.TooLong) old new = new ≡ old
IsExplained script (Err faults.NoMemory) old new = new ≡ old

-- ---- live runs

-- of a line that is too long nothing is told
abbrev pub why_of_held : Version → Bool → List ℕ → Option Explanation
why_of_held version true held = None
why_of_held version false held = why_of version held

abbrev pub why_if_short : Version → List ℕ → Option Explanation
why_if_short version l = if nat_le (length l) most_line_bytes then why_of version l else None

-- the same of the line of this number, of those that were heard
abbrev pub why_live : List ℕ → ℕ → Option Explanation
why_live heard n = slice_get (lines heard) (n - 1) >>= λ l. why_if_short (version_of heard) l

-- if the fault is a bad line, this is what is wrong with it
abbrev pub IsWhy : Talk → LiveFault → Option Explanation → Type 0
IsWhy talk (live.BadLine n) why = why ≡ why_live talk.heard n
IsWhy talk live.Read why = ⊤
IsWhy talk live.Write why = ⊤
IsWhy talk live.TooLong why = ⊤
IsWhy talk live.NoMemory why = ⊤

abbrev pub IsWhyOf : {X : Type 0} → Talk → Result X LiveFault → Option Explanation → Type 0
IsWhyOf talk (Ok x) why = ⊤
IsWhyOf talk (Err fault) why = IsWhy talk fault why

-- what was found is handed out if the run ended at a bad line, and else what was told before stays
abbrev pub HandsOutWhy : Result LiveTotals LiveFault → (found old new : Option Explanation) → Type 0
HandsOutWhy (Err (live.BadLine n)) found old new = new ≡ found
HandsOutWhy (Ok counted) found old new = new ≡ old
HandsOutWhy (Err live.Read) found old new = new ≡ old
HandsOutWhy (Err live.Write) found old new = new ≡ old
HandsOutWhy (Err live.TooLong) found old new = new ≡ old
HandsOutWhy (Err live.NoMemory) found old new = new ≡ old

-- what a live run tells: why its line is bad, if it ends at one, and else what was told before
abbrev pub IsExplainedLive : Talk → Result LiveTotals LiveFault → (old new : Option Explanation) → Type 0
IsExplainedLive talk (Err (live.BadLine n)) old new = new ≡ why_live talk.heard n
IsExplainedLive talk (Ok counted) old new = new ≡ old
IsExplainedLive talk (Err live.Read) old new = new ≡ old
IsExplainedLive talk (Err live.Write) old new = new ≡ old
IsExplainedLive talk (Err live.TooLong) old new = new ≡ old
IsExplainedLive talk (Err live.NoMemory) old new = new ≡ old
