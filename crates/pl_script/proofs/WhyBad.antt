-- Why a line of a script isn't a command.
use Rattle.std.proofs.Common.{◌≡◌, ℕ, zero, suc, ◌+◌, ◌-◌, ◌<◌, ◌≤◌, Bool, true, false, cond, List, [], ◌∷◌, ◌++◌, length, Option, Some, None, Result, Ok, Err, refl, ap, ◌∙◌, sym, subst, arith}
use Rattle.std.specs.Prelude.{IfSome, nat_le}
use Rattle.std.specs.List.{slice_get}
use Rattle.pl_model.specs.declared.script.Version.{Version}
use Rattle.pl_model.specs.Script.{lines, version_of_lines, version_of}
use Rattle.pl_model.specs.Words.{◌>>=◌}
use Rattle.pl_lines.specs.declared.explain.Explanation.{Explanation}
use Rattle.pl_script.specs.Streams.{WasNotRead}
use Rattle.pl_script.specs.Talk.{Talk}
use Rattle.pl_script.specs.Live.{most_line_bytes}
use Rattle.pl_script.specs.LiveSteps.{IsHeld, is_unwritable}
use Rattle.pl_script.specs.Explaining.{why_of, why_bad, why_of_held, why_if_short, why_live, IsExplained, IsWhyOf, HandsOutWhy, IsExplainedLive}
use Rattle.pl_script.specs.declared.fault.ScriptFault.{ScriptFault}
use Rattle.pl_script.specs.declared.fault.ScriptFault.TheVariants as faults
use Rattle.pl_script.specs.declared.peer.LiveTotals.{LiveTotals}
use Rattle.pl_script.specs.declared.peer.LiveFault.{LiveFault}
use Rattle.pl_script.specs.declared.peer.LiveFault.TheVariants as live

-- a line behind the first
pub get_behind : (l : List ℕ) (ls : List (List ℕ)) (k : ℕ) → 0 < k → slice_get (l ∷ ls) k ≡ slice_get ls (k - 1)
get_behind l ls zero some = absurd (omega (arith, some))
get_behind l ls (suc k) some =
    let e : suc k - 1 ≡ k = omega arith in
    rw e refl

-- ---- a script that is held

-- no line is left at the place of this number
pub nothing_there : (script rest : List ℕ) (n k : ℕ) → slice_get (lines script) (n - 1) ≡ slice_get (lines rest) k → lines rest ≡ [] → why_bad script n ≡ None
nothing_there script rest n k same none = ap (λ found. found >>= λ l. why_of (version_of script) l) (same ∙ ap (λ ls. slice_get ls k) none)

-- the first line that is left is that of this number
pub first_there : (script rest : List ℕ) (n k : ℕ) (l : List ℕ) (ls : List (List ℕ)) → slice_get (lines script) (n - 1) ≡ slice_get (lines rest) k → lines rest ≡ l ∷ ls → k ≡ 0
    → why_bad script n ≡ why_of (version_of script) l
first_there script rest n k l ls same parts first =
    ap (λ found. found >>= λ x. why_of (version_of script) x) (same ∙ ap (λ xs. slice_get xs k) parts ∙ ap (slice_get (l ∷ ls)) first)

-- what holds of the bytes that were read holds of the script, where the reader told it
pub of_known : (P : List ℕ → Type 0) (remaining : Option (List ℕ)) (held read : List ℕ) → read ≡ held → IfSome remaining (λ script. held ≡ script) → P read → IfSome remaining P
of_known P None held read all known h = tt
of_known P (Some script) held read all known h = subst P (all ∙ known) h

-- a script that wasn't read has no bad line
pub unexplained : (X : Type 0) (remaining : Option (List ℕ)) (before after : Bool) (fault : ScriptFault) (why : Option Explanation) → WasNotRead remaining before after fault
    → IfSome remaining (λ script. IsExplained {X = X} script (Err fault) why why)
unexplained X None before after fault why h = tt
unexplained X (Some script) before after faults.Read why h = refl
unexplained X (Some script) before after faults.TooLong why h = refl
unexplained X (Some script) before after faults.NoMemory why h = refl
unexplained X (Some script) before after faults.Write why h = absurd h
unexplained X (Some script) before after (faults.BadLine n) why h = absurd h

-- ---- a live run

-- the line behind these
get_at : (ls : List (List ℕ)) (l : List ℕ) (others : List (List ℕ)) → slice_get (ls ++ (l ∷ others)) (length ls) ≡ Some l
get_at [] l others = refl
get_at (x ∷ ls) l others = get_at ls l others

-- the first line names the version
same_version : (ls : List (List ℕ)) (l : List ℕ) (others : List (List ℕ)) → version_of_lines (ls ++ (l ∷ others)) ≡ version_of_lines (ls ++ l ∷ [])
same_version [] l others = refl
same_version (w ∷ ws) l others = refl

of_long : (v : Version) (l : List ℕ) (b : Bool) → nat_le (length l) most_line_bytes ≡ b → most_line_bytes < length l → None ≡ cond b (why_of v l) None
of_long v l true e long = absurd (grind (arith, e, long))
of_long v l false e long = refl

of_short : (v : Version) (l : List ℕ) (b : Bool) → nat_le (length l) most_line_bytes ≡ b → length l ≤ most_line_bytes → why_of v l ≡ cond b (why_of v l) None
of_short v l true e short = refl
of_short v l false e short = absurd (grind (arith, e, short))

-- why the line is bad, by what is held of it
why_held : (v : Version) (b : Bool) (items l : List ℕ) → IsHeld b items l → why_of_held v b items ≡ why_if_short v l
why_held v true items l held = of_long v l (nat_le (length l) most_line_bytes) refl held
why_held v false items l held = ap (why_of v) held.0 ∙ of_short v l (nat_le (length l) most_line_bytes) refl held.1

-- what is wrong with the line behind so many of these
abbrev at_place : List (List ℕ) → ℕ → Option Explanation
at_place ls k = slice_get ls k >>= λ l. why_if_short (version_of_lines ls) l

-- the line that is held is that of the number
pub why_heard : (heard : List ℕ) (ls : List (List ℕ)) (l : List ℕ) (others : List (List ℕ)) (v : Version) (n : ℕ) (b : Bool) (items : List ℕ) (why : Option Explanation)
    → lines heard ≡ ls ++ (l ∷ others) → v ≡ version_of_lines (ls ++ l ∷ []) → n ≡ length ls + 1 → IsHeld b items l → why ≡ why_of_held v b items → why ≡ why_live heard n
why_heard heard ls l others v n b items why parts version number held is =
    let k : n - 1 ≡ length ls = omega (arith, number) in
    let there : why_live heard n ≡ why_if_short (version_of_lines (ls ++ l ∷ [])) l =
    ap (λ xs. at_place xs (n - 1)) parts
    ∙ ap (at_place (ls ++ (l ∷ others))) k
    ∙ ap (λ found. found >>= λ x. why_if_short (version_of_lines (ls ++ (l ∷ others))) x) (get_at ls l others)
    ∙ ap (λ w. why_if_short w l) (same_version ls l others) in
    is ∙ why_held v b items l held ∙ ap (λ w. why_if_short w l) version ∙ sym there

-- what was found is handed out
pub handed_out : (t : Talk) (result : Result LiveTotals LiveFault) (found old new : Option Explanation) → IsWhyOf t result found → HandsOutWhy result found old new → IsExplainedLive t result old new
handed_out t (Ok counted) found old new is h = h
handed_out t (Err live.Read) found old new is h = h
handed_out t (Err live.Write) found old new is h = h
handed_out t (Err live.TooLong) found old new is h = h
handed_out t (Err live.NoMemory) found old new is h = h
handed_out t (Err (live.BadLine n)) found old new is h = h ∙ is

-- a run that couldn't write came to no bad line
pub nothing_handed_out : (t : Talk) (result : Result LiveTotals LiveFault) (why : Option Explanation) → is_unwritable result ≡ true → IsExplainedLive t result why why
nothing_handed_out t (Err live.Write) why e = refl
nothing_handed_out t (Ok counted) why e = refl
nothing_handed_out t (Err live.Read) why e = refl
nothing_handed_out t (Err live.TooLong) why e = refl
nothing_handed_out t (Err live.NoMemory) why e = refl
nothing_handed_out t (Err (live.BadLine n)) why e = absurd cc
