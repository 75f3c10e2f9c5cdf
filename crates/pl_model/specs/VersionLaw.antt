-- Which version reads a script: its first line alone says so.
use Rattle.std.specs.Prelude.{◌≡◌, ◌≢◌, ℕ, List, ◌∷◌, Bool, codes, count_by}
use Rattle.pl_model.specs.declared.calls.Limits.{Limits}
use Rattle.pl_model.specs.declared.script.Version.{Version}
use Rattle.pl_model.specs.declared.script.Version.TheVariants.{One, Two}
use Rattle.pl_model.specs.Numbered.{opening}
use Rattle.pl_model.specs.Words.{without_return}
use Rattle.pl_model.specs.Script.{lines, asked, answers, is_step, first_bad, bad_line, output, totals}

-- These lines of the script are read by the version, and their replies are shown by it. The first of them has this number.
pub record IsReadBy (A : Type 0) (script : List ℕ) (version : Version) (number : ℕ) (ls : List (List ℕ)) : Type 0 where
  pub prints : (limits : Limits) (marks : List Bool) → output A script limits marks ≡ answers version (opening limits) (asked {A = A} version ls) marks
  pub bad : bad_line A script ≡ first_bad A version number ls
  pub steps : (marks : List Bool) → (totals A script marks).steps ≡ count_by is_step (asked {A = A} version ls)

-- A script whose first line isn't `piperun 2` is one of version 1, with all of its lines. So each script that was one before there
-- was version 2 prints what it printed.
abbrev pub OthersAreOfVersion1 : Type 0 → Type 0
OthersAreOfVersion1 A =
    (script : List ℕ) → ((first : List ℕ) (rest : List (List ℕ)) → lines script ≡ first ∷ rest → without_return first ≢ codes "piperun 2") →
    IsReadBy A script One 1 (lines script)

-- A script whose first line is `piperun 2` is one of version 2, with the lines behind it. That line prints nothing.
abbrev pub FirstLineNamesVersion2 : Type 0 → Type 0
FirstLineNamesVersion2 A =
    (script first : List ℕ) (rest : List (List ℕ)) → lines script ≡ first ∷ rest → without_return first ≡ codes "piperun 2" →
    IsReadBy A script Two 2 rest
