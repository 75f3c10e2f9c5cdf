-- Which version reads a script.
use Rattle.std.proofs.Common.{◌≡◌, ℕ, Bool, true, false, List, [], ◌∷◌, refl}
use Rattle.std.specs.Prelude.{codes}
use Rattle.std.proofs.lemmas.Slice.Eq.{bytes_eq-Decides}
use Rattle.pl_model.specs.declared.script.Version.TheVariants.{One}
use Rattle.pl_model.specs.Words.{without_return}
use Rattle.pl_model.specs.Script.{lines, names_version_2, version_of, version_of_lines}
use Rattle.pl_model.specs.VersionLaw.{IsReadBy, OthersAreOfVersion1, FirstLineNamesVersion2}

read_by_one : (A : Type 0) (script : List ℕ) → version_of script ≡ One → IsReadBy A script One 1 (lines script)
read_by_one A script is = record {
  prints = λ limits marks. rw is refl;
  bad = rw is refl;
  steps = λ marks. rw is refl;
}

names_none : (ls : List (List ℕ)) → ((first : List ℕ) (rest : List (List ℕ)) → ls ≡ first ∷ rest → without_return first ≡ codes "piperun 2" → ⊥) → version_of_lines ls ≡ One
names_none [] other = refl
names_none (first ∷ rest) other = by (names_version_2 first) refl
  where
    by : (b : Bool) → names_version_2 first ≡ b → version_of_lines (first ∷ rest) ≡ One
    by true e = absurd (other first rest refl ((bytes_eq-Decides (without_return first) (codes "piperun 2")).0 e))
    by false e = rw e refl

pub others_are_of_version_1 : (A : Type 0) → OthersAreOfVersion1 A
others_are_of_version_1 A script other = read_by_one A script (names_none (lines script) other)

pub first_line_names_version_2 : (A : Type 0) → FirstLineNamesVersion2 A
first_line_names_version_2 A script first rest parts names = record {
  prints = λ limits marks. rw (parts, names) refl;
  bad = rw (parts, names) refl;
  steps = λ marks. rw (parts, names) refl;
}
