-- The words of a line in turn, and what is expected of them.
use Rattle.std.proofs.Common.{◌≡◌, ℕ, ◌+◌, ◌≤◌, List, [], ◌∷◌, length, Some, None, refl, ◌∙◌, arith}
use Rattle.std.specs.List.{slice_split}
use Rattle.std.proofs.lemmas.List.Splits.{length-slice_split}
use Rattle.std.proofs.lemmas.List.Sums.{length-filter, count_by-le-length}
use Rattle.pl_model.specs.declared.script.Version.{Version}
use Rattle.pl_model.specs.Words.{words, is_blank, is_nonempty}
use Rattle.pl_words.specs.declared.reasons.Wanted.{Wanted}
use Rattle.pl_words.specs.declared.reasons.Reason.TheVariants.{Surplus}
use Rattle.pl_lines.specs.declared.kinds.Expected.{Expected}
use Rattle.pl_lines.specs.declared.explain.Explanation.{Explanation}
use Rattle.pl_lines.specs.Explained.{next_expected, at_fault, end_fault, word_fault, first_fault}

-- there is at most a word more than bytes
pub few_words : (line : List ℕ) → length (words line) ≤ length line + 1
unfolding words
few_words line =
    omega (arith, length-filter is_nonempty (slice_split is_blank line), count_by-le-length is_nonempty (slice_split is_blank line), length-slice_split is_blank line, count_by-le-length is_blank line)

-- Where the loop has come so far.
module _ (version : Version) (first number : ℕ) (expected ahead : List Expected) (rest left : List (List ℕ)) (so_far : first_fault version first expected rest ≡ first_fault version number ahead left) where
  pub at_end : left ≡ [] → first_fault version first expected rest ≡ end_fault number ahead
  unfolding first_fault
  at_end none = so_far ∙ rw none refl

  module _ (word : List ℕ) (others : List (List ℕ)) (is : left ≡ word ∷ others) where
    pub surplus : next_expected ahead ≡ None → first_fault version first expected rest ≡ at_fault number Surplus
    unfolding first_fault
    surplus none = so_far ∙ rw (is, none, first_fault) refl

    module _ (kind : Wanted) (behind : List Expected) (next : next_expected ahead ≡ Some (kind, behind)) where
      pub here : (fault : Explanation) → word_fault version number kind word ≡ Some fault → first_fault version first expected rest ≡ Some fault
      unfolding first_fault
      here fault says = so_far ∙ rw (is, next, says, first_fault) refl

      pub further : word_fault version number kind word ≡ None → first_fault version first expected rest ≡ first_fault version (number + 1) behind others
      unfolding first_fault
      further says = so_far ∙ rw (is, next, says, first_fault) refl
