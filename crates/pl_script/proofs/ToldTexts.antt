-- What is told of comparisons, one more at a time.
use Rattle.std.proofs.Common.{◌≡◌, ◌⊎◌, inl, inr, ℕ, ◌+◌, ◌-◌, ◌<◌, Bool, true, false, not, cond, List, [], ◌∷◌, ◌++◌, length, take, refl, sym, ap, ◌∙◌, append_assoc, arith}
use Rattle.std.specs.Prelude.{filter, count_by}
use Rattle.std.specs.List.{flat_map}
use Rattle.std.specs.Str.{bytes_eq}
use Rattle.std.proofs.Math.Seq.{take-append_seam}
use Rattle.std.proofs.lemmas.Grind.{flat_map-append}
use Rattle.std.proofs.lemmas.List.{append-nil, length-append, take-append-le}
use Rattle.std.proofs.lemmas.List.Elements.{filter-append}
use Rattle.std.proofs.lemmas.List.Sums.{length-filter, sum_by_push}
use Rattle.pl_script.specs.Checked.{Comparison, differs, difference_text, told, told_text, counts_of}
use Rattle.pl_script.specs.Comparing.{Tallies, text_of}
use Rattle.pl_script.specs.declared.comparing.Checked.{Checked}

-- the text of a line is what stands before its line feed
pub text_of-line : (text : List ℕ) → text_of (text ++ 10 ∷ []) ≡ text
text_of-line text =
    let n : length (text ++ 10 ∷ []) - 1 ≡ length text = omega (arith, length-append text (10 ∷ [])) in
    ap (λ k. take k (text ++ 10 ∷ [])) n ∙ take-append_seam text (10 ∷ [])

-- the same of a text behind none
pub text_of-said : (printed before text : List ℕ) → printed ≡ before ++ (text ++ 10 ∷ []) → before ≡ [] → text_of printed ≡ text
text_of-said printed before text e none = rw (e, none) (text_of-line text)

-- ---- the differences

-- a comparison more, that differs or not
one_more : (compared : List Comparison) (c : Comparison) (b : Bool) → bytes_eq c.expects c.answered ≡ b
    → filter differs (compared ++ c ∷ []) ≡ filter differs compared ++ cond (not b) (c ∷ []) []
one_more compared c b e = filter-append differs compared (c ∷ []) ∙ ap (λ same. filter differs compared ++ cond (not same) (c ∷ []) []) e

is_empty : {X : Type 0} (xs : List X) → length xs ≡ 0 → xs ≡ []
is_empty [] e = refl
is_empty (x ∷ xs) e = absurd (omega arith)

-- another difference behind these, where all are told or it is the first
told-next : (all : Bool) (found : List Comparison) (c : Comparison) → (all ≡ true) ⊎ (length found ≡ 0) → told all (found ++ c ∷ []) ≡ told all found ++ c ∷ []
told-next true found c why = refl
told-next false found c (inl e) = absurd (cc e)
told-next false found c (inr e) = rw (is_empty found e) refl

-- the first of these is told, and no other
told-later : (all : Bool) (found : List Comparison) (c : Comparison) → all ≡ false → 0 < length found → told all (found ++ c ∷ []) ≡ told all found
told-later true found c e some = absurd (cc e)
told-later false found c e some = take-append-le 1 found (c ∷ []) (omega arith)

-- what is told of more begins with what is told of these
told-front : (all : Bool) (found others : List Comparison) → (more : List Comparison) × (told all (found ++ others) ≡ told all found ++ more)
told-front true found others = (others, refl)
told-front false [] others = (take 1 others, refl)
told-front false (c ∷ cs) others = ([], sym (append-nil _) ∙ ap (λ t. t ++ []) (take-append-le 1 (c ∷ cs) others (omega arith)))

pub told_text-front : (all : Bool) (compared others : List Comparison) → (more : List ℕ) × (told_text all (compared ++ others) ≡ told_text all compared ++ more)
told_text-front all compared others =
    let front = told-front all (filter differs compared) (filter differs others) in (
      flat_map difference_text front.0,
      ap (λ ds. flat_map difference_text (told all ds)) (filter-append differs compared others)
          ∙ ap (flat_map difference_text) front.1
          ∙ flat_map-append difference_text (told all (filter differs compared)) front.0,
    )

-- ---- a tally with one comparison more

counted-next : (compared : List Comparison) (c : Comparison) (b : Bool) (old : Checked) → bytes_eq c.expects c.answered ≡ b → old ≡ counts_of compared
    → record { compared = old.compared + 1; different = old.different + cond (not b) 1 0 } ≡ counts_of (compared ++ c ∷ [])
counted-next compared c b old e is =
    let n : length compared + 1 ≡ length (compared ++ c ∷ []) = omega (arith, length-append compared (c ∷ [])) in
    let d : count_by differs compared + cond (not b) 1 0 ≡ count_by differs (compared ++ c ∷ []) =
    ap (λ same. count_by differs compared + cond (not same) 1 0) (sym e) ∙ sym (sum_by_push (λ x. cond (differs x) 1 0) compared c) in
    rw (is, n, d) refl

-- the text that was expected was answered
pub tallies_same : (all : Bool) (c : Comparison) (before : List ℕ) (old : Checked) → bytes_eq c.expects c.answered ≡ true
    → Tallies all c before before old (record { compared = old.compared + 1; different = old.different })
tallies_same all c before old e = λ front compared tally. record {
  told = tally.told ∙ ap (λ ds. flat_map difference_text (told all ds)) (sym (one_more compared c true e ∙ append-nil (filter differs compared)));
  counted = ap (λ d. record { compared = old.compared + 1; different = d }) (omega arith) ∙ counted-next compared c true old e tally.counted;
}

-- another was, and it is told
pub tallies_told : (all : Bool) (c : Comparison) (before after : List ℕ) (old : Checked) → bytes_eq c.expects c.answered ≡ false → (all ≡ true) ⊎ (old.different ≡ 0)
    → after ≡ before ++ difference_text c → Tallies all c before after old (record { compared = old.compared + 1; different = old.different + 1 })
tallies_told all c before after old e why text = λ front compared tally.
    let none : (all ≡ true) ⊎ (length (filter differs compared) ≡ 0) =
    elim why [ inl every ↦ inl every | inr first ↦ inr (length-filter differs compared ∙ sym (ap (λ (t : Checked). t.different) tally.counted) ∙ first) ] in
    record {
      told =
          ap (λ t. front ++ t) text
          ∙ sym (append_assoc front before (difference_text c))
          ∙ ap (λ t. t ++ difference_text c) tally.told
          ∙ ap (λ t. told_text all compared ++ t) (sym (append-nil (difference_text c)))
          ∙ sym (flat_map-append difference_text (told all (filter differs compared)) (c ∷ []))
          ∙ ap (flat_map difference_text) (sym (told-next all (filter differs compared) c none))
          ∙ ap (λ ds. flat_map difference_text (told all ds)) (sym (one_more compared c false e));
      counted = counted-next compared c false old e tally.counted;
    }

-- another was, and it isn't told, as it isn't the first
pub tallies_later : (all : Bool) (c : Comparison) (before : List ℕ) (old : Checked) → bytes_eq c.expects c.answered ≡ false → all ≡ false → 0 < old.different
    → Tallies all c before before old (record { compared = old.compared + 1; different = old.different + 1 })
tallies_later all c before old e one some = λ front compared tally.
    let found : 0 < length (filter differs compared) = omega (arith, length-filter differs compared, ap (λ (t : Checked). t.different) tally.counted) in
    record {
      told =
          tally.told
          ∙ ap (flat_map difference_text) (sym (told-later all (filter differs compared) c one found))
          ∙ ap (λ ds. flat_map difference_text (told all ds)) (sym (one_more compared c false e));
      counted = counted-next compared c false old e tally.counted;
    }
