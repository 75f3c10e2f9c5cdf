-- How a step becomes part of the record.
use Rattle.std.proofs.Common.{◌≡◌, ◌≤◌, ℕ, false, Option, List, [], ◌++◌, length, take, drop, refl, sym, ap, ◌∙◌, subst, append_assoc, take-append-drop, arith}
use Rattle.std.specs.Prelude.{⊤, MatchOption, is_some}
use Rattle.std.specs.declared.option.Option.TheVariants.{None, Some}
use Rattle.std.specs.Str.{IsUtf8}
use Rattle.std.specs.String.Boundary.{IsSplitPoint}
use Rattle.std.proofs.lemmas.Str.{IsCharBoundary-from_take}
use Rattle.std.proofs.lemmas.List.{append-nil, length-append}
use Rattle.std.proofs.Math.Seq.{take-append_seam}
use Rattle.pl_model.specs.declared.replies.Reply.{Reply}
use Rattle.pl_recorder.specs.Unread.{owed, text_before, line_in}

-- a line begins where a character ends
pub begins : (text line now : List ℕ) (start : ℕ) → now ≡ text ++ line → start ≡ length text → IsUtf8 text → IsUtf8 now → IsSplitPoint now start
begins text line now start added whole before after =
    let few : start ≤ length now = omega (arith, ap length added, length-append text line, whole) in
    let cut : take start now ≡ text = ap (λ n. take n now) whole ∙ ap (take (length text)) added ∙ take-append_seam text line in
    let place = IsCharBoundary-from_take now start after few (subst IsUtf8 (sym cut) before) in
    (place.0, λ _. place.1)

-- what stands in front, the text, the line at its end, and the comment
joined : (front text comment : List ℕ) (start : ℕ) → front ++ (text ++ comment) ≡ (front ++ (take start text ++ [])) ++ (drop start text ++ comment)
joined front text comment start =
    ap (λ l. front ++ (l ++ comment)) (sym (take-append-drop start text))
    ∙ ap (λ l. front ++ l) (append_assoc (take start text) (drop start text) comment)
    ∙ sym (append_assoc front (take start text) (drop start text ++ comment))
    ∙ ap (λ l. (front ++ l) ++ (drop start text ++ comment)) (sym (append-nil (take start text)))

module _ {A : Type 0} where
  -- the step whose line was written is the last one now
  pub ends : (front text : List ℕ) (line : Option ℕ) (last : Option (Reply A)) (comment : List ℕ) → ((start : ℕ) → line ≡ Some start → IsSplitPoint text start × (is_some last ≡ false)) →
      MatchOption (line_in line text) ⊤ (λ l. front ++ (text ++ comment) ≡ (front ++ (text_before line text ++ owed last)) ++ (l ++ comment))
  ends front text None last comment begun = tt
  ends front text (Some start) None comment begun = joined front text comment start
  ends front text (Some start) (Some reply) comment begun = absurd (let no = (begun start refl).1 in cc)
