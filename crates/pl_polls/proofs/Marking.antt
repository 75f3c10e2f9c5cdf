-- Entries of a poll, marked one by one.
use Rattle.std.proofs.Common.{◌≡◌, refl, ap, ℕ, zero, suc, ◌<◌, List, [], ◌∷◌, ◌++◌, map, take, drop, length, slice_index_or, slice_set, ◌∙◌, take-append-drop, arith}
use Rattle.pl_model.specs.declared.flags.PollMask.{PollMask}
use Rattle.pl_polls.specs.declared.entries.PollEntry.{PollEntry}
use Rattle.pl_polls.specs.Entries.{marked}
use Rattle.pl_polls.specs.Into.{found_in}

-- the entry at a place is marked, and then those behind it
pub mark_one : (es : List PollEntry) (ms : List PollMask) (i : ℕ) (d : PollEntry) (none : PollMask) → i < length es → i < length ms
    → let e = record (slice_index_or es i d) { revents = (slice_index_or ms i none).0 } in
    take (suc i) (slice_set es i e) ++ marked (drop (suc i) (slice_set es i e)) (drop (suc i) ms) ≡ take i es ++ marked (drop i es) (drop i ms)
mark_one [] ms i d none h k = absurd (omega arith)
mark_one (e ∷ es) [] i d none h k = absurd (omega arith)
mark_one (e ∷ es) (m ∷ ms) zero d none h k = refl
mark_one (e ∷ es) (m ∷ ms) (suc i) d none h k = ap (λ l. e ∷ l) (mark_one es ms i d none (omega arith) (omega arith))

marked_by_none : (es : List PollEntry) → marked es [] ≡ es
marked_by_none [] = refl
marked_by_none (e ∷ es) = refl

-- where no place is left, all are marked
pub marked_all : (es : List PollEntry) (ms : List PollMask) (i : ℕ) → (i < length es → i < length ms → ⊥) → take i es ++ marked (drop i es) (drop i ms) ≡ es
marked_all [] ms zero h = refl
marked_all (e ∷ es) [] zero h = refl
marked_all (e ∷ es) (m ∷ ms) zero h = absurd (h (omega arith) (omega arith))
marked_all [] ms (suc i) h = refl
marked_all (e ∷ es) [] (suc i) h = ap (λ l. e ∷ l) (ap (λ l. take i es ++ l) (marked_by_none (drop i es)) ∙ take-append-drop i es)
marked_all (e ∷ es) (m ∷ ms) (suc i) h = ap (λ l. e ∷ l) (marked_all es ms i (λ a b. h (omega arith) (omega arith)))

-- what the entries say then is what was found
pub found_marked : (es : List PollEntry) (ms : List PollMask) → length ms ≡ length es → map found_in (marked es ms) ≡ ms
found_marked [] [] same = refl
found_marked [] (m ∷ ms) same = absurd (omega (arith, same))
found_marked (e ∷ es) [] same = absurd (omega (arith, same))
found_marked (e ∷ es) (m ∷ ms) same = ap (λ l. m ∷ l) (found_marked es ms (omega (arith, same)))
