-- The lines that were heard, and what they are answered, one line at a time.
use Rattle.std.proofs.Common.{◌≡◌, ℕ, suc, ◌+◌, ◌<◌, Bool, true, false, not, cond, eqb, List, [], ◌∷◌, ◌++◌, length, take, drop, Some, None, refl, ap, subst, arith, one-add}
use Rattle.std.specs.Prelude.{position}
use Rattle.std.specs.List.{position_or_len}
use Rattle.std.proofs.lemmas.Bool.{eqb-true}
use Rattle.std.proofs.lemmas.List.{take_all}
use Rattle.pl_words.proofs.Places.{place_of, nowhere}
use Rattle.pl_model.specs.Script.{lines, onto_first}
use Rattle.pl_script.specs.Live.{onto_ended, ended_lines}
use Rattle.pl_script.specs.LiveText.{HasNoFeed}

-- ---- bytes without a line feed

pub no_feed-append : (a b : List ℕ) → HasNoFeed a → HasNoFeed b → HasNoFeed (a ++ b)
no_feed-append [] b p q = q
no_feed-append (c ∷ a) b p q = (p.0, no_feed-append a b p.1 q)

abbrev is_feed : ℕ → Bool
is_feed c = eqb c 10

abbrev place : List ℕ → ℕ
place cs = position_or_len is_feed cs

front_more : (c : ℕ) (cs : List ℕ) (b : Bool) → eqb c 10 ≡ b → HasNoFeed (take (place cs) cs) → HasNoFeed (take (cond (not b) (1 + place cs) 0) (c ∷ cs))
front_more c cs true e h = tt
front_more c cs false e h = rw one-add (e, h)

-- before the first line feed there is none
pub front_free : (cs : List ℕ) → HasNoFeed (take (place cs) cs)
front_free [] = tt
front_free (c ∷ cs) = front_more c cs (eqb c 10) refl (front_free cs)

-- ---- the lines

pub lines-nil : lines [] ≡ []
unfolding lines
lines-nil = refl

pub ended-nil : ended_lines [] ≡ []
unfolding ended_lines
ended-nil = refl

lines_step : (c : ℕ) (l rest : List ℕ) (b : Bool) → b ≡ false → (cs : List ℕ) → lines cs ≡ l ∷ lines rest → cond b ([] ∷ lines cs) (onto_first c (lines cs)) ≡ (c ∷ l) ∷ lines rest
lines_step c l rest true e cs h = absurd cc
lines_step c l rest false e cs h = rw h refl

-- a line that a line feed ends
pub lines-feed : (l rest : List ℕ) → HasNoFeed l → lines (l ++ (10 ∷ rest)) ≡ l ∷ lines rest
unfolding lines
lines-feed [] rest p = refl
lines-feed (c ∷ l) rest p = lines_step c l rest (eqb c 10) p.0 (l ++ (10 ∷ rest)) (lines-feed l rest p.1)

ended_step : (c : ℕ) (l rest : List ℕ) (b : Bool) → b ≡ false → (cs : List ℕ) → ended_lines cs ≡ l ∷ ended_lines rest → cond b ([] ∷ ended_lines cs) (onto_ended c (ended_lines cs)) ≡ (c ∷ l) ∷ ended_lines rest
ended_step c l rest true e cs h = absurd cc
ended_step c l rest false e cs h = rw h refl

pub ended-feed : (l rest : List ℕ) → HasNoFeed l → ended_lines (l ++ (10 ∷ rest)) ≡ l ∷ ended_lines rest
unfolding ended_lines
ended-feed [] rest p = refl
ended-feed (c ∷ l) rest p = ended_step c l rest (eqb c 10) p.0 (l ++ (10 ∷ rest)) (ended-feed l rest p.1)

none_step : (c : ℕ) (b : Bool) → b ≡ false → (cs : List ℕ) → ended_lines cs ≡ [] → cond b ([] ∷ ended_lines cs) (onto_ended c (ended_lines cs)) ≡ []
none_step c true e cs h = absurd cc
none_step c false e cs h = rw h refl

-- where no line feed is, no line is ended
pub ended-none : (l : List ℕ) → HasNoFeed l → ended_lines l ≡ []
unfolding ended_lines
ended-none [] p = refl
ended-none (c ∷ l) p = none_step c (eqb c 10) p.0 l (ended-none l p.1)

last_step : (c : ℕ) (l : List ℕ) (b : Bool) → b ≡ false → HasNoFeed l → (HasNoFeed l → 0 < length l → lines l ≡ l ∷ []) → cond b ([] ∷ lines l) (onto_first c (lines l)) ≡ (c ∷ l) ∷ []
unfolding lines
last_step c l true e p h = absurd cc
last_step c [] false e p h = refl
last_step c (d ∷ l) false e p h =
    let rest : lines (d ∷ l) ≡ (d ∷ l) ∷ [] = h p (omega arith) in
    rw rest refl

-- a last line that lacks its line feed
pub lines-last : (l : List ℕ) → HasNoFeed l → 0 < length l → lines l ≡ l ∷ []
unfolding lines
lines-last [] p lt = absurd (omega arith)
lines-last (c ∷ l) p lt = last_step c l (eqb c 10) p.0 p.1 (lines-last l)

-- ---- the place of the first line feed

cut_more : (c : ℕ) (cs : List ℕ) (b : Bool) → eqb c 10 ≡ b → (place cs < length cs → cs ≡ take (place cs) cs ++ (10 ∷ drop (place cs + 1) cs))
    → cond (not b) (1 + place cs) 0 < suc (length cs) → c ∷ cs ≡ take (cond (not b) (1 + place cs) 0) (c ∷ cs) ++ (10 ∷ drop (cond (not b) (1 + place cs) 0 + 1) (c ∷ cs))
cut_more c cs true e h lt = ap (λ x. x ∷ cs) (eqb-true c 10 e)
cut_more c cs false e h lt =
    let rest : cs ≡ take (place cs) cs ++ (10 ∷ drop (place cs + 1) cs) = h (omega (arith, lt)) in
    let n : (1 + place cs) + 1 ≡ suc (place cs + 1) = omega arith in
    rw (n, one-add) (ap (λ x. c ∷ x) rest)

cut_at_first : (cs : List ℕ) → place cs < length cs → cs ≡ take (place cs) cs ++ (10 ∷ drop (place cs + 1) cs)
cut_at_first [] lt = absurd (omega arith)
cut_at_first (c ∷ cs) lt = cut_more c cs (eqb c 10) refl (cut_at_first cs) lt

pub feed_at : (cs : List ℕ) (n : ℕ) → position is_feed cs ≡ Some n → (cs ≡ take n cs ++ (10 ∷ drop (n + 1) cs)) × HasNoFeed (take n cs)
feed_at cs n found =
    let at = place_of is_feed cs n found in
    (rw at.0 at (cut_at_first cs at.1), rw at.0 at (front_free cs))

pub feed_nowhere : (cs : List ℕ) → position is_feed cs ≡ None → HasNoFeed cs
feed_nowhere cs none = subst HasNoFeed (take_all (place cs) cs (nowhere is_feed cs none)) (front_free cs)
