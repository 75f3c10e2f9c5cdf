-- Pieces under tags, and the pieces of a run.
use Rattle.std.proofs.Common.{◌≡◌, ◌≢◌, ◌⊎◌, inl, inr, ℕ, ◌+◌, ◌<◌, ◌≤◌, Bool, true, false, cond, List, [], ◌∷◌, ◌++◌, length, refl, sym, ◌∙◌, ap, append-nil, append_assoc, arith}
use Rattle.std.specs.Prelude.{map}
use Rattle.std.specs.List.{filter}
use Rattle.std.proofs.lemmas.Grind.{flat_map-append}
use Rattle.std.proofs.lemmas.List.{map-append}
use Rattle.std.proofs.lemmas.List.Elements.{filter-append}
use Rattle.pl_model.specs.declared.calls.Step.{Step}
use Rattle.pl_model.specs.declared.calls.Step.TheVariants.{Resume}
use Rattle.pl_model.specs.declared.replies.Reply.{Reply}
use Rattle.pl_model.specs.declared.replies.Reply.TheVariants.{Parked}
use Rattle.pl_model.specs.Numbered.{State, step}
use Rattle.pl_model.specs.Run.{after}
use Rattle.pl_model.specs.Streams.{added, taken_out, forgot, added_by, left_by}
use Rattle.pl_model.specs.Chunks.{Piece, Tag, AtPlace, ForgottenAt, same_tag, tag_answered, tag_of, piece, unless_empty, of, joined, piece_added, pieces_left, pieces_from}
use Rattle.pl_model.proofs.streams.Maps.{differ}

pub of_append : (t : Tag) (a b : List Piece) → of t (a ++ b) ≡ of t a ++ of t b
of_append t a b =
    ap (map (λ (x : Piece). x.bytes)) (filter-append (λ (x : Piece). same_tag x.tag t) a b)
    ∙ map-append (λ (x : Piece). x.bytes) (filter (λ (x : Piece). same_tag x.tag t) a) (filter (λ (x : Piece). same_tag x.tag t) b)

pub of_none : (t : Tag) (a b : List Piece) → of t a ≡ [] → of t (a ++ b) ≡ of t b
of_none t a b e = of_append t a b ∙ ap (λ z. z ++ of t b) e

-- one piece
pub of_same : (t : Tag) (bytes : List ℕ) → same_tag t t ≡ true → of t (piece t bytes) ≡ unless_empty bytes
of_same t [] e = refl
of_same t (b ∷ bs) e = ap (λ z. map (λ (x : Piece). x.bytes) (cond z (record { tag = t; bytes = b ∷ bs } ∷ []) [])) e

pub of_other : (t u : Tag) (bytes : List ℕ) → same_tag u t ≡ false → of t (piece u bytes) ≡ []
of_other t u [] e = refl
of_other t u (b ∷ bs) e = ap (λ z. map (λ (x : Piece). x.bytes) (cond z (record { tag = u; bytes = b ∷ bs } ∷ []) [])) e

pub of_empty : (t u : Tag) (bytes : List ℕ) → bytes ≡ [] → of t (piece u bytes) ≡ []
of_empty t u bytes e = ap (λ bs. of t (piece u bs)) e

pub join_piece : (t : Tag) (bytes : List ℕ) → joined (piece t bytes) ≡ bytes
join_piece t [] = refl
join_piece t (b ∷ bs) = append-nil (b ∷ bs)

pub join_append : (a b : List Piece) → joined (a ++ b) ≡ joined a ++ joined b
join_append a b = flat_map-append (λ (x : Piece). x.bytes) a b

answered_apart : {A : Type 0} (m n : ℕ) (reply : Reply A) → m ≢ n → same_tag (tag_answered m reply) (AtPlace n) ≡ false
answered_apart m n (Parked c) ne = refl
answered_apart m n reply ne = differ m n ne

pub place_apart : {A : Type 0} (m n : ℕ) (x : Step A) (reply : Reply A) → m ≢ n → same_tag (tag_of m x reply) (AtPlace n) ≡ false
place_apart m n (Resume c) reply ne = refl
place_apart m n x reply ne = answered_apart m n reply ne

module _ {A : Type 0} where
  -- what a step takes out under a tag that isn't that of what is forgotten
  pub of_left : (t : Tag) (p place : ℕ) (s : State A) (x : Step A) → same_tag (ForgottenAt place) t ≡ false → of t (pieces_left p place s x) ≡ of t (piece (tag_of place x (step s x).reply) (taken_out s x p))
  of_left t p place s x e =
      of_append t (piece (tag_of place x (step s x).reply) (taken_out s x p)) (piece (ForgottenAt place) (forgot s x p))
      ∙ (ap (λ z. of t (piece (tag_of place x (step s x).reply) (taken_out s x p)) ++ z) (of_other t (ForgottenAt place) (forgot s x p) e) ∙ append-nil _)

  module _ (of_step : ℕ → State A → Step A → List Piece) where
    -- a run in two parts
    pub pieces_append : (place : ℕ) (s : State A) (xs ys : List (Step A × Bool)) →
        pieces_from of_step place s (xs ++ ys) ≡ pieces_from of_step place s xs ++ pieces_from of_step (place + length xs) (after s xs) ys
    pieces_append place s [] ys = ap (λ n. pieces_from of_step n s ys) same where
      same : place ≡ place + length {A = Step A × Bool} []
      same = omega arith
    pieces_append place s ((x, true) ∷ xs) ys =
        pieces_append (place + 1) s xs ys ∙ ap (λ n. pieces_from of_step (place + 1) s xs ++ pieces_from of_step n (after s xs) ys) same
      where
        same : (place + 1) + length xs ≡ place + length ((x, true) ∷ xs)
        same = omega arith
    pieces_append place s ((x, false) ∷ xs) ys =
        ap (λ c. of_step place s x ++ c)
        (pieces_append (place + 1) (step s x).state xs ys
        ∙ ap (λ n. pieces_from of_step (place + 1) (step s x).state xs ++ pieces_from of_step n (after (step s x).state xs) ys) same)
        ∙ sym (append_assoc (of_step place s x) (pieces_from of_step (place + 1) (step s x).state xs) (pieces_from of_step (place + length ((x, false) ∷ xs)) (after (step s x).state xs) ys))
      where
        same : (place + 1) + length xs ≡ place + length ((x, false) ∷ xs)
        same = omega arith

    -- a tag that stands for one place has the pieces of that step alone
    pub other_places : (n : ℕ) → ((m : ℕ) (s : State A) (x : Step A) → m ≢ n → of (AtPlace n) (of_step m s x) ≡ []) →
        (m : ℕ) (s : State A) (xs : List (Step A × Bool)) → (n < m) ⊎ (m + length xs ≤ n) → of (AtPlace n) (pieces_from of_step m s xs) ≡ []
    other_places n apart m s [] h = refl
    other_places n apart m s ((x, true) ∷ xs) h = other_places n apart (m + 1) s xs (later h) where
      later : (n < m) ⊎ (m + length ((x, true) ∷ xs) ≤ n) → (n < m + 1) ⊎ ((m + 1) + length xs ≤ n)
      later (inl l) = inl (omega (arith, l))
      later (inr l) = inr (omega (arith, l))
    other_places n apart m s ((x, false) ∷ xs) h =
        of_none (AtPlace n) (of_step m s x) (pieces_from of_step (m + 1) (step s x).state xs) (apart m s x (λ e. differs h e))
        ∙ other_places n apart (m + 1) (step s x).state xs (later h)
      where
        later : (n < m) ⊎ (m + length ((x, false) ∷ xs) ≤ n) → (n < m + 1) ⊎ ((m + 1) + length xs ≤ n)
        later (inl l) = inl (omega (arith, l))
        later (inr l) = inr (omega (arith, l))

        differs : (n < m) ⊎ (m + length ((x, false) ∷ xs) ≤ n) → m ≡ n → ⊥
        differs (inl l) e = omega (arith, l, e)
        differs (inr l) e = omega (arith, l, e)

  pub added_apart : (p n m : ℕ) (s : State A) (x : Step A) → m ≢ n → of (AtPlace n) (piece_added p m s x) ≡ []
  added_apart p n m s x ne = of_other (AtPlace n) (tag_of m x (step s x).reply) (added s x p) (place_apart m n x (step s x).reply ne)

  pub left_apart : (p n m : ℕ) (s : State A) (x : Step A) → m ≢ n → of (AtPlace n) (pieces_left p m s x) ≡ []
  left_apart p n m s x ne =
      of_left (AtPlace n) p m s x refl
      ∙ of_other (AtPlace n) (tag_of m x (step s x).reply) (taken_out s x p) (place_apart m n x (step s x).reply ne)

  -- the chunks joined are what was added, and the outs joined are what left
  pub joined_chunks : (place : ℕ) (s : State A) (xs : List (Step A × Bool)) (p : ℕ) → joined (pieces_from (piece_added p) place s xs) ≡ added_by s xs p
  joined_chunks place s [] p = refl
  joined_chunks place s ((x, true) ∷ xs) p = joined_chunks (place + 1) s xs p
  joined_chunks place s ((x, false) ∷ xs) p =
      join_append (piece_added p place s x) (pieces_from (piece_added p) (place + 1) (step s x).state xs)
      ∙ (λ i. join_piece (tag_of place x (step s x).reply) (added s x p) i ++ joined_chunks (place + 1) (step s x).state xs p i)

  pub joined_outs : (place : ℕ) (s : State A) (xs : List (Step A × Bool)) (p : ℕ) → joined (pieces_from (pieces_left p) place s xs) ≡ left_by s xs p
  joined_outs place s [] p = refl
  joined_outs place s ((x, true) ∷ xs) p = joined_outs (place + 1) s xs p
  joined_outs place s ((x, false) ∷ xs) p =
      join_append (pieces_left p place s x) (pieces_from (pieces_left p) (place + 1) (step s x).state xs)
      ∙ (λ i. (join_append (piece (tag_of place x (step s x).reply) (taken_out s x p)) (piece (ForgottenAt place) (forgot s x p))
      ∙ (λ j. join_piece (tag_of place x (step s x).reply) (taken_out s x p) j ++ join_piece (ForgottenAt place) (forgot s x p) j)) i ++ joined_outs (place + 1) (step s x).state xs p i)
