-- The bytes that go through a pipe in a run, in pieces, each under what moved it.
use Rattle.std.specs.Prelude.{ℕ, ◌+◌, Bool, true, false, nat_eq, List, [], ◌∷◌, ◌++◌, map}
use Rattle.std.specs.List.{filter, flat_map}
use Rattle.pl_model.specs.declared.calls.Step.{Step}
use Rattle.pl_model.specs.declared.calls.Step.TheVariants.{Resume}
use Rattle.pl_model.specs.declared.replies.Reply.{Reply}
use Rattle.pl_model.specs.declared.replies.Reply.TheVariants.{Parked}
use Rattle.pl_model.specs.Numbered.{State, step}
use Rattle.pl_model.specs.Streams.{added, taken_out, forgot}

-- What moved the bytes: a parked call of this number, or a call that was answered at once, in the step at this place of the
-- run. A pipe that lost its last end forgot them as the step at this place ended.
pub data Tag : Type 0 where
  OfCall : ℕ → Tag
  AtPlace : ℕ → Tag
  ForgottenAt : ℕ → Tag

abbrev pub same_tag : Tag → Tag → Bool
same_tag (OfCall c) (OfCall d) = nat_eq c d
same_tag (AtPlace n) (AtPlace m) = nat_eq n m
same_tag (ForgottenAt n) (ForgottenAt m) = nat_eq n m
same_tag t u = false

-- bytes that moved together
pub record Piece : Type 0 where
  pub tag : Tag
  pub bytes : List ℕ

-- these bytes; nothing, where there are none
abbrev pub unless_empty : List ℕ → List (List ℕ)
unless_empty [] = []
unless_empty (b ∷ bs) = (b ∷ bs) ∷ []

abbrev pub piece : Tag → List ℕ → List Piece
piece tag bytes = map (λ b. record { tag = tag; bytes = b }) (unless_empty bytes)

-- the pieces of one tag
abbrev pub of : Tag → List Piece → List (List ℕ)
of tag pieces = map (λ x. x.bytes) (filter (λ x. same_tag x.tag tag) pieces)

-- all bytes, one piece after another
abbrev pub joined : List Piece → List ℕ
joined pieces = flat_map (λ x. x.bytes) pieces

module _ {A : Type 0} where
  -- the tag of a step at this place, which was answered so
  abbrev pub tag_answered : ℕ → Reply A → Tag
  tag_answered place (Parked c) = OfCall c
  tag_answered place reply = AtPlace place

  abbrev pub tag_of : ℕ → Step A → Reply A → Tag
  tag_of place (Resume c) reply = OfCall c
  tag_of place x reply = tag_answered place reply

  -- what a step at this place adds to the pipe
  abbrev pub piece_added : ℕ → ℕ → State A → Step A → List Piece
  piece_added p place s x = piece (tag_of place x (step s x).reply) (added s x p)

  -- what it takes out of the pipe, and what the pipe then forgets
  abbrev pub pieces_left : ℕ → ℕ → State A → Step A → List Piece
  pieces_left p place s x = piece (tag_of place x (step s x).reply) (taken_out s x p) ++ piece (ForgottenAt place) (forgot s x p)

  -- The pieces of a run whose first step has this place: each step's, one after another. A step that found no memory has
  -- its place too.
  abbrev pub pieces_from : (ℕ → State A → Step A → List Piece) → ℕ → State A → List (Step A × Bool) → List Piece
  pieces_from of_step place s [] = []
  pieces_from of_step place s ((x, true) ∷ xs) = pieces_from of_step (place + 1) s xs
  pieces_from of_step place s ((x, false) ∷ xs) = of_step place s x ++ pieces_from of_step (place + 1) (step s x).state xs

  -- what goes into the pipe in a run
  abbrev pub chunks : State A → List (Step A × Bool) → ℕ → List Piece
  chunks s xs p = pieces_from (piece_added p) 0 s xs

  -- what comes out of it, and what it forgets
  abbrev pub outs : State A → List (Step A × Bool) → ℕ → List Piece
  outs s xs p = pieces_from (pieces_left p) 0 s xs
