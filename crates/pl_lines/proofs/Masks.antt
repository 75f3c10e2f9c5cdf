-- The names of flags, put behind a text in turns.
use Rattle.std.proofs.Common.{◌≡◌, ℕ, ◌+◌, ◌<◌, Bool, true, false, List, [], ◌∷◌, ◌++◌, length, drop, get_or, drop-cons, add-one, Result, Ok, refl, sym, ap, ◌∙◌, append_assoc, map}
use Rattle.std.specs.Prelude.{codes}
use Rattle.std.specs.List.{filter}
use Rattle.std.proofs.lemmas.List.{append-nil}
use Rattle.pl_model.specs.Flags.{has}
use Rattle.pl_model.specs.Shown.{names_text}
use Rattle.pl_lines.specs.Pushed.{Pushes, next_name}
use Rattle.pl_lines.proofs.Pushing.{IsSoFar, one_more}

-- the names that are still to come, behind others or none; `-` where there are none at all
abbrev pub names_left : Bool → List (List ℕ) → List ℕ
names_left others (name ∷ names) = next_name others name ++ names_left true names
names_left true [] = []
names_left false [] = codes "-"

all_names : (name : List ℕ) (names : List (List ℕ)) → names_text (name ∷ names) ≡ name ++ names_left true names
unfolding names_text
all_names name [] = sym (append-nil name)
all_names name (next ∷ names) = ap (λ t. name ++ (codes "," ++ t)) (all_names next names) ∙ ap (λ t. name ++ t) (sym (append_assoc (codes ",") next (names_left true names)))

names_of : (names : List (List ℕ)) → names_text names ≡ names_left false names
unfolding names_text
names_of [] = refl
names_of (name ∷ names) = all_names name names

-- Of a table of names those of the flags that are set.
module _ {X : Type 0} (flag : X → ℕ) (name : X → List ℕ) (set : ℕ) where
  abbrev pub names_in : List X → List (List ℕ)
  names_in table = map name (filter (λ n. has set (flag n)) table)

  -- what is set before a place of the table was put
  abbrev pub ArePut : List X → List ℕ → List ℕ → Bool → ℕ → Type 0
  ArePut table before now others place = IsSoFar (names_text (names_in table)) before now (names_left others (names_in (drop place table)))

  pub no_name_yet : (table : List X) (text : List ℕ) → ArePut table text text false 0
  no_name_yet table text = record { put = []; added = sym (append-nil text); left = names_of (names_in table) }

  module _ (table : List X) (item : X) {before now : List ℕ} (others : Bool) {place : ℕ} (so_far : ArePut table before now others place) (within : place < length table)
      (is : item ≡ get_or table place item) where
    here : drop place table ≡ item ∷ drop (place + 1) table
    here =
        let at : drop place table ≡ get_or table place item ∷ drop (place + 1) table = rw add-one (drop-cons table place item within) in
        at ∙ ap (λ x. x ∷ drop (place + 1) table) (sym is)

    -- what stands there is set, and its name is put
    pub name_put : {Y E : Type 0} {tried : Result Y E} {after : List ℕ} (y : Y) → has set (flag item) ≡ true → tried ≡ Ok y
        → Pushes tried now after (next_name others (name item)) → ArePut table before after true (place + 1)
    name_put y there is_put pushed = one_more so_far _ y is_put pushed (rw (here, there) refl)

    -- it isn't
    pub name_left_out : has set (flag item) ≡ false → ArePut table before now others (place + 1)
    name_left_out absent = rw (here, absent) at so_far
