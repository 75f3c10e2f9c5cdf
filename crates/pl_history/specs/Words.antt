-- The rule of the history word: what its number is, what the seats know, and what each step does.
use Rattle.std.specs.Prelude.{◌≡◌, ℕ, ◌<◌, List, [], ◌∷◌, ◌++◌, length, slice_index, Bool, true, false}
use mathlib.Core.Option.{Option, none, some}
use mathlib.Core.List.{IsPrefix}
use lib.ListN.{get_elem?}
use Rattle.atomic_table.specs.Table.{State, Me, Step}
use Rattle.pl_model.specs.declared.history.Entry.{Entry}
use Rattle.pl_history.specs.declared.rule.View.{View}

module _ {A : Type 0} where
  -- what a seat knows: whether it is the recorder's, a history, and an earlier one that it was told of
  abbrev pub view : Bool → List (Entry A) → List (Entry A) → View A
  view r seen told = record { recorder = r; seen = seen; told = told }

  -- what a seat knows that has ended
  abbrev pub nobody : View A
  nobody = view false [] []

  -- What one seat knows is right, where the recorder's seat is r and its history is log: only that seat is the recorder's, and has seen
  -- all of it; what any has seen, or was told of, begins it.
  abbrev pub Fits : ℕ → List (Entry A) → ℕ → View A → Type 0
  Fits r log id v = (v.recorder ≡ true → (id ≡ r) × (v.seen ≡ log)) × IsPrefix v.seen log × IsPrefix v.told log

  -- The word is the length of the recorder's history, and what each seat knows is right.
  pub record Kept (s : State (Entry A) (View A)) : Type 0 where
    pub seat : ℕ
    pub log : List (Entry A)
    pub one : 0 < length s.words
    pub word : slice_index s.words 0 ≡ length log
    pub fits : (id : ℕ) (v : View A) → get_elem? s.views id ≡ some v → Fits seat log id v

  -- the recorder adds the entry that it says
  abbrev pub Added : Option (Entry A) → View A → View A → Type 0
  Added none v w = ⊥
  Added (some e) v w = w ≡ view v.recorder (v.seen ++ e ∷ []) v.told

  -- an addition finds the number that it expects, and adds the entry
  abbrev pub Adds : Step (Entry A) → Me (Entry A) (View A) → ℕ → Me (Entry A) (View A) → Type 0
  Adds s v found w = (found ≡ s.first) × Added s.said v.0 w.0 × (w.1 ≡ v.1)

  -- A look finds the length of a history, which is then seen. What was seen and told before begins it, and the recorder has seen all
  -- of it before.
  pub record Looked (v : View A) (found : ℕ) (w : View A) : Type 0 where
    pub recorder : w.recorder ≡ v.recorder
    pub length : found ≡ length w.seen
    pub seen : IsPrefix v.seen w.seen
    pub told : IsPrefix v.told w.seen
    pub same : v.recorder ≡ true → w.seen ≡ v.seen

  abbrev pub Looks : Step (Entry A) → Me (Entry A) (View A) → ℕ → Me (Entry A) (View A) → Type 0
  Looks s v found w = Looked v.0 found w.0 × (w.1 ≡ v.1)

  -- a new seat that has seen as much
  abbrev pub copied : View A → View A
  copied v = view false v.seen []

  -- a seat that is told what another has seen
  abbrev pub informed : View A → View A → View A
  informed v w = view v.recorder v.seen w.seen

  -- a seat that has seen what another has
  abbrev pub following : View A → View A → View A
  following v w = view false w.seen []
