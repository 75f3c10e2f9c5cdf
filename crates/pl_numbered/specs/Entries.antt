-- The entries in which values stand: an entry is empty once its value was taken out.
use Rattle.std.specs.Prelude.{◌≡◌, ℕ, ◌<◌, ◌≤◌, ◌^◌, ◌-◌, true, Bool, Option, option_map, is_some, not, length, slice_index_or}
use Rattle.std.specs.List.{filter_map, count_by}
use Rattle.pl_model.specs.Map.{Map}
use Rattle.pl_numbered.specs.Rising.{Rise}

-- the values of the entries that have one
abbrev pub values_in : {X : Type 0} → Map ℕ (Option X) → Map ℕ X
values_in entries = filter_map (λ e. option_map (λ x. (e.0, x)) e.1) entries

-- the entry is empty
abbrev pub is_empty : {X : Type 0} → ℕ × Option X → Bool
is_empty e = not (is_some e.1)

-- how many entries are empty
abbrev pub empties : {X : Type 0} → Map ℕ (Option X) → ℕ
empties entries = count_by is_empty entries

-- the last entry, if there is one, isn't empty
abbrev pub IsLastFull : {X : Type 0} → Map ℕ (Option X) → Type 0
IsLastFull {X} entries = (d : ℕ × Option X) → 0 < length entries → is_some (slice_index_or entries (length entries - 1) d).1 ≡ true

-- the numbers of all entries, the empty ones too, rise; the empty ones are counted, and the last one is none of them
pub record AreTidy {X : Type 0} (entries : Map ℕ (Option X)) (empty : ℕ) : Type 0 where
  pub rise : Rise 0 (2 ^ 64) entries
  pub count : empty ≡ empties entries
  pub full : IsLastFull entries

-- the numbers of the first k entries are below n
abbrev pub AllBelow : {X : Type 0} → (n k : ℕ) → Map ℕ X → Type 0
AllBelow {X} n k entries = (j : ℕ) (d : ℕ × X) → j < k → (slice_index_or entries j d).0 < n

-- those of the others aren't
abbrev pub NoneBelow : {X : Type 0} → (n k : ℕ) → Map ℕ X → Type 0
NoneBelow {X} n k entries = (j : ℕ) (d : ℕ × X) → k ≤ j → j < length entries → n ≤ (slice_index_or entries j d).0
