-- Descriptions with the counts of their holders, as what is open and what is held.
use Rattle.std.specs.Prelude.{◌≡◌, ◌≤◌, ℕ, ◌+◌, ◌-◌, List, [], ◌∷◌, map, length, Option, None, Some, IfSome, option_map, slice_set}
use Rattle.pl_model.specs.declared.node.Node.{Node}
use Rattle.pl_desc.specs.declared.description.Description.{Description}
use Rattle.pl_desc.specs.declared.ends.Ends.{Ends}
use Rattle.pl_desc.specs.declared.limits.DescLimits.{DescLimits}
use Rattle.pl_desc.specs.Rows.{at, Tables, naming}
use Rattle.pl_desc.specs.Descs.{Opened, AreLimits, live_count}
use Rattle.pl_desc.specs.Ends.{counted}

-- a description as contracts see it, without its holders
abbrev pub opened_of : Description → Opened
opened_of d = record { node = d.node; mode = d.mode; flags = d.flags; offset = d.offset }

-- what is open, by key
abbrev pub opened_in : List (Option Description) → List (Option Opened)
opened_in slots = map (option_map opened_of) slots

-- the holders that a slot counts
abbrev pub holders_of : Option Description → ℕ
holders_of None = 0
holders_of (Some d) = d.holders

-- the loose holds of the slots, the first of which has this key
unfoldable pub loose_from : ℕ → Tables → List (Option Description) → List ℕ
loose_from key tables [] = []
loose_from key tables (slot ∷ slots) = (holders_of slot - naming tables key) ∷ loose_from (key + 1) tables slots

-- a description with one holder more
abbrev pub held_more : Description → Description
held_more d = record d { holders = d.holders + 1 }

-- the slots with one holder more of a key
abbrev pub held_once : ℕ → List (Option Description) → List (Option Description)
held_once key slots = slice_set slots key (option_map held_more (at slots key))

-- the slots with one holder more of each key that a table names
unfoldable pub held_all : List (Option ℕ) → List (Option Description) → List (Option Description)
held_all [] slots = slots
held_all (None ∷ rows) slots = held_all rows slots
held_all (Some key ∷ rows) slots = held_all rows (held_once key slots)

-- What holds of the fields: no description has fewer holders than rows that name it, each has a holder, and the counts
-- of a node are those of the descriptions on it.
pub record IsSound (limits : DescLimits) (tables : Tables) (slots : List (Option Description)) (ends : Node → Ends) : Type 0 where
  pub limited : AreLimits limits
  pub few : length tables ≤ limits.processes
  pub wide : (place : ℕ) → IfSome (at tables place) (λ table. length table ≡ limits.descriptors)
  pub held : (key : ℕ) → naming tables key ≤ holders_of (at slots key)
  pub alive : (key : ℕ) → IfSome (at slots key) (λ d. 1 ≤ d.holders)
  pub most : live_count (opened_in slots) ≤ limits.descriptions
  pub counted : (node : Node) → ends node ≡ counted (opened_in slots) node
