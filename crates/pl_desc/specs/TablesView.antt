-- The tables of the processes, as the list of what they name, with how many rows each has.
use Rattle.std.specs.Prelude.{ℕ, List, map, Option, None, Some, option_map}
use Rattle.pl_desc.specs.declared.tables.ProcessTables.TheInside.{Inside}
use Rattle.pl_desc.specs.Rows.{Tabled, Tables}

-- what the descriptors of each process name, and how many of those of each, from 0 on, have a row
pub record Processes : Type 0 where
  pub tables : Tables
  pub rows : List ℕ

-- the rows of a table, if there is one
abbrev pub rows_if : Option Tabled → ℕ
rows_if None = 0
rows_if (Some table) = table.rows

abbrev pub tables_in : List (Option Tabled) → Tables
tables_in list = map (option_map (λ table. table.names)) list

abbrev pub rows_in : List (Option Tabled) → List ℕ
rows_in list = map rows_if list

-- the tables
abbrev pub view_of : {A : Type 0} → Inside A → Processes
view_of t = record { tables = tables_in t.list.items; rows = rows_in t.list.items }
