-- What is known of descriptions as a call begins.
use Rattle.std.proofs.Common.{◌≡◌, ◌≤◌, ℕ, List, Option, Some, length}
use Rattle.pl_model.specs.declared.node.Node.{Node}
use Rattle.pl_desc.specs.declared.description.Description.{Description}
use Rattle.pl_desc.specs.declared.descs.Descs.TheInside.{Inside}
use Rattle.pl_desc.specs.declared.ends.Ends.{Ends}
use Rattle.pl_desc.specs.declared.limits.DescLimits.{DescLimits}
use Rattle.pl_desc.specs.Ends.{ends_at}
use Rattle.pl_desc.specs.Rows.{Tables, table_of, free_pid, naming}
use Rattle.pl_desc.specs.Slots.{IsSound}

-- the fields, and their invariant
pub record Known : Type 0 where
  pub limits : DescLimits
  pub tables : Tables
  pub slots : List (Option Description)
  pub ends : Node → Ends
  pub sound : IsSound limits tables slots ends

abbrev pub known : {A : Type 0} (k : Inside A) → IsSound k.limits k.tables.tables k.descriptions.slots (ends_at k.counts) → Known
known k sound = record { limits = k.limits; tables = k.tables.tables; slots = k.descriptions.slots; ends = ends_at k.counts; sound = sound }

-- A process starts with a table, under the least free pid, for which there is a place.
pub record Starts (m : Known) : Type 0 where
  pub pid : ℕ
  pub free : free_pid m.tables m.limits.processes ≡ Some pid
  pub places : Tables
  pub same : table_of places ≡ table_of m.tables
  pub names_same : naming places ≡ naming m.tables
  pub few : length places ≤ m.limits.processes
  pub high : pid ≤ length places
  pub table : List (Option ℕ)
  pub wide : length table ≡ m.limits.descriptors
