-- Open file descriptions and the tables that name them, as contracts see them.
use Rattle.std.specs.Prelude.{◌≡◌, ◌≤◌, ◌<◌, ℕ, ◌+◌, nat_eq, Bool, false, ◌&&◌, List, length, Option, None, Some, IsSome, IfSome, is_some, if◌then◌else◌, count_by}
use Rattle.pl_model.specs.declared.calls.Mode.{Mode}
use Rattle.pl_model.specs.declared.flags.OpenFlags.{OpenFlags}
use Rattle.pl_model.specs.declared.node.Node.{Node}
use Rattle.pl_model.specs.declared.node.Node.TheVariants.{Pipe, File}
use Rattle.pl_model.specs.Numbers.{most_descriptors, most_processes, most_descriptions}
use Rattle.pl_model.specs.Modes.{reads, writes}
use Rattle.pl_model.specs.Nodes.{same_node}
use Rattle.pl_desc.specs.declared.limits.DescLimits.{DescLimits}
use Rattle.pl_desc.specs.declared.released.Released.{Released}
use Rattle.pl_desc.specs.declared.released.Released.TheVariants.{Still, Gone}
use Rattle.pl_desc.specs.Rows.{at, Tables, row_at, rows_at, naming, count_at}

-- POSIX.1-2017, Open File Description: one that is open.
pub record Opened : Type 0 where
  pub node : Node
  pub mode : Mode
  pub flags : OpenFlags
  pub offset : ℕ

-- What can be opened without memory: so many descriptions more, on the pipes and on the files whose keys are below these, and of a
-- process the descriptors below so many.
pub record Room : Type 0 where
  pub descriptions : ℕ
  pub pipes : ℕ
  pub files : ℕ
  pub rows : List ℕ

-- The tables of the processes, the descriptions by key, how many loose holds each has (its holders but the rows that name
-- it), the room for more, and the limits.
pub record Descs : Type 0 where
  pub tables : Tables
  pub opened : List (Option Opened)
  pub loose : List ℕ
  pub room : Room
  pub limits : DescLimits

-- no limit is above the greatest one
pub record AreLimits (limits : DescLimits) : Type 0 where
  pub descriptors : limits.descriptors ≤ most_descriptors
  pub descriptions : limits.descriptions ≤ most_descriptions
  pub processes : limits.processes ≤ most_processes

-- a description on the node, whose mode passes the test
abbrev pub is_end_on : (Mode → Bool) → Node → Option Opened → Bool
is_end_on test node None = false
is_end_on test node (Some o) = same_node o.node node && test o.mode

-- how many descriptions on the node have a mode that passes the test
unfoldable pub ends_on : (Mode → Bool) → List (Option Opened) → Node → ℕ
ends_on test opened node = count_by (is_end_on test node) opened

-- how many descriptions are open
unfoldable pub live_count : List (Option Opened) → ℕ
live_count opened = count_by is_some opened

-- what holds a description: the rows that name it, and its loose holds
abbrev pub holders : Descs → ℕ → ℕ
holders d key = naming d.tables key + count_at d.loose key

-- the node has a place for its counts
abbrev pub HasPlace : Room → Node → Type 0
HasPlace room (Pipe p) = p < room.pipes
HasPlace room (File f) = f < room.files

-- so many descriptions on the node can be opened without memory
pub record HasRoom (room : Room) (node : Node) (count : ℕ) : Type 0 where
  pub descriptions : count ≤ room.descriptions
  pub place : HasPlace room node

-- the second room is no less than the first, but for so many descriptions
pub record IsNoLess (old new : Room) (count : ℕ) : Type 0 where
  pub descriptions : old.descriptions ≤ new.descriptions + count
  pub pipes : old.pipes ≤ new.pipes
  pub files : old.files ≤ new.files
  pub rows : (pid : ℕ) → rows_at old.rows pid ≤ rows_at new.rows pid

-- What holds of all of it.
pub record IsTidy (d : Descs) : Type 0 where
  pub limited : AreLimits d.limits
  pub few : length d.tables ≤ d.limits.processes
  pub wide : (place : ℕ) → IfSome (at d.tables place) (λ table. length table ≡ d.limits.descriptors)
  pub named : (pid fd key : ℕ) → row_at d.tables pid fd ≡ Some key → IsSome (at d.opened key)
  pub held : (key : ℕ) → IsSome (at d.opened key) → 0 < holders d key
  pub bare : (key : ℕ) → at d.opened key ≡ None → holders d key ≡ 0
  pub most : live_count d.opened ≤ d.limits.descriptions

-- a new description
abbrev pub fresh : Node → Mode → OpenFlags → Opened
fresh node mode flags = record { node = node; mode = mode; flags = flags; offset = 0 }

-- the key has one holder, and no more
abbrev pub last_hold : Descs → ℕ → Bool
last_hold d key = nat_eq (holders d key) 1

-- what a description that is gone leaves on its node
abbrev pub gone : List (Option Opened) → Opened → Released
gone opened o = Gone o.node o.mode (ends_on reads opened o.node) (ends_on writes opened o.node)

-- what becomes of a description that loses a hold, where these are left
abbrev pub released : Bool → List (Option Opened) → Opened → Released
released last opened o = if last then gone opened o else Still
