-- How bytes are kept after a splice or a tee: they are shared, not copied.
use Rattle.std.specs.Prelude.{ℕ, ℤ, ◌≤◌, List, [], ◌∷◌, length, nat_eq, Option, IfSome, unwrap_or, option_and_then}
use Rattle.std.specs.declared.option.Option.TheVariants.{None, Some}
use Rattle.pl_model.specs.declared.calls.Call.{Call}
use Rattle.pl_model.specs.declared.calls.Call.TheVariants.{Splice, Tee}
use Rattle.pl_model.specs.declared.calls.Step.{Step}
use Rattle.pl_model.specs.declared.calls.Step.TheVariants.{Begin, Resume}
use Rattle.pl_model.specs.declared.node.Node.{Node}
use Rattle.pl_model.specs.declared.node.Node.TheVariants.{Pipe, File}
use Rattle.pl_model.specs.Map.{get}
use Rattle.pl_parked.specs.declared.call.ParkedCall.{ParkedCall}
use Rattle.pl_desc.specs.Rows.{at, row_of}
use Rattle.pl_desc.specs.Descs.{Opened}
use Rattle.pl_nodes.specs.Nodes.{Memory}
use Rattle.pl_nodes.specs.Moving.{SharesSlots, AddsNone}
use Rattle.pl_state.specs.Contents.{Contents}
use Rattle.pl_splices.specs.declared.sides.Side.{Side}

-- splice(2), tee(2): what may come of memory as bytes go from one node to another, into a file at this place. That they share
-- segments is our own.
abbrev pub Shares : {A : Type 0} → Contents A → (from to : Node) → (place : ℕ) → Memory → Type 0
Shares old (Pipe p) (Pipe q) place new = SharesSlots old.nodes.memory new p q
Shares old (Pipe p) (File f) place new = IfSome (at old.nodes.files f) (λ bytes. place ≤ length bytes) → AddsNone old.nodes.memory new
Shares old (File f) to place new = Unit {0}

-- splice(2), off_out: where a description's file is written, at the offset that was given or else at its own
abbrev pub place_in : Option Opened → Option ℕ → ℕ
place_in None given = 0
place_in (Some o) given = unwrap_or given o.offset

-- the same between two sides
abbrev pub SharesBetween : {A : Type 0} → Contents A → (from to : Side) → Contents A → Type 0
SharesBetween old from to new = Shares old from.node to.node (place_in (at old.opened to.key) to.given) new.nodes.memory

-- the nodes that bytes would go from and to, and the place in the second, where that is a file
pub record Way : Type 0 where
  pub from : Node
  pub to : Node
  pub place : ℕ

abbrev pub way_between : (from to : Option Opened) → Option ℕ → Option Way
way_between (Some a) (Some b) given = Some (record { from = a.node; to = b.node; place = unwrap_or given b.offset })
way_between None b given = None
way_between a None given = None

module _ {A : Type 0} (k : Contents A) where
  -- between what two descriptors of a process name
  abbrev pub way_named : ℕ → (from to : ℤ) → Option ℕ → Option Way
  way_named pid from to = way_between (option_and_then (at k.opened) (row_of k.tables pid from)) (option_and_then (at k.opened) (row_of k.tables pid to))

  -- between the two descriptions that a call keeps
  abbrev pub way_kept : List ℕ → Option ℕ → Option Way
  way_kept (from ∷ to ∷ []) given = way_between (at k.opened from) (at k.opened to) given
  way_kept kept given = None

  abbrev pub way_waiting : Call A → List ℕ → Option Way
  way_waiting (Splice from from_offset to to_offset len flags) kept = way_kept kept to_offset
  way_waiting (Tee from to len flags) kept = way_kept kept None
  way_waiting call kept = None

  abbrev pub way_begun : ℕ → Call A → Option Way
  way_begun pid (Splice from from_offset to to_offset len flags) = way_named pid from to to_offset
  way_begun pid (Tee from to len flags) = way_named pid from to None
  way_begun pid call = None

  -- The way of the bytes of a step: of a splice or a tee that begins, or of one that waits and is resumed.
  abbrev pub way_of : Step A → Option Way
  way_of (Begin pid call) = way_begun pid call
  way_of (Resume number) = option_and_then (λ (w : ParkedCall A). way_waiting w.call w.kept) (get nat_eq k.calls.calls number)
  way_of step = None

-- A step of a splice or a tee shares what it moves or copies.
abbrev pub SharesByStep : {A : Type 0} → Contents A → Step A → Contents A → Type 0
SharesByStep old x new = IfSome (way_of old x) (λ way. Shares old way.from way.to way.place new.nodes.memory)
