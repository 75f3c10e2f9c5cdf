-- What is told of the segments in which a kernel keeps bytes.
use Rattle.std.specs.Prelude.{◌≡◌, ℕ}
use Rattle.pl_nodes.specs.Nodes.{NamesBelow, segments_named}
use Rattle.pl_model.specs.Numbered.{State}
use Rattle.pl_state.specs.Contents.{Contents}
use Rattle.pl_state.specs.Makes.{Stands, IsDeserted}

module _ {A : Type 0} (k : Contents A) where
  -- Those in use were told so: they are those that some slot of a pipe or file names.
  abbrev pub TellsUsed : ℕ → Type 0
  TellsUsed used = (n : ℕ) → NamesBelow n k.nodes.memory.slots → used ≡ segments_named k.nodes.memory.slots n

  -- and with no process and no name none is in use
  abbrev pub TellsNone : ℕ → Type 0
  TellsNone used = (s : State A) → Stands k s → IsDeserted s → used ≡ 0
