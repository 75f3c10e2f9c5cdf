use Rattle.std.proofs.Common.{◌≤◌, ℕ, take, drop}
use Rattle.pl_desc.specs.Rows.{at, count_at}
use Rattle.pl_desc.specs.Descs.{IsTidy}
use Rattle.pl_state.specs.Contents.{nodes_of}
use Rattle.pl_state.specs.LastHold.{ReleasesAll}
use Rattle.pl_state.specs.Sound.{AreThere, times}
use Rattle.pl_state.proofs.last_hold.release_all.Given as goal

-- the keys before this place are released, and each of the others is held
abbrev pub invariant-loop-place : goal.invariant-loop-place
invariant-loop-place g l = record {
  released : ReleasesAll (take l.place l.keys) l.fn.descs l.descs (nodes_of l.fn.nodes) (nodes_of l.nodes);
  held : (key : ℕ) → times (drop l.place l.keys) key ≤ count_at l.descs.loose key;
  there : AreThere (at l.descs.opened) (nodes_of l.nodes);
  tidy : IsTidy l.descs;
}
