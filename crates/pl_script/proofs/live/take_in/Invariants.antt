use Rattle.std.proofs.Common.{◌≡◌, ◌+◌, ◌≤◌, length}
use Rattle.pl_model.specs.declared.calls.Limits.{Limits}
use Rattle.pl_script.specs.Talk.{Talk, Side, WasSaid}
use Rattle.pl_script.specs.LiveSteps.{IsUnderway}
use Rattle.pl_script.proofs.live.take_in.Given as goal

abbrev pub invariant-loop-end : goal.invariant-loop-end
invariant-loop-end g l = record {
  underway : (limits : Limits) (first : Side) (t : Talk) → WasSaid first (g.P.Peer.side l.initial.peer) t → IsUnderway {A = g.row.A.Denot} limits l.strict l.initial.live t l.bytes
      → (now : Talk) × WasSaid first (g.P.Peer.side l.peer) now × IsUnderway {A = g.row.A.Denot} limits l.strict l.live now l.rest × (now.moments ≡ t.moments);
  read : g.P.Peer.cannot_read l.peer ≡ g.P.Peer.cannot_read l.initial.peer;
  write : g.P.Peer.cannot_write l.peer ≡ g.P.Peer.cannot_write l.initial.peer;
  lines : l.live.lines + length l.rest ≤ l.initial.live.lines + length l.bytes;
  bad : l.live.bad ≤ l.live.lines;
}

abbrev pub decreases-loop-end : goal.decreases-loop-end
decreases-loop-end g l = length l.rest
