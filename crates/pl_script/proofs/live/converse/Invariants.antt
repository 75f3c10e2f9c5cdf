use Rattle.std.proofs.Common.{◌≡◌, ◌*◌, ◌≤◌, [], length, vec_len}
use Rattle.pl_model.specs.declared.calls.Limits.{Limits}
use Rattle.pl_script.specs.Talk.{Talk, Side, WasSaid}
use Rattle.pl_script.specs.LiveSteps.{IsUnderway}
use Rattle.pl_script.proofs.live.converse.Given as goal

abbrev pub invariant-loop-i : goal.invariant-loop-i
invariant-loop-i g l = record {
  underway : (limits : Limits) (first : Side) (t : Talk) → WasSaid first (g.P.Peer.side l.initial.peer) t → t.moments ≡ [] → IsUnderway {A = g.row.A.Denot} limits l.strict l.initial.live t []
      → (now : Talk) × WasSaid first (g.P.Peer.side l.peer) now × IsUnderway {A = g.row.A.Denot} limits l.strict l.live now [] × (length now.moments ≡ l._i);
  chunk : vec_len l.chunk ≡ 65536;
  read : g.P.Peer.cannot_read l.peer ≡ g.P.Peer.cannot_read l.initial.peer;
  write : g.P.Peer.cannot_write l.peer ≡ g.P.Peer.cannot_write l.initial.peer;
  lines : l.live.lines ≤ l._i * 65536;
  bad : l.live.bad ≤ l.live.lines;
}
