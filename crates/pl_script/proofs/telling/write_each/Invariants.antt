use Rattle.std.proofs.Common.{◌≡◌, List, ℕ, ◌++◌, length}
use Rattle.pl_script.specs.Talk.{Talk, Side, WasSaid}
use Rattle.pl_script.proofs.telling.write_each.Given as goal

abbrev pub invariant-loop-rest : goal.invariant-loop-rest
invariant-loop-rest g l = record {
  front : List ℕ;
  cut : l.bytes ≡ front ++ l.rest;
  talk : (first : Side) (t : Talk) → WasSaid first (g.P.Peer.side l.initial.peer) t → WasSaid first (g.P.Peer.side l.peer) (record t { written = t.written ++ front });
  read : g.P.Peer.cannot_read l.peer ≡ g.P.Peer.cannot_read l.initial.peer;
  write : g.P.Peer.cannot_write l.peer ≡ g.P.Peer.cannot_write l.initial.peer;
}

abbrev pub decreases-loop-rest : goal.decreases-loop-rest
decreases-loop-rest g l = length l.rest
