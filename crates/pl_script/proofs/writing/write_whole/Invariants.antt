use Rattle.std.proofs.Common.{◌≡◌, ◌≤◌, ◌-◌, length, take, drop}
use Rattle.std.specs.Io.KnownBytes.{Appends}
use Rattle.pl_script.proofs.writing.write_whole.Given as goal

abbrev pub invariant-loop-rest : goal.invariant-loop-rest
invariant-loop-rest g l = record {
  shorter : length l.rest ≤ length l.bytes;
  rest : l.rest ≡ drop (length l.bytes - length l.rest) l.bytes;
  written : Appends (g.T.Sink.contents l.initial.writer) (g.T.Sink.contents l.writer) (take (length l.bytes - length l.rest) l.bytes);
  kept : g.T.Sink.has_stopped l.writer ≡ g.T.Sink.has_stopped l.initial.writer;
}

abbrev pub decreases-loop-rest : goal.decreases-loop-rest
decreases-loop-rest g l = length l.rest
