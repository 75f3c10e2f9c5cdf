use Rattle.std.proofs.Common.{◌≡◌, ◌≤◌, ◌+◌, length, vec_len}
use Rattle.std.specs.Io.KnownBytes.{Consumes}
use Rattle.pl_model.specs.Numbers.{most_script_bytes}
use Rattle.pl_script.proofs.reading.read_script.Given as goal

abbrev pub invariant-loop-i : goal.invariant-loop-i
invariant-loop-i g l = record {
  each : l._i ≤ length l.script.items;
  short : length l.script.items ≤ most_script_bytes;
  chunk : vec_len l.chunk ≡ 65536;
  taken : Consumes (g.S.Source.remaining l.initial.reader) (g.S.Source.remaining l.reader) l.script.items;
  spent : g.S.Source.reads_left l.reader + l._i ≡ g.S.Source.reads_left l.initial.reader;
  kept : g.S.Source.has_failed l.reader ≡ g.S.Source.has_failed l.initial.reader;
}
