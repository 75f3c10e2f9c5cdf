use Rattle.std.proofs.Common.{◌≡◌, ◌≤◌, length, take}
use Rattle.std.specs.Prelude.{vec_capacity}
use Rattle.pl_polls.specs.Waiting.{keys_named}
use Rattle.pl_polls.proofs.begin.keys_of.Given as goal

abbrev pub invariant-loop-fd : goal.invariant-loop-fd
invariant-loop-fd g l = record {
  found : l.keys.items ≡ keys_named l.descs.tables l.pid (take l.fd-index l.entries);
  few : length l.keys.items ≤ l.fd-index;
  room : length l.entries ≤ vec_capacity l.keys;
}
