use Rattle.std.proofs.Common.{◌≡◌, ◌++◌, ◌≤◌, drop, length, vec_len, vec_capacity}
use Rattle.pl_polls.specs.Entries.{asked}
use Rattle.pl_polls.proofs.entries.asked_of.Given as goal

-- what the entries so far ask, and those to come
abbrev pub invariant-loop-entry : goal.invariant-loop-entry
invariant-loop-entry g l = record {
  listed : l.list.items ++ asked (drop l.entry-index l.entries) ≡ asked l.entries;
  long : vec_len l.list ≡ l.entry-index;
  room : length l.entries ≤ vec_capacity l.list;
}
