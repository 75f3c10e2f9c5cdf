use Rattle.std.proofs.Common.{◌≡◌, ◌++◌, ◌≤◌, drop, length, vec_len, vec_capacity}
use Rattle.pl_polls.specs.Masks.{masks_from, masks_of}
use Rattle.pl_polls.proofs.masks.masks.Given as goal

-- the masks so far, and those to come
abbrev pub invariant-loop-fd : goal.invariant-loop-fd
invariant-loop-fd g l = record {
  found : l.found.items ++ masks_from l.kernel l.descriptions l.before (drop l.fd-index l.entries) ≡ masks_of l.kernel l.descriptions l.entries;
  few : l.before ≤ l.fd-index;
  long : vec_len l.found ≡ l.fd-index;
  room : length l.entries ≤ vec_capacity l.found;
}
