use Rattle.std.proofs.Common.{◌≡◌, ◌+◌, ◌*◌, ◌≤◌, drop, length}
use Rattle.pl_segments.specs.Slots.{total, solid_of}
use Rattle.pl_ring.specs.Merging.{lens, merges}
use Rattle.pl_ring.proofs.plan.plan_after.Given as goal

-- the merges so far, and those of the rest, are all; so are the slots
abbrev pub invariant-loop-i : goal.invariant-loop-i
invariant-loop-i l = record {
  all : l.plan.merges + merges l.plan.slots l.end (lens (solid_of (drop l.i l.slices))) ≡ merges l.count l.last (lens (solid_of l.slices));
  slots : l.plan.slots + l.plan.merges + length (solid_of (drop l.i l.slices)) ≡ l.count + length (solid_of l.slices);
  fits : l.plan.slots + l.end + 2 * total (drop l.i l.slices) ≤ l.count + l.last + 2 * total l.slices;
  more : l.count ≤ l.plan.slots;
  least : l.plan.merges + total (drop l.i l.slices) ≤ total l.slices;
}
