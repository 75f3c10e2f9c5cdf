use Rattle.std.proofs.Common.{◌≡◌, take, []}
use Rattle.pl_segments.specs.Segments.{segment_at, live_count}
use Rattle.pl_segments.specs.Slices.{all_read}
use Rattle.pl_segments.specs.Turns.{Turns}
use Rattle.pl_segments.specs.Slots.{solid_of}
use Rattle.pl_ring.proofs.push.hold_all.Given as goal

-- the slices so far are held
abbrev pub invariant-loop-i : goal.invariant-loop-i
invariant-loop-i g l = record {
  turns : Turns (segment_at l.fn.store) [] (segment_at l.store) (solid_of (take l.i l.slices));
  read : all_read (segment_at l.store) (solid_of (take l.i l.slices)) ≡ all_read (segment_at l.fn.store) (take l.i l.slices);
  in_use : live_count l.store.held ≡ live_count l.fn.store.held;
  room : l.store.room ≡ l.fn.store.room;
}
