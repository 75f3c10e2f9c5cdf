-- The fields of a ring, as its slots.
use Rattle.std.specs.Prelude.{◌≡◌, ◌≤◌, ◌*◌}
use Rattle.pl_ring.specs.declared.ring.Ring.TheInside.{Inside}
use Rattle.pl_ring.specs.Pushed.{AreOfRing}
use Rattle.pl_ring.specs.Ring.{place_size, Ring, IsCapacity, HasPlaces}
use Rattle.pl_segments.specs.Slots.{total}

-- the slots, and the capacity
abbrev pub view_of : {A : Type 0} → Inside A → Ring
view_of r = record { slots = r.slots.items; capacity = r.capacity }

-- the bytes are counted, fit, and have their places; the places for `reset` are there; no slot is empty, and no two could be one
pub record IsSound {A : Type 0} (r : Inside A) : Type 0 where
  pub held : r.held ≡ total r.slots.items
  pub fits : r.held ≤ r.capacity
  pub enough : r.held ≤ place_size * r.slots.capacity
  pub places : HasPlaces r.slots.capacity r.few
  pub range : IsCapacity r.capacity
  pub slots : AreOfRing r.slots.items
