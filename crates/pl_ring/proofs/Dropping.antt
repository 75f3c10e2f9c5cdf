-- A ring whose first bytes went.
use Rattle.std.proofs.Common.{◌≡◌, ◌≤◌, ◌-◌, ℕ, ap, sym, subst, arith}
use Rattle.circular_buffer.specs.Buffer.{Buffer}
use Rattle.pl_segments.specs.declared.slice.Slice.{Slice}
use Rattle.pl_segments.specs.Slots.{total, drop_bytes}
use Rattle.pl_segments.proofs.Fronting.{solid-drop, total-drop}
use Rattle.pl_ring.specs.declared.ring.Ring.TheInside.{Inside}
use Rattle.pl_ring.specs.Pushed.{AreOfRing}
use Rattle.pl_ring.specs.Ring.{HasPlaces}
use Rattle.pl_ring.specs.RingView.{IsSound}
use Rattle.pl_ring.proofs.Placing.{merged-dropped}

pub dropped : {A : Type 0} (r : Inside A) (left : Buffer Slice) (n : ℕ) → IsSound r → n ≤ total r.slots.items → left.items ≡ drop_bytes n r.slots.items → left.capacity ≡ r.slots.capacity
    → IsSound (record r { slots = left; held = r.held - n })
dropped r left n inv few is places =
    let rest = total-drop r.slots.items n few in
    let bytes = ap total is in
    record {
      held = omega (arith, inv.held, rest, bytes);
      fits = omega (arith, inv.fits);
      enough = omega (arith, inv.enough, places);
      places = subst (λ p. HasPlaces p r.few) (sym places) inv.places;
      range = inv.range;
      slots = subst AreOfRing (sym is) (record { solid = solid-drop r.slots.items n inv.slots.solid; merged = merged-dropped r.slots.items n inv.slots.merged });
    }
