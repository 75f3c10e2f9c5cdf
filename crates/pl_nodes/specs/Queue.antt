-- The queue of a pipe, as its slots, its packets and its capacity.
use Rattle.std.specs.Prelude.{ℕ, List, Option, None, Some}
use Rattle.pl_model.specs.Packets.{used_of, front_of, spent_of}
use Rattle.pl_segments.specs.declared.slice.Slice.{Slice}
use Rattle.pl_segments.specs.Slots.{total}
use Rattle.pl_ring.specs.Merging.{lens}
use Rattle.pl_nodes.specs.declared.queue.Queue.{Queue}
use Rattle.pl_nodes.specs.declared.queue.Queue.TheVariants.{Bytes, Packets}

module _ {A : Type 0} where
  -- the slots in which the bytes stand
  abbrev pub slots_of : Queue A → List Slice
  slots_of (Bytes ring) = ring.slots
  slots_of (Packets ring) = ring.slots

  abbrev pub capacity_of : Queue A → ℕ
  capacity_of (Bytes ring) = ring.capacity
  capacity_of (Packets ring) = ring.capacity

  -- pipe(2), O_DIRECT: the lengths of the packets from the front, each of which has a slot. A byte queue has none.
  abbrev pub packets_of : Queue A → Option (List ℕ)
  packets_of (Bytes ring) = None
  packets_of (Packets ring) = Some (lens ring.slots)

  -- how much of its capacity it takes
  abbrev pub used_by : Queue A → ℕ
  used_by q = used_of (packets_of q) (total (slots_of q))

  -- how many bytes the next read can get
  abbrev pub front_by : Queue A → ℕ
  front_by q = front_of (packets_of q) (total (slots_of q))

  -- how many bytes a read takes that gives n of them
  abbrev pub spent_by : Queue A → (n : ℕ) → ℕ
  spent_by q n = spent_of (packets_of q) n
