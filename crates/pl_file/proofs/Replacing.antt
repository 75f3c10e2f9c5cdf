-- A span of a file's slots, and what comes in its place.
use Rattle.std.proofs.Common.{◌≡◌, ℕ, ◌≤◌, List, [], sym, subst, arith}
use Rattle.pl_segments.specs.Segments.{Segments, segment_at}
use Rattle.pl_segments.specs.Turns.{Holds}
use Rattle.pl_segments.proofs.Turning.{holds-turned}
use Rattle.pl_file.specs.declared.spot.Spot.{Spot}
use Rattle.pl_file.specs.Rows.{Row, Chunks}
use Rattle.pl_file.specs.Patches.{AreHeld}
use Rattle.pl_file.specs.Spans.{FitsIn, HasMemory, IsFront}

-- chunks with memory for more chunks have the same spans
pub fits-kept : (v w : Chunks) (room : ℕ) (first end : Spot) (patch : Row) → w ≡ record v { room = room } → FitsIn v first end patch → FitsIn w first end patch
fits-kept v w room first end patch e f =
    subst (λ (u : Chunks). FitsIn u first end patch) (sym e)
    (record { span = record { from = f.span.from; to = f.span.to; order = f.span.order; most = f.span.most }; some = f.some; starts = f.starts; ends = f.ends })

-- and there is memory for fewer slots
pub memory-left : (v : Chunks) (first end : Spot) (count fewer capacity other : ℕ) (pieces : List Row) (last : Row) → fewer ≤ count → other ≡ capacity
    → HasMemory v first end count capacity pieces last → HasMemory v first end fewer other pieces last
memory-left v first end count fewer capacity other pieces last l e m = record {
  slots = let s = m.slots in omega (arith, l, e, s);
  ready = record {
    empty = m.ready.empty;
    none = m.ready.none;
    whole = m.ready.whole;
    enough = let s = m.ready.enough in omega (arith, e, s);
    list = m.ready.list;
  };
}

-- what stands up to the place is held
pub front-held : (s : Segments) (v : Chunks) (place : ℕ) (t : Segments) (patch : Row) (first : Spot) → IsFront s v place t patch first → AreHeld (segment_at t) patch.slots
front-held s v place t patch first f =
    let none : Holds (segment_at s) [] = record { lie = tt; few = λ key. omega arith } in
    record { held = holds-turned (segment_at s) (segment_at t) [] patch.slots none f.turns; solid = f.solid }
