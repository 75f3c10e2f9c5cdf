-- A spare segment is taken out of the store's slab to copy bytes by, and the bytes of one slice are added behind another.
use Rattle.std.proofs.Common.{◌≡◌, ◌+◌, ◌≤◌, ◌∙◌, ℕ, ap, sym, subst, Some, None, Option, List, [], ◌∷◌, ◌++◌, length, slice_set, arith}
use Rattle.std.specs.Option.{option_to_list}
use Rattle.std.proofs.lemmas.List.{length-append}
use Rattle.std.proofs.lemmas.Option.{same_Some}
use Rattle.slab.specs.Slab.{Slab, Updates}
use Rattle.pl_segments.specs.StoreView.{held_of, unless_spare, spare_in, IsSmall, AreSound}
use Rattle.pl_segments.specs.declared.slice.Slice.{Slice}
use Rattle.pl_segments.specs.Segments.{segment_size, Map, Segment, at, set_at, longer, filled, bytes_in, live_count}
use Rattle.pl_segments.specs.Slices.{Lies, reads, longer_by, room_after}
use Rattle.pl_segments.specs.Turns.{Turns}
use Rattle.pl_segments.proofs.Storing.{taken-there, taken-sound, unseen-same, spare-unseen, lent-held, lent-was, lent-set, lent-live, lent-sound}
use Rattle.pl_segments.proofs.Changing.{set-here, turns-longer, reads-longer, room-fits, length-reads, longer-bytes}

-- the segment of the last spare key is taken out
module _ (old new : Slab Segment) (held : List (Option Segment)) (same : held_of old.slots ≡ held) (keys left : List ℕ) (popped : Option ℕ) (key : ℕ)
    (out : Segment) (sound : AreSound old.slots keys) (items : keys ≡ left ++ option_to_list popped) (is : popped ≡ Some key) (value : at old.slots key ≡ Some out) (u : Updates old new key None) where
  last : keys ≡ left ++ key ∷ []
  last = items ∙ ap (λ o. left ++ option_to_list o) is

  spare : (s : Segment) × ((at old.slots key ≡ Some s) × (s.holders ≡ 0))
  spare = taken-there old.slots keys left key sound last

  pub out-unheld : out.holders ≡ 0
  out-unheld = ap (λ (s : Segment). s.holders) (same_Some out spare.0 (sym value ∙ spare.1.0)) ∙ spare.1.1

  pub out-held : held_of new.slots ≡ held
  out-held = unseen-same old.slots new.slots key u.others (ap unless_spare value ∙ spare-unseen out out-unheld) (ap unless_spare u.changed) ∙ same

  pub out-sound : AreSound new.slots left
  out-sound = taken-sound old.slots new.slots key u.others keys left last sound (ap spare_in u.changed) (subst IsSmall (sym u.changed) tt)

-- bytes that a slice reads are added behind another slice
module _ (slots held : List (Option Segment)) (same : held_of slots ≡ held) (a b : Slice) (x : Segment) (lent : at slots a.segment ≡ Some x)
    (bytes : List ℕ) (copied : bytes ≡ reads (at held) b) (first : Lies (at held) a) (second : Lies (at held) b)
    (some : 1 ≤ b.len) (fits : b.len ≤ room_after (at held) a) where
  was : at held a.segment ≡ Some x
  was = lent-was slots held same a.segment x lent first.here

  len : length bytes ≡ b.len
  len = ap length copied ∙ length-reads (at held) b second

  end : a.from + a.len ≡ length (filled (at held) a.segment)
  end = (room-fits (at held) a b.len some fits).0

  pub behind-fits : length x.filled + length bytes ≤ segment_size
  behind-fits =
      let w : length (filled (at held) a.segment) ≡ length x.filled = ap (λ (o : Option Segment). length (bytes_in o)) was in
      let f = (room-fits (at held) a b.len some fits).1 in
      omega (arith, w, f, len, end)

  module _ (y : Segment) (added : y ≡ record x { filled = x.filled ++ bytes }) where
    now : 1 ≤ y.holders
    now =
        let h : y.holders ≡ x.holders = ap (λ (s : Segment). s.holders) added in
        let b = lent-held slots held same a.segment x lent first.here in
        omega (arith, h, b)

    pub behind-live : live_count (held_of (slice_set slots a.segment (Some y))) ≡ live_count held
    behind-live = lent-live slots held same a.segment x lent first.here y now

    pub behind-sound : (keys : List ℕ) → AreSound slots keys → AreSound (slice_set slots a.segment (Some y)) keys
    behind-sound keys sound =
        let l : length y.filled ≡ length (x.filled ++ bytes) = ap (λ (s : Segment). length s.filled) added in
        let s = length-append x.filled bytes in
        lent-sound slots held same a.segment x lent first.here y now keys sound (omega (arith, l, s, behind-fits))

    module _ (after : List (Option Segment)) (shown : held_of after ≡ held_of (slice_set slots a.segment (Some y))) where
      abbrev new : Map
      new = at (held_of after)

      is : new ≡ set_at (at held) a.segment (longer bytes (at held a.segment))
      is =
          ap at shown
          ∙ lent-set slots held same a.segment x lent first.here y now
          ∙ ap (λ (s : Segment). set_at (at held) a.segment (Some s)) added
          ∙ ap (λ (o : Option Segment). set_at (at held) a.segment (longer bytes o)) (sym was)

      pub behind-turns : Turns (at held) (a ∷ []) new (longer_by b.len a ∷ [])
      behind-turns = subst (λ n. Turns (at held) (a ∷ []) new (longer_by n a ∷ [])) len (turns-longer (at held) new a bytes first end is)

      pub behind-reads : reads new (longer_by b.len a) ≡ reads (at held) a ++ reads (at held) b
      behind-reads =
          ap (λ n. reads new (longer_by n a)) (sym len)
          ∙ reads-longer (at held) new a bytes first end is
          ∙ ap (λ bs. reads (at held) a ++ bs) copied

      pub behind-long : length (filled new a.segment) ≡ length (filled (at held) a.segment) + b.len
      behind-long =
          let f : length (filled new a.segment) ≡ length (filled (at held) a.segment ++ bytes) =
          ap length (ap bytes_in (set-here (at held) new a.segment _ is) ∙ longer-bytes bytes (at held a.segment) first.here) in
          let l = length-append (filled (at held) a.segment) bytes in
          omega (arith, f, l, len)
