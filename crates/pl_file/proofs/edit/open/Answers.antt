use Rattle.std.proofs.Common.{◌≡◌, ◌∙◌, ◌+◌, ◌-◌, ◌≤◌, [], ◌∷◌, ◌++◌, ap, sym, subst, inl, inr, length, take, arith}
use Rattle.std.specs.Prelude.{replicate}
use Rattle.std.proofs.lemmas.Bool.{cases_lt}
use Rattle.pl_segments.specs.Segments.{Segments, segment_at, live_count}
use Rattle.pl_segments.specs.Slices.{Lies, all_read}
use Rattle.pl_segments.specs.Slots.{total, solid_of}
use Rattle.pl_segments.specs.Turns.{Turns}
use Rattle.pl_segments.proofs.Turning.{turns-then}
use Rattle.pl_segments.proofs.SlotLemmas.{total-solid}
use Rattle.pl_file.specs.Rows.{Row, Chunks, index, staying}
use Rattle.pl_file.specs.Spans.{NoGap}
use Rattle.pl_file.specs.Joined.{joined}
use Rattle.pl_file.proofs.Joining.{joined-one}
use Rattle.pl_file.proofs.Patching.{solid-one, solid-some}
use Rattle.pl_file.proofs.Patched.{patched-held, none-held}
use Rattle.pl_file.proofs.Editing.{total-take}
use Rattle.pl_file.proofs.Opening.{front-sum, front-part-lies, open-read}
use Rattle.pl_file.proofs.edit.open.Given.{Over}
use Rattle.pl_file.proofs.edit.open.Goals.{After-put_zeros, then-gap-eq0, else-gap-eq0}
use Rattle.pl_file.proofs.edit.open.Goals as goal

pub hold_part-requires-clause-lies : goal.hold_part-requires-clause-lies
hold_part-requires-clause-lies g c =
    let xs = c.args.chunks.now.slots in
    let front = c.front_cut-front.result in
    λ some.
    subst (λ s. Lies (segment_at s) front.part) (sym c.in_ok-reserve.ensures.kept)
    (front-part-lies xs (index c.args.chunks.now front.place) c.args.place front.part c.requires.file.solid c.front_cut-front.ensures.front (segment_at c.args.store.now) c.requires.file.held.lie some)

-- the gap, and what is held before it
module _ (g : Over) (c : After-put_zeros g) where
  gap : c.saturating_sub-gap.result ≡ c.args.place - total c.args.chunks.now.slots
  gap = let s = c.saturating_sub-gap.ensures in let e = c.end.ensures in omega (arith, s, e)

  first : c.hold_part.new.patch.slots ≡ solid_of (c.front_cut-front.result.part ∷ [])
  first = c.hold_part.ensures.slots ∙ ap (λ xs. joined xs (solid_of (c.front_cut-front.result.part ∷ []))) c.in_ok-patch.ensures.slots ∙ joined-one c.front_cut-front.result.part

  sum : total (take (index c.args.chunks.now c.front_cut-front.result.place) c.args.chunks.now.slots) + c.front_cut-front.result.part.len + c.saturating_sub-gap.result ≡ c.args.place
  sum =
      let s = front-sum c.args.chunks.now.slots (index c.args.chunks.now c.front_cut-front.result.place) c.args.place c.front_cut-front.result.part c.requires.file.solid c.front_cut-front.ensures.front in
      let e = gap in
      omega (arith, s, e)

pub hold_part-requires-clause-held : goal.hold_part-requires-clause-held
hold_part-requires-clause-held g c = none-held (segment_at c.reserve-2.new.self) c.in_ok-patch.patch.slots c.in_ok-patch.ensures.slots

pub put_zeros-requires-clause-held : goal.put_zeros-requires-clause-held
put_zeros-requires-clause-held g c =
    patched-held (segment_at c.reserve-2.new.self) (segment_at c.hold_part.new.store) c.in_ok-patch.patch c.hold_part.new.patch _
    (none-held (segment_at c.reserve-2.new.self) c.in_ok-patch.patch.slots c.in_ok-patch.ensures.slots) c.hold_part.ensures.patched

-- what is put in, up to the place
module _ (g : Over) (c : After-put_zeros g) (gapped : c.saturating_sub-gap.result ≡ c.args.place - total c.args.chunks.now.slots) (held_first : c.hold_part.new.patch.slots ≡ solid_of (c.front_cut-front.result.part ∷ [])) where
  turns : Turns (segment_at c.args.store.now) [] (segment_at c.put_zeros.new.store) c.put_zeros.new.patch.slots
  turns =
      let after = segment_at c.hold_part.new.store in
      let slots = c.hold_part.new.patch.slots in
      let held = subst (λ xs. Turns (segment_at c.reserve-2.new.self) xs after slots) c.in_ok-patch.ensures.slots c.hold_part.ensures.patched.becomes.turns in
      turns-then (segment_at c.args.store.now) after (segment_at c.put_zeros.new.store) [] slots c.put_zeros.new.patch.slots
      (subst (λ s. Turns (segment_at s) [] after slots) c.in_ok-reserve.ensures.kept held)
      c.put_zeros.ensures.patched.becomes.turns

  reads :
      all_read (segment_at c.args.store.now) (take (index c.args.chunks.now c.front_cut-front.result.place) c.args.chunks.now.slots) ++ all_read (segment_at c.put_zeros.new.store) c.put_zeros.new.patch.slots
      ≡ take c.args.place (all_read (segment_at c.args.store.now) c.args.chunks.now.slots) ++ replicate (c.args.place - total c.args.chunks.now.slots) 0
  reads =
      let m = segment_at c.args.store.now in
      let h = segment_at c.reserve-2.new.self in
      let xs = c.args.chunks.now.slots in
      let front = c.front_cut-front.result in
      let part = solid_of (front.part ∷ []) in
      let same : all_read h part ≡ all_read m part = ap (λ s. all_read (segment_at s) part) c.in_ok-reserve.ensures.kept in
      let held = c.hold_part.ensures.patched.becomes.read ∙ ap (λ ys. all_read h ys ++ all_read h part) c.in_ok-patch.ensures.slots ∙ same in
      open-read xs (index c.args.chunks.now front.place) c.args.place front.part c.requires.file.solid c.front_cut-front.ensures.front m (segment_at c.put_zeros.new.store) c.put_zeros.new.patch.slots c.requires.file.held.lie
      (c.put_zeros.ensures.patched.becomes.read ∙ (λ i. held i ++ replicate (gapped i) 0))

  -- where there is no gap, there are no zeros
  no_gap : c.args.place ≤ total c.args.chunks.now.slots → NoGap c.args.store.now c.args.chunks.now c.args.place c.put_zeros.new.store c.put_zeros.new.patch c.front_cut-front.result.place
  no_gap within =
      let xs = c.args.chunks.now.slots in
      let part = c.front_cut-front.result.part in
      let same = c.put_zeros.ensures.same (omega (arith, gapped, within)) in
      let slots : c.put_zeros.new.patch.slots ≡ solid_of (part ∷ []) = ap (λ (r : Row). r.slots) same.1 ∙ held_first in
      let n = ap length slots in
      record {
        is = ap (λ ys. take (index c.args.chunks.now c.front_cut-front.result.place) xs ++ ys) slots ∙ sym c.front_cut-front.ensures.front;
        one = let o = solid-one part in omega (arith, n, o);
        some = λ some.
            let l = c.front_cut-front.ensures.some some in
            let f = ap length (solid-some part (λ z. absurd (omega (arith, z, l)))) in
            omega (arith, n, f);
        in_use = ap (λ (s : Segments). live_count s.held) same.0 ∙ c.hold_part.ensures.in_use ∙ ap (λ (s : Segments). live_count s.held) c.in_ok-reserve.ensures.kept;
      }

-- the spots in order
ordered : (g : Over) (c : After-put_zeros g) → index c.args.chunks.now c.front_cut-front.result.place ≤ index c.args.chunks.now c.rest_cut-rest.result.place
ordered g c =
    let xs = c.args.chunks.now.slots in
    let i = index c.args.chunks.now c.front_cut-front.result.place in
    let j = index c.args.chunks.now c.rest_cut-rest.result.place in
    elim (cases_lt j i) as (λ _. i ≤ j) [
      | inl l ↦
          let within = c.front_cut-front.ensures.place in
          let starts = c.rest_cut-rest.ensures.rest.starts (omega (arith, l, within)) in
          let before = c.front_cut-front.ensures.starts in
          let t = total-take xs j i (omega (arith, l)) in
          absurd (omega (arith, starts, before, t))
      | inr l ↦ l
    ]

pub returns-clause-opened : goal.returns-clause-opened
returns-clause-opened g c =
    let k = (goal.at.returns-clause-opened g c).After-put_zeros in
    let z = c.put_zeros.ensures in
    let h = c.hold_part.ensures in
    record {
      front = record {
        turns = turns g k (gap g k) (first g k);
        read = reads g k (gap g k) (first g k);
        solid = z.patched.solid;
        starts = z.patched.base ∙ h.patched.base ∙ c.in_ok-patch.ensures.base ∙ c.start-start.ensures;
        end =
            let s = sum g k in
            let f = ap total (first g k) in
            let p = total-solid (c.front_cut-front.result.part ∷ []) in
            omega (arith, s, f, p, z.total, z.patched.base, h.patched.base, c.in_ok-patch.ensures.base, c.start-start.ensures);
        within = no_gap g k (gap g k) (first g k);
      };
      span = record {
        from = c.front_cut-front.ensures.spot;
        to = c.rest_cut-rest.ensures.spot;
        order = ordered g k;
        most = c.rest_cut-rest.ensures.place;
      };
      left = c.rest_cut-rest.ensures.rest;
      most = omega (arith, z.patched.capacity, h.patched.capacity);
    }

pub returns-clause-memory : goal.returns-clause-memory
returns-clause-memory g c =
    let k = (goal.at.returns-clause-memory g c).After-put_zeros in
    let f = ap length (first g k) in
    let one = solid-one c.front_cut-front.result.part in
    let z = c.put_zeros.ensures in
    let h = c.hold_part.ensures in
    let stay = c.staying.ensures.value in
    let moved = ap (λ (v : Chunks). staying v c.front_cut-front.result.place c.rest_cut-rest.result.place) c.in_ok-pieces.ensures.kept in
    let ready = c.in_ok-pieces.ensures.ready in
    record {
      slots = omega (arith, f, one, z.many, z.patched.capacity, h.patched.capacity, c.in_ok-patch.ensures.capacity, stay, moved);
      ready = record {
        empty = ready.empty;
        none = ready.none;
        whole = ready.whole;
        enough = omega (arith, ready.enough, z.patched.capacity, h.patched.capacity);
        list = ready.list;
      };
    }

pub returns-clause-room : goal.returns-clause-room
returns-clause-room g c =
    let r = c.in_ok-reserve.ensures.room in
    let h = c.hold_part.ensures.room in
    let z = c.put_zeros.ensures in
    elim c.if-gap-eq0.branch as (λ _. c.args.segments ≤ c.put_zeros.new.store.room) [
      | then-gap-eq0 w ↦
          let i = w.reserve-is in
          let same = ap (λ (s : Segments). s.room) (z.same w.if-gap-eq0.true).0 in
          omega (arith, r, h, i, same)
      | else-gap-eq0 w ↦
          let i = w.reserve-is in
          omega (arith, r, h, i, z.room)
    ]
