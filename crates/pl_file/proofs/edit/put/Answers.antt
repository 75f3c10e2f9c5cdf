use Rattle.std.proofs.Common.{◌≡◌, ◌∙◌, ◌+◌, ◌-◌, ◌≤◌, [], ◌∷◌, ◌++◌, ap, sym, subst, length, take, drop, arith}
use Rattle.std.specs.Prelude.{replicate}
use Rattle.std.proofs.lemmas.List.{length-take}
use Rattle.pl_segments.specs.Segments.{segment_at}
use Rattle.pl_segments.specs.Slices.{all_read}
use Rattle.pl_segments.specs.Turns.{Holds, Turns}
use Rattle.pl_segments.specs.Slots.{total, AllSolid, solid_of, drop_bytes, front_of}
use Rattle.pl_segments.proofs.SlotLemmas.{total-read, total-solid}
use Rattle.pl_segments.proofs.Fronting.{front-total}
use Rattle.pl_segments.proofs.Turning.{turns-then}
use Rattle.pl_segments.proofs.Pushing.{lies-still}
use Rattle.pl_file.proofs.Patching.{all-still, solid-one, solid-some}
use Rattle.pl_file.specs.Rows.{Chunks, index}
use Rattle.pl_file.proofs.Patched.{patched-held}
use Rattle.pl_file.proofs.Replacing.{fits-kept, memory-left, front-held}
use Rattle.pl_file.proofs.Editing.{total-some, solid-length, still-few, still-lie, made-held, part-lies, part-lies-some, part-most, part-total, rest-ends, put-read, change-becomes, change-file, change-solid, lie-within}
use Rattle.pl_file.specs.Joined.{joined}
use Rattle.pl_file.proofs.Joining.{length-joined, total-joined, joined-append, between-is}
use Rattle.pl_file.proofs.edit.put.Given.{Over}
use Rattle.pl_file.proofs.edit.put.Goals.{After-put_slices, After-hold_part, After-close}
use Rattle.pl_file.proofs.edit.put.Goals as goal

pub put_slices-requires-clause-lie : goal.put_slices-requires-clause-lie
put_slices-requires-clause-lie g c =
    still-lie (segment_at c.args.store.now) (segment_at c.open.new.store) c.in_ok-patch.field-0.patch.slots c.in_ok-patch.ensures.opened.front.turns c.args.slices.now c.requires.lie

pub put_slices-requires-clause-few : goal.put_slices-requires-clause-few
put_slices-requires-clause-few g c =
    let ps = c.in_ok-patch.field-0.patch.slots in
    let l = solid-length ps c.in_ok-patch.ensures.opened.front.solid in
    let p = c.in_ok-patch.ensures.opened.front.end in
    λ key.
    let f = still-few (segment_at c.args.store.now) (segment_at c.open.new.store) ps c.in_ok-patch.ensures.opened.front.turns key in
    let r = c.requires.few key in
    let many = c.in_ok-patch.ensures.memory.slots in
    let most = c.in_ok-patch.ensures.opened.most in
    omega (arith, l, p, f, r, many, most, c.requires.fits)

pub put_slices-requires-clause-held : goal.put_slices-requires-clause-held
put_slices-requires-clause-held g c =
    let o = c.in_ok-patch.field-0 in
    front-held c.args.store.now c.args.chunks.now c.args.place c.open.new.store o.patch o.first c.in_ok-patch.ensures.opened.front

-- what is put in, with the slices
module _ (g : Over) (c : After-put_slices g) where
  slices-turns : Turns (segment_at c.args.store.now) [] (segment_at c.put_slices.new.store) c.put_slices.new.patch.slots
  slices-turns =
      turns-then (segment_at c.args.store.now) (segment_at c.open.new.store) (segment_at c.put_slices.new.store) [] c.in_ok-patch.field-0.patch.slots c.put_slices.new.patch.slots
      c.in_ok-patch.ensures.opened.front.turns c.put_slices.ensures.patched.becomes.turns

  slots : c.open.new.chunks.slots ≡ c.args.chunks.now.slots
  slots = λ i. (c.in_ok-patch.ensures.chunks i).slots

  bytes : length (take c.args.count (all_read (segment_at c.args.store.now) c.args.slices.now)) ≡ c.args.count
  bytes =
      let l = length-take c.args.count (all_read (segment_at c.args.store.now) c.args.slices.now) in
      let t = total-read (segment_at c.args.store.now) c.args.slices.now c.requires.lie in
      omega (arith, l, t, c.requires.all)

  rest : drop_bytes (c.args.place + c.args.count) c.args.chunks.now.slots ≡ solid_of (c.in_ok-patch.field-0.rest.part ∷ []) ++ drop (index c.args.chunks.now c.in_ok-patch.field-0.rest.place) c.args.chunks.now.slots
  rest = c.in_ok-patch.ensures.opened.left.is

  part-still :
      all_read (segment_at c.put_slices.new.store) (solid_of (c.in_ok-patch.field-0.rest.part ∷ []))
      ≡ all_read (segment_at c.args.store.now) (solid_of (c.in_ok-patch.field-0.rest.part ∷ []))
  part-still =
      let m = segment_at c.args.store.now in
      let o = c.in_ok-patch.field-0 in
      all-still m (segment_at c.put_slices.new.store) c.put_slices.new.patch.slots slices-turns (solid_of (o.rest.part ∷ []))
      (part-lies c.args.chunks.now.slots (index c.args.chunks.now o.rest.place) (c.args.place + c.args.count) o.rest.part rest m c.requires.file.held.lie)

  some : 1 ≤ length (take c.args.count (all_read (segment_at c.args.store.now) c.args.slices.now))
  some = let b = bytes in omega (arith, b, c.requires.some)

  rest-long :
      drop_bytes (c.args.place + length (take c.args.count (all_read (segment_at c.args.store.now) c.args.slices.now))) c.args.chunks.now.slots
      ≡ solid_of (c.in_ok-patch.field-0.rest.part ∷ []) ++ drop (index c.args.chunks.now c.in_ok-patch.field-0.rest.place) c.args.chunks.now.slots
  rest-long = ap (λ k. drop_bytes (c.args.place + k) c.args.chunks.now.slots) bytes ∙ rest

  -- the slots reach up to the end of what is put
  sum : c.put_slices.new.patch.base + total c.put_slices.new.patch.slots ≡ c.args.place + c.args.count
  sum =
      let new = solid_of (front_of c.args.count c.args.slices.now) in
      let a = ap total c.put_slices.ensures.slots in
      let b = total-joined c.in_ok-patch.field-0.patch.slots new in
      let d = total-solid (front_of c.args.count c.args.slices.now) in
      let f = front-total c.args.slices.now c.args.count c.requires.all in
      let p = c.in_ok-patch.ensures.opened.front.end in
      let e = c.put_slices.ensures.patched.base in
      omega (arith, a, b, d, f, p, e)

pub hold_part-requires-clause-lies : goal.hold_part-requires-clause-lies
hold_part-requires-clause-lies g c =
    let b = (goal.at.hold_part-requires-clause-lies g c).After-put_slices in
    let o = c.in_ok-patch.field-0 in
    λ some.
    lies-still (segment_at c.args.store.now) (segment_at c.put_slices.new.store) c.put_slices.new.patch.slots (slices-turns g b) o.rest.part
    (part-lies-some c.args.chunks.now.slots (index c.args.chunks.now o.rest.place) (c.args.place + c.args.count) o.rest.part (rest g b) (segment_at c.args.store.now) c.requires.file.held.lie some)

pub hold_part-requires-clause-few : goal.hold_part-requires-clause-few
hold_part-requires-clause-few g c =
    let b = (goal.at.hold_part-requires-clause-few g c).After-put_slices in
    let o = c.in_ok-patch.field-0 in
    let ps = c.put_slices.new.patch.slots in
    λ some.
    let f = still-few (segment_at c.args.store.now) (segment_at c.put_slices.new.store) ps (slices-turns g b) o.rest.part.segment in
    let r = c.requires.few o.rest.part.segment in
    let l = solid-length ps c.put_slices.ensures.patched.solid in
    let s = sum g b in
    omega (arith, f, r, l, s, c.requires.fits)

pub hold_part-requires-clause-fits : goal.hold_part-requires-clause-fits
hold_part-requires-clause-fits g c =
    let b = (goal.at.hold_part-requires-clause-fits g c).After-put_slices in
    let o = c.in_ok-patch.field-0 in
    let s = sum g b in
    let m = part-most c.args.chunks.now.slots (index c.args.chunks.now o.rest.place) (c.args.place + c.args.count) o.rest.part (rest g b) in
    omega (arith, s, m, c.requires.fits, c.requires.file.most)

pub hold_part-requires-clause-held : goal.hold_part-requires-clause-held
hold_part-requires-clause-held g c =
    let o = c.in_ok-patch.field-0 in
    patched-held (segment_at c.open.new.store) (segment_at c.put_slices.new.store) o.patch c.put_slices.new.patch _
    (front-held c.args.store.now c.args.chunks.now c.args.place c.open.new.store o.patch o.first c.in_ok-patch.ensures.opened.front) c.put_slices.ensures.patched

-- and with what stays of the slot behind
module _ (g : Over) (c : After-hold_part g) (t : Turns (segment_at c.args.store.now) [] (segment_at c.put_slices.new.store) c.put_slices.new.patch.slots) where
  all-turns : Turns (segment_at c.args.store.now) [] (segment_at c.hold_part.new.store) c.hold_part.new.patch.slots
  all-turns = turns-then (segment_at c.args.store.now) (segment_at c.put_slices.new.store) (segment_at c.hold_part.new.store) [] c.put_slices.new.patch.slots c.hold_part.new.patch.slots t c.hold_part.ensures.patched.becomes.turns

  module _ (still : all_read (segment_at c.put_slices.new.store) (solid_of (c.in_ok-patch.field-0.rest.part ∷ [])) ≡ all_read (segment_at c.args.store.now) (solid_of (c.in_ok-patch.field-0.rest.part ∷ []))) where
    reads :
        all_read (segment_at c.args.store.now) (take (index c.args.chunks.now c.in_ok-patch.field-0.first) c.args.chunks.now.slots) ++ all_read (segment_at c.hold_part.new.store) c.hold_part.new.patch.slots
        ≡ ((take c.args.place (all_read (segment_at c.args.store.now) c.args.chunks.now.slots) ++ replicate (c.args.place - total c.args.chunks.now.slots) 0)
        ++ take c.args.count (all_read (segment_at c.args.store.now) c.args.slices.now))
        ++ all_read (segment_at c.args.store.now) (solid_of (c.in_ok-patch.field-0.rest.part ∷ []))
    reads =
        let m = segment_at c.args.store.now in
        let o = c.in_ok-patch.field-0 in
        let xs = c.args.chunks.now.slots in
        let same = all-still m (segment_at c.open.new.store) o.patch.slots c.in_ok-patch.ensures.opened.front.turns c.args.slices.now c.requires.lie in
        let put = c.put_slices.ensures.patched.becomes.read ∙ ap (λ bs. all_read (segment_at c.open.new.store) o.patch.slots ++ take c.args.count bs) same in
        put-read (all_read m (take (index c.args.chunks.now o.first) xs)) (all_read (segment_at c.open.new.store) o.patch.slots) (take c.args.count (all_read m c.args.slices.now)) (all_read m (solid_of (o.rest.part ∷ [])))
        (take c.args.place (all_read m xs) ++ replicate (c.args.place - total xs) 0) (all_read (segment_at c.hold_part.new.store) c.hold_part.new.patch.slots)
        (c.hold_part.ensures.patched.becomes.read ∙ (λ i. put i ++ still i)) c.in_ok-patch.ensures.opened.front.read

pub close-requires-clause-held : goal.close-requires-clause-held
close-requires-clause-held g c =
    let k = goal.at.close-requires-clause-held g c in
    let n = segment_at c.hold_part.new.store in
    let ps = c.hold_part.new.patch.slots in
    subst (λ xs. Holds n (xs ++ ps)) (sym (slots g k.After-put_slices))
    (made-held (segment_at c.args.store.now) n c.args.chunks.now.slots ps c.requires.file.held (all-turns g k.After-hold_part (slices-turns g k.After-put_slices)))

pub close-requires-clause-fits : goal.close-requires-clause-fits
close-requires-clause-fits g c =
    let b = (goal.at.close-requires-clause-fits g c).After-put_slices in
    let o = c.in_ok-patch.field-0 in
    let opened = c.in_ok-patch.ensures.opened in
    let xs = c.args.chunks.now.slots in
    let h = c.hold_part.ensures in
    let p = c.put_slices.ensures in
    let part = solid_of (o.rest.part ∷ []) in
    let s = sum g b in
    fits-kept c.args.chunks.now c.open.new.chunks c.open.new.chunks.room o.first o.rest.place c.hold_part.new.patch c.in_ok-patch.ensures.chunks
    (record {
      span = opened.span;
      some =
          let e = ap length h.slots in
          let l = (length-joined c.put_slices.new.patch.slots part).0 in
          let some = total-some c.put_slices.new.patch.slots (omega (arith, s, p.patched.base, opened.front.end, c.requires.some)) in
          omega (arith, e, l, some);
      starts = h.patched.base ∙ p.patched.base ∙ opened.front.starts;
      ends = λ l.
          let e = rest-ends xs (index c.args.chunks.now o.rest.place) (c.args.place + c.args.count) o.rest.part (rest g b) opened.left.starts l in
          let j = ap total h.slots in
          let f = total-joined c.put_slices.new.patch.slots part in
          let t = part-total xs (index c.args.chunks.now o.rest.place) (c.args.place + c.args.count) o.rest.part (rest g b) in
          omega (arith, e, j, f, t, h.patched.base, s);
    })

pub close-requires-clause-memory : goal.close-requires-clause-memory
close-requires-clause-memory g c =
    let o = c.in_ok-patch.field-0 in
    let e = ap length c.hold_part.ensures.slots in
    let l = (length-joined c.put_slices.new.patch.slots (solid_of (o.rest.part ∷ []))).1 in
    let one = solid-one o.rest.part in
    memory-left c.open.new.chunks o.first o.rest.place _ (length c.hold_part.new.patch.slots) o.patch.capacity c.hold_part.new.patch.capacity o.pieces.rows.items o.pieces.last
    (omega (arith, e, l, one, c.put_slices.ensures.many)) (c.hold_part.ensures.patched.capacity ∙ c.put_slices.ensures.patched.capacity) c.in_ok-patch.ensures.memory

-- and put in its place
module _ (g : Over) (c : After-close g) where
  closed : Turns (segment_at c.hold_part.new.store) (c.args.chunks.now.slots ++ c.hold_part.new.patch.slots) (segment_at c.close.new.store) c.close.new.chunks.slots
  closed =
      subst (λ xs. Turns (segment_at c.hold_part.new.store) (xs ++ c.hold_part.new.patch.slots) (segment_at c.close.new.store) c.close.new.chunks.slots) (λ i. (c.in_ok-patch.ensures.chunks i).slots) c.close.ensures.becomes.turns

  closed-read :
      all_read (segment_at c.close.new.store) c.close.new.chunks.slots
      ≡ all_read (segment_at c.hold_part.new.store) (take (index c.args.chunks.now c.in_ok-patch.field-0.first) c.args.chunks.now.slots)
      ++ (all_read (segment_at c.hold_part.new.store) c.hold_part.new.patch.slots ++ all_read (segment_at c.hold_part.new.store) (drop (index c.args.chunks.now c.in_ok-patch.field-0.rest.place) c.args.chunks.now.slots))
  closed-read =
      let n = segment_at c.hold_part.new.store in
      let o = c.in_ok-patch.field-0 in
      c.close.ensures.becomes.read ∙ ap (λ (v : Chunks). all_read n (take (index v o.first) v.slots) ++ (all_read n c.hold_part.new.patch.slots ++ all_read n (drop (index v o.rest.place) v.slots))) c.in_ok-patch.ensures.chunks

pub returns-clause-becomes : goal.returns-clause-becomes
returns-clause-becomes g c =
    let k = goal.at.returns-clause-becomes g c in
    let b = k.After-put_slices in
    let o = c.in_ok-patch.field-0 in
    let t = slices-turns g b in
    change-becomes (segment_at c.args.store.now) (segment_at c.hold_part.new.store) (segment_at c.close.new.store) c.args.chunks.now.slots c.hold_part.new.patch.slots c.close.new.chunks.slots
    (index c.args.chunks.now o.first) (index c.args.chunks.now o.rest.place) c.args.place o.rest.part (take c.args.count (all_read (segment_at c.args.store.now) c.args.slices.now)) c.requires.file.held (all-turns g k.After-hold_part t) (rest-long g b) (some g b)
    (reads g k.After-hold_part t (part-still g b)) (closed g k.After-close) (closed-read g k.After-close)

pub returns-clause-between : goal.returns-clause-between
returns-clause-between g c =
    let b = (goal.at.returns-clause-between g c).After-put_slices in
    let o = c.in_ok-patch.field-0 in
    let xs = c.args.chunks.now.slots in
    let new = solid_of (front_of c.args.count c.args.slices.now) in
    let part = solid_of (o.rest.part ∷ []) in
    λ here.
    let place = c.args.place in
    let before = front_of place xs in
    let after = drop_bytes (place + c.args.count) xs in
    let i = index c.args.chunks.now o.first in
    let j = index c.args.chunks.now o.rest.place in
    let no_gap = c.in_ok-patch.ensures.opened.front.within here in
    record {
      slots = λ _.
          (c.close.ensures.slots ∙ ap (λ (v : Chunks). take (index v o.first) v.slots ++ (c.hold_part.new.patch.slots ++ drop (index v o.rest.place) v.slots)) c.in_ok-patch.ensures.chunks)
          ∙ ap (λ ys. take i xs ++ (ys ++ drop j xs)) (c.hold_part.ensures.slots ∙ ap (λ ys. joined ys part) c.put_slices.ensures.slots ∙ sym (joined-append o.patch.slots new part))
          ∙ sym (between-is (take i xs) o.patch.slots new part (drop j xs) before after (sym (no_gap.is)) (no_gap.one) (no_gap.some) (rest g b) (solid-one o.rest.part)
          (λ l. let s = c.in_ok-patch.ensures.opened.left.some l in subst (λ ys. 1 ≤ length ys) (sym (solid-some o.rest.part (λ z. absurd (omega (arith, z, s))))) (omega arith)));
      in_use = omega (arith, c.close.ensures.in_use, c.hold_part.ensures.in_use, c.put_slices.ensures.in_use, no_gap.in_use);
    }

pub returns-clause-file : goal.returns-clause-file
returns-clause-file g c =
    let k = goal.at.returns-clause-file g c in
    let b = k.After-put_slices in
    let o = c.in_ok-patch.field-0 in
    let t = slices-turns g b in
    change-file (segment_at c.args.store.now) (segment_at c.hold_part.new.store) (segment_at c.close.new.store) c.args.chunks.now.slots c.hold_part.new.patch.slots c.close.new.chunks.slots
    (index c.args.chunks.now o.first) (index c.args.chunks.now o.rest.place) c.args.place o.rest.part (take c.args.count (all_read (segment_at c.args.store.now) c.args.slices.now)) c.requires.file.held (all-turns g k.After-hold_part t) (rest-long g b) (some g b)
    (reads g k.After-hold_part t (part-still g b)) (closed g k.After-close) (closed-read g k.After-close) c.requires.file.most (let n = bytes g b in omega (arith, n, c.requires.fits))
    (subst AllSolid (sym c.close.ensures.slots)
    (change-solid c.open.new.chunks.slots c.hold_part.new.patch.slots (index c.open.new.chunks o.first) (index c.open.new.chunks o.rest.place) (subst AllSolid (sym (slots g b)) c.requires.file.solid) c.hold_part.ensures.patched.solid))
    (lie-within c.close.new.store.held c.close.new.chunks.slots c.in_use-segments.ensures.good c.close.ensures.becomes.turns.lie)
