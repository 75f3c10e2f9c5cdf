use Rattle.std.proofs.Common.{◌≡◌, ◌∙◌, ◌+◌, ◌-◌, [], ◌∷◌, ◌++◌, ap, sym, subst, length, take, drop, arith}
use Rattle.std.specs.Prelude.{replicate}
use Rattle.pl_segments.specs.Segments.{segment_at}
use Rattle.pl_segments.specs.Slices.{all_read}
use Rattle.pl_segments.specs.Turns.{Holds, Turns}
use Rattle.pl_segments.specs.Slots.{total, AllSolid, solid_of, drop_bytes}
use Rattle.pl_segments.proofs.Turning.{turns-then}
use Rattle.pl_segments.proofs.Pushing.{lies-still}
use Rattle.pl_file.proofs.Patching.{all-still}
use Rattle.pl_file.specs.Rows.{Chunks, index}
use Rattle.pl_file.proofs.Patched.{patched-held}
use Rattle.pl_file.proofs.Replacing.{fits-kept, memory-left, front-held}
use Rattle.pl_file.proofs.Editing.{total-some, solid-length, still-few, made-held, part-lies, part-lies-some, rest-ends, put-read, change-becomes, change-file, change-solid, lie-within}
use Rattle.pl_file.proofs.edit.overwrite.Given.{Over}
use Rattle.pl_file.proofs.edit.overwrite.Goals.{After-put_bytes, After-join_part, After-close}
use Rattle.pl_file.proofs.edit.overwrite.Goals as goal

-- what is put in, with the bytes
module _ (g : Over) (c : After-put_bytes g) where
  bytes-turns : Turns (segment_at c.args.store.now) [] (segment_at c.put_bytes.new.store) c.put_bytes.new.patch.slots
  bytes-turns =
      turns-then (segment_at c.args.store.now) (segment_at c.open.new.store) (segment_at c.put_bytes.new.store) [] c.in_ok-patch.field-0.patch.slots c.put_bytes.new.patch.slots
      c.in_ok-patch.ensures.opened.front.turns c.put_bytes.ensures.patched.becomes.turns

  slots : c.open.new.chunks.slots ≡ c.args.chunks.now.slots
  slots = λ i. (c.in_ok-patch.ensures.chunks i).slots

  rest : drop_bytes (c.args.place + length c.args.bytes.now) c.args.chunks.now.slots ≡ solid_of (c.in_ok-patch.field-0.rest.part ∷ []) ++ drop (index c.args.chunks.now c.in_ok-patch.field-0.rest.place) c.args.chunks.now.slots
  rest = c.in_ok-patch.ensures.opened.left.is

  part-still :
      all_read (segment_at c.put_bytes.new.store) (solid_of (c.in_ok-patch.field-0.rest.part ∷ []))
      ≡ all_read (segment_at c.args.store.now) (solid_of (c.in_ok-patch.field-0.rest.part ∷ []))
  part-still =
      let m = segment_at c.args.store.now in
      let o = c.in_ok-patch.field-0 in
      all-still m (segment_at c.put_bytes.new.store) c.put_bytes.new.patch.slots bytes-turns (solid_of (o.rest.part ∷ []))
      (part-lies c.args.chunks.now.slots (index c.args.chunks.now o.rest.place) (c.args.place + length c.args.bytes.now) o.rest.part rest m c.requires.file.held.lie)

pub join_part-requires-clause-lies : goal.join_part-requires-clause-lies
join_part-requires-clause-lies g c =
    let b = (goal.at.join_part-requires-clause-lies g c).After-put_bytes in
    let o = c.in_ok-patch.field-0 in
    λ some.
    lies-still (segment_at c.args.store.now) (segment_at c.put_bytes.new.store) c.put_bytes.new.patch.slots (bytes-turns g b) o.rest.part
    (part-lies-some c.args.chunks.now.slots (index c.args.chunks.now o.rest.place) (c.args.place + length c.args.bytes.now) o.rest.part (rest g b) (segment_at c.args.store.now) c.requires.file.held.lie some)

pub join_part-requires-clause-few : goal.join_part-requires-clause-few
join_part-requires-clause-few g c =
    let b = (goal.at.join_part-requires-clause-few g c).After-put_bytes in
    let o = c.in_ok-patch.field-0 in
    let ps = c.put_bytes.new.patch.slots in
    λ some.
    let f = still-few (segment_at c.args.store.now) (segment_at c.put_bytes.new.store) ps (bytes-turns g b) o.rest.part.segment in
    let r = c.requires.few o.rest.part.segment in
    let l = solid-length ps c.put_bytes.ensures.patched.solid in
    let t = c.put_bytes.ensures.total in
    let p = c.in_ok-patch.ensures.opened.front.end in
    omega (arith, f, r, l, t, p, c.requires.fits)

pub put_bytes-requires-clause-held : goal.put_bytes-requires-clause-held
put_bytes-requires-clause-held g c =
    let o = c.in_ok-patch.field-0 in
    front-held c.args.store.now c.args.chunks.now c.args.place c.open.new.store o.patch o.first c.in_ok-patch.ensures.opened.front

pub join_part-requires-clause-held : goal.join_part-requires-clause-held
join_part-requires-clause-held g c =
    let o = c.in_ok-patch.field-0 in
    patched-held (segment_at c.open.new.store) (segment_at c.put_bytes.new.store) o.patch c.put_bytes.new.patch _
    (front-held c.args.store.now c.args.chunks.now c.args.place c.open.new.store o.patch o.first c.in_ok-patch.ensures.opened.front) c.put_bytes.ensures.patched

-- and with what stays of the slot behind
module _ (g : Over) (c : After-join_part g) (t : Turns (segment_at c.args.store.now) [] (segment_at c.put_bytes.new.store) c.put_bytes.new.patch.slots) where
  all-turns : Turns (segment_at c.args.store.now) [] (segment_at c.join_part.new.store) c.join_part.new.patch.slots
  all-turns = turns-then (segment_at c.args.store.now) (segment_at c.put_bytes.new.store) (segment_at c.join_part.new.store) [] c.put_bytes.new.patch.slots c.join_part.new.patch.slots t c.join_part.ensures.patched.becomes.turns

  module _ (still : all_read (segment_at c.put_bytes.new.store) (solid_of (c.in_ok-patch.field-0.rest.part ∷ [])) ≡ all_read (segment_at c.args.store.now) (solid_of (c.in_ok-patch.field-0.rest.part ∷ []))) where
    reads :
        all_read (segment_at c.args.store.now) (take (index c.args.chunks.now c.in_ok-patch.field-0.first) c.args.chunks.now.slots) ++ all_read (segment_at c.join_part.new.store) c.join_part.new.patch.slots
        ≡ ((take c.args.place (all_read (segment_at c.args.store.now) c.args.chunks.now.slots) ++ replicate (c.args.place - total c.args.chunks.now.slots) 0) ++ c.args.bytes.now)
        ++ all_read (segment_at c.args.store.now) (solid_of (c.in_ok-patch.field-0.rest.part ∷ []))
    reads =
        let m = segment_at c.args.store.now in
        let o = c.in_ok-patch.field-0 in
        let xs = c.args.chunks.now.slots in
        put-read (all_read m (take (index c.args.chunks.now o.first) xs)) (all_read (segment_at c.open.new.store) o.patch.slots) c.args.bytes.now (all_read m (solid_of (o.rest.part ∷ [])))
        (take c.args.place (all_read m xs) ++ replicate (c.args.place - total xs) 0) (all_read (segment_at c.join_part.new.store) c.join_part.new.patch.slots)
        (c.join_part.ensures.patched.becomes.read ∙ (λ i. c.put_bytes.ensures.patched.becomes.read i ++ still i)) c.in_ok-patch.ensures.opened.front.read

pub close-requires-clause-held : goal.close-requires-clause-held
close-requires-clause-held g c =
    let k = goal.at.close-requires-clause-held g c in
    let n = segment_at c.join_part.new.store in
    let ps = c.join_part.new.patch.slots in
    subst (λ xs. Holds n (xs ++ ps)) (sym (slots g k.After-put_bytes))
    (made-held (segment_at c.args.store.now) n c.args.chunks.now.slots ps c.requires.file.held (all-turns g k.After-join_part (bytes-turns g k.After-put_bytes)))

pub close-requires-clause-fits : goal.close-requires-clause-fits
close-requires-clause-fits g c =
    let b = (goal.at.close-requires-clause-fits g c).After-put_bytes in
    let o = c.in_ok-patch.field-0 in
    let opened = c.in_ok-patch.ensures.opened in
    let xs = c.args.chunks.now.slots in
    let j = c.join_part.ensures in
    let p = c.put_bytes.ensures in
    fits-kept c.args.chunks.now c.open.new.chunks c.open.new.chunks.room o.first o.rest.place c.join_part.new.patch c.in_ok-patch.ensures.chunks
    (record {
      span = opened.span;
      some = total-some c.join_part.new.patch.slots (omega (arith, j.total, p.total, c.requires.some));
      starts = j.patched.base ∙ p.patched.base ∙ opened.front.starts;
      ends = λ l.
          let e = rest-ends xs (index c.args.chunks.now o.rest.place) (c.args.place + length c.args.bytes.now) o.rest.part (rest g b) opened.left.starts l in
          omega (arith, e, j.total, p.total, j.patched.base, p.patched.base, opened.front.end);
    })

pub close-requires-clause-memory : goal.close-requires-clause-memory
close-requires-clause-memory g c =
    let o = c.in_ok-patch.field-0 in
    memory-left c.open.new.chunks o.first o.rest.place _ (length c.join_part.new.patch.slots) o.patch.capacity c.join_part.new.patch.capacity o.pieces.rows.items o.pieces.last
    (omega (arith, c.join_part.ensures.many, c.put_bytes.ensures.many)) (c.join_part.ensures.patched.capacity ∙ c.put_bytes.ensures.patched.capacity) c.in_ok-patch.ensures.memory

-- and put in its place
module _ (g : Over) (c : After-close g) where
  closed : Turns (segment_at c.join_part.new.store) (c.args.chunks.now.slots ++ c.join_part.new.patch.slots) (segment_at c.close.new.store) c.close.new.chunks.slots
  closed =
      subst (λ xs. Turns (segment_at c.join_part.new.store) (xs ++ c.join_part.new.patch.slots) (segment_at c.close.new.store) c.close.new.chunks.slots) (λ i. (c.in_ok-patch.ensures.chunks i).slots) c.close.ensures.becomes.turns

  closed-read :
      all_read (segment_at c.close.new.store) c.close.new.chunks.slots
      ≡ all_read (segment_at c.join_part.new.store) (take (index c.args.chunks.now c.in_ok-patch.field-0.first) c.args.chunks.now.slots)
      ++ (all_read (segment_at c.join_part.new.store) c.join_part.new.patch.slots ++ all_read (segment_at c.join_part.new.store) (drop (index c.args.chunks.now c.in_ok-patch.field-0.rest.place) c.args.chunks.now.slots))
  closed-read =
      let n = segment_at c.join_part.new.store in
      let o = c.in_ok-patch.field-0 in
      c.close.ensures.becomes.read ∙ ap (λ (v : Chunks). all_read n (take (index v o.first) v.slots) ++ (all_read n c.join_part.new.patch.slots ++ all_read n (drop (index v o.rest.place) v.slots))) c.in_ok-patch.ensures.chunks

pub returns-clause-becomes : goal.returns-clause-becomes
returns-clause-becomes g c =
    let k = goal.at.returns-clause-becomes g c in
    let b = k.After-put_bytes in
    let o = c.in_ok-patch.field-0 in
    let t = bytes-turns g b in
    change-becomes (segment_at c.args.store.now) (segment_at c.join_part.new.store) (segment_at c.close.new.store) c.args.chunks.now.slots c.join_part.new.patch.slots c.close.new.chunks.slots
    (index c.args.chunks.now o.first) (index c.args.chunks.now o.rest.place) c.args.place o.rest.part c.args.bytes.now c.requires.file.held (all-turns g k.After-join_part t) (rest g b) c.requires.some
    (reads g k.After-join_part t (part-still g b)) (closed g k.After-close) (closed-read g k.After-close)

pub returns-clause-file : goal.returns-clause-file
returns-clause-file g c =
    let k = goal.at.returns-clause-file g c in
    let b = k.After-put_bytes in
    let o = c.in_ok-patch.field-0 in
    let t = bytes-turns g b in
    change-file (segment_at c.args.store.now) (segment_at c.join_part.new.store) (segment_at c.close.new.store) c.args.chunks.now.slots c.join_part.new.patch.slots c.close.new.chunks.slots
    (index c.args.chunks.now o.first) (index c.args.chunks.now o.rest.place) c.args.place o.rest.part c.args.bytes.now c.requires.file.held (all-turns g k.After-join_part t) (rest g b) c.requires.some
    (reads g k.After-join_part t (part-still g b)) (closed g k.After-close) (closed-read g k.After-close) c.requires.file.most c.requires.fits
    (subst AllSolid (sym c.close.ensures.slots)
    (change-solid c.open.new.chunks.slots c.join_part.new.patch.slots (index c.open.new.chunks o.first) (index c.open.new.chunks o.rest.place) (subst AllSolid (sym (slots g b)) c.requires.file.solid) c.join_part.ensures.patched.solid))
    (lie-within c.close.new.store.held c.close.new.chunks.slots c.in_use-segments.ensures.good c.close.ensures.becomes.turns.lie)
