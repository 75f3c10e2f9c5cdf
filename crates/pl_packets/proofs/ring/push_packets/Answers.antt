use Rattle.std.proofs.Common.{◌≡◌, ◌+◌, ◌-◌, ◌++◌, ◌∷◌, [], ◌∙◌, refl, ap, sym, subst, length, arith}
use Rattle.std.proofs.lemmas.List.{append_assoc, take-append-drop, length-take, length-drop, length_push}
use Rattle.pl_model.specs.Packets.{piece_lengths}
use Rattle.pl_segments.specs.declared.slice.Slice.{Slice}
use Rattle.pl_segments.specs.Segments.{Segments, segment_at, live_count}
use Rattle.pl_segments.specs.Slices.{all_read}
use Rattle.pl_segments.specs.Turns.{Turns, Holds}
use Rattle.pl_segments.proofs.Turning.{turns-same, turns-then, holds-turned}
use Rattle.pl_segments.proofs.SlotLemmas.{solid-append}
use Rattle.pl_segments.proofs.Pushing.{push-turns, push-read}
use Rattle.pl_ring.specs.Merging.{lens}
use Rattle.pl_ring.proofs.Placing.{lens-append}
use Rattle.pl_packets.specs.Packets.{ArePackets}
use Rattle.pl_packets.proofs.Cutting.{many-pieces, next-piece, fit-push}
use Rattle.pl_packets.proofs.ring.push_packets.Given.{Over}
use Rattle.pl_packets.proofs.ring.push_packets.Goals.{After-put_last}
use Rattle.pl_packets.proofs.ring.push_packets.Goals as goal

pub loop-rest-init : goal.loop-rest-init
loop-rest-init g c =
    let m = segment_at c.args.store.now in
    let n = many-pieces (length c.args.bytes.now) in
    let d = c.div_ceil.ensures in
    let e = c.in_ok-reserve.ensures in
    let room = e.room in
    record {
      lens = refl;
      read = ap (λ s. all_read (segment_at s) c.args.slots.now.items ++ c.args.bytes.now) e.kept;
      turns = subst (λ s. Turns m c.args.slots.now.items (segment_at s) c.args.slots.now.items) (sym e.kept) (turns-same m c.args.slots.now.items c.requires.held.lie);
      packets = c.requires.packets;
      in_use = ap (λ (s : Segments). live_count s.held + length (piece_lengths (length c.args.bytes.now))) e.kept;
      capacity = refl;
      fits = c.requires.fits;
      room = omega (arith, n, d, room);
    }

pub make_reserved-slice-requires-clause-room : goal.make_reserved-slice-requires-clause-room
make_reserved-slice-requires-clause-room g c =
    let some = c.loop-rest-test.true in
    let p = ap length (next-piece (length c.loop-rest.rest.now) c.min-count.result (omega (arith, some)) (c.min-count.ensures)) in
    let r = c.loop-rest.invariant.room in
    omega (arith, p, r)

pub put_last-requires : goal.put_last-requires
put_last-requires g c =
    let some = c.loop-rest-test.true in
    let f = c.loop-rest.invariant.fits in
    omega (arith, some, f)

-- the packet behind the others
module _ (g : Over) (c : After-put_last g) where
  held : Holds (segment_at c.loop-rest.store) c.loop-rest.slots.items
  held = holds-turned (segment_at c.args.store.now) (segment_at c.loop-rest.store) c.args.slots.now.items c.loop-rest.slots.items c.requires.held c.loop-rest.invariant.turns

  items : c.put_last.new.slots.items ≡ c.loop-rest.slots.items ++ c.make_reserved-slice.result ∷ []
  items = (λ i. (c.put_last.ensures i).items)

  len : c.make_reserved-slice.result.len ≡ c.min-count.result
  len =
      let n = ap (λ (s : Slice). s.len) c.make_reserved-slice.ensures.slice in
      let f = ap length c.split_at.ensures.front in
      let l = length-take c.min-count.result c.loop-rest.rest.now in
      let count = c.min-count.ensures in
      omega (arith, n, f, l, count)

  more : length c.split_at.result.1.now ≡ length c.loop-rest.rest.now - c.min-count.result
  more = ap length c.split_at.ensures.back ∙ length-drop c.min-count.result c.loop-rest.rest.now

  pieces : piece_lengths (length c.loop-rest.rest.now) ≡ c.make_reserved-slice.result.len ∷ piece_lengths (length c.split_at.result.1.now)
  pieces =
      let some = c.loop-rest-test.true in
      next-piece (length c.loop-rest.rest.now) c.min-count.result (omega (arith, some)) c.min-count.ensures
      ∙ (λ i. sym len i ∷ piece_lengths (sym more i))

pub loop-rest-preserved : goal.loop-rest-preserved
loop-rest-preserved g c =
    let k = (goal.at.loop-rest-preserved g c).After-put_last in
    let m0 = segment_at c.args.store.now in
    let m = segment_at c.loop-rest.store in
    let n = segment_at c.make_reserved-slice.new.self in
    let ys = c.loop-rest.slots.items in
    let x = c.make_reserved-slice.result in
    let first = c.split_at.result.0.now in
    let rest = c.split_at.result.1.now in
    let inv = c.loop-rest.invariant in
    let made = c.make_reserved-slice.ensures in
    let whole : first ++ rest ≡ c.loop-rest.rest.now = (λ i. c.split_at.ensures.front i ++ c.split_at.ensures.back i) ∙ take-append-drop c.min-count.result c.loop-rest.rest.now in
    let count = c.min-count.ensures in
    let some = c.loop-rest-test.true in
    let l = len g k in
    let r = more g k in
    let many = ap length (pieces g k) in
    let one = ap length (items g k) ∙ length_push ys x in
    record {
      lens = ap (λ zs. lens zs ++ piece_lengths (length rest)) (items g k)
          ∙ ap (λ ns. ns ++ piece_lengths (length rest)) (lens-append ys (x ∷ []))
          ∙ append_assoc (lens ys) (x.len ∷ []) (piece_lengths (length rest))
          ∙ ap (λ ns. lens ys ++ ns) (sym (pieces g k))
          ∙ inv.lens;
      read = ap (λ zs. all_read n zs ++ rest) (items g k)
          ∙ ap (λ bs. bs ++ rest) (push-read m n ys x first (held g k) made.turns made.reads)
          ∙ append_assoc (all_read m ys) first rest
          ∙ ap (λ bs. all_read m ys ++ bs) whole
          ∙ inv.read;
      turns = subst (Turns m0 c.args.slots.now.items n) (sym (items g k)) (turns-then m0 m n c.args.slots.now.items ys (ys ++ x ∷ []) inv.turns (push-turns m n ys x first (held g k) made.turns));
      packets = subst ArePackets (sym (items g k)) (
          record {
            solid = solid-append ys (x ∷ []) inv.packets.solid (omega (arith, l, count, some), tt);
            fit = fit-push ys x inv.packets.fit (omega (arith, l, count));
          }
          );
      in_use = let u = inv.in_use in let v = made.in_use in omega (arith, u, v, many);
      capacity = (λ i. (c.put_last.ensures i).capacity) ∙ inv.capacity;
      fits = let f = inv.fits in let p : c.put_last.new.slots.capacity ≡ c.loop-rest.slots.capacity = (λ i. (c.put_last.ensures i).capacity) in omega (arith, f, p, one, r, count, some);
      room = let f = inv.room in let v = made.room in omega (arith, f, v, many);
    }
