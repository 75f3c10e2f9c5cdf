use Rattle.std.proofs.Common.{◌≡◌, ◌∙◌, [], ◌+◌, ap, sym, subst, take, slice_index_or, arith}
use Rattle.std.proofs.lemmas.List.{take_all, length-take}
use Rattle.pl_segments.specs.Segments.{Segments, segment_at, live_count}
use Rattle.pl_segments.specs.Slices.{all_read}
use Rattle.pl_segments.specs.Turns.{Turns}
use Rattle.pl_segments.specs.Slots.{solid_of}
use Rattle.pl_segments.proofs.SlotLemmas.{no_slice}
use Rattle.pl_segments.proofs.Pushing.{lie-at, lies-still, holders-le, held-turns, held-read, passed-turns, passed-read}
use Rattle.pl_ring.proofs.push.hold_all.Goals.{then-slice-ne0, else-slice-ne0}
use Rattle.pl_ring.proofs.push.hold_all.Goals as goal

pub hold-requires-clause-lies : goal.hold-requires-clause-lies
hold-requires-clause-lies g c =
    lies-still (segment_at c.args.store.now) (segment_at c.loop-i.store) (solid_of (take c.loop-i.i c.args.slices.now)) c.loop-i.invariant.turns
    (slice_index_or c.args.slices.now c.loop-i.i no_slice) (lie-at (segment_at c.args.store.now) c.args.slices.now c.loop-i.i no_slice c.loop-i-test.true c.requires.lie)

pub hold-requires-clause-few : goal.hold-requires-clause-few
hold-requires-clause-few g c =
    let x = slice_index_or c.args.slices.now c.loop-i.i no_slice in
    let few = c.requires.few x.segment in
    let more = holders-le (segment_at c.args.store.now) (segment_at c.loop-i.store) (take c.loop-i.i c.args.slices.now) c.loop-i.invariant.turns x.segment in
    let len = length-take c.loop-i.i c.args.slices.now in
    omega (arith, few, more, len)

pub loop-i-preserved : goal.loop-i-preserved
loop-i-preserved g c =
    let m0 = segment_at c.args.store.now in
    let m = segment_at c.loop-i.store in
    let xs = c.args.slices.now in
    let i = c.loop-i.i in
    let inv = c.loop-i.invariant in
    let l = c.loop-i-test.true in
    let lies = lie-at m0 xs i no_slice l c.requires.lie in
    elim c.if-slice-ne0.branch [
      | then-slice-ne0 w ↦
          let n = segment_at w.hold.new.self in
          record {
            turns = subst (λ (s : Segments). Turns m0 [] (segment_at s) (solid_of (take (i + 1) xs))) (sym w.store-is) (held-turns m0 m n xs i no_slice l lies inv.turns inv.read w.if-slice-ne0.true w.hold.ensures.turns);
            read = subst (λ (s : Segments). all_read (segment_at s) (solid_of (take (i + 1) xs)) ≡ all_read m0 (take (i + 1) xs)) (sym w.store-is) (held-read m0 m n xs i no_slice l lies inv.turns inv.read w.if-slice-ne0.true w.hold.ensures.turns w.hold.ensures.reads);
            in_use = ap (λ (s : Segments). live_count s.held) w.store-is ∙ w.hold.ensures.in_use ∙ inv.in_use;
            room = ap (λ (s : Segments). s.room) w.store-is ∙ w.hold.ensures.room ∙ inv.room;
          }
      | else-slice-ne0 w ↦
          record {
            turns = subst (λ (s : Segments). Turns m0 [] (segment_at s) (solid_of (take (i + 1) xs))) (sym w.store-is) (passed-turns m0 m m xs i no_slice l lies inv.turns inv.read w.if-slice-ne0.false);
            read = subst (λ (s : Segments). all_read (segment_at s) (solid_of (take (i + 1) xs)) ≡ all_read m0 (take (i + 1) xs)) (sym w.store-is) (passed-read m0 m m xs i no_slice l lies inv.turns inv.read w.if-slice-ne0.false);
            in_use = ap (λ (s : Segments). live_count s.held) w.store-is ∙ inv.in_use;
            room = ap (λ (s : Segments). s.room) w.store-is ∙ inv.room;
          }
    ]

pub returns-clause-turns : goal.returns-clause-turns
returns-clause-turns g c =
    let all = take_all c.loop-i.i c.args.slices.now c.loop-i-test.false in
    subst (λ zs. Turns (segment_at c.args.store.now) [] (segment_at c.loop-i.store) (solid_of zs)) all c.loop-i.invariant.turns

pub returns-clause-read : goal.returns-clause-read
returns-clause-read g c =
    let all = take_all c.loop-i.i c.args.slices.now c.loop-i-test.false in
    subst (λ zs. all_read (segment_at c.loop-i.store) (solid_of zs) ≡ all_read (segment_at c.args.store.now) zs) all c.loop-i.invariant.read
