use Rattle.std.proofs.Common.{◌≡◌, ◌∙◌, ◌++◌, ◌∷◌, [], ◌+◌, ap, sym, subst, length, arith}
use Rattle.std.specs.Prelude.{is_ok, IfOk}
use Rattle.std.proofs.lemmas.Result.{IfOk-at_ok}
use Rattle.pl_segments.specs.declared.slice.Slice.{Slice}
use Rattle.pl_segments.specs.Segments.{segment_at}
use Rattle.pl_segments.specs.Slices.{reads, all_read}
use Rattle.pl_segments.specs.Turns.{Turns}
use Rattle.pl_ring.specs.Merging.{lens, AreMerged}
use Rattle.pl_ring.specs.Pushed.{AreOfRing}
use Rattle.pl_segments.proofs.Pushing.{tail-lies, tail-fits, tail-turns, tail-read, tail-solid}
use Rattle.pl_ring.proofs.Placing.{longer-merged}
use Rattle.pl_ring.proofs.push.grow_tail.Given.{Over}
use Rattle.pl_ring.proofs.push.grow_tail.Goals.{After-unwrap-longer}
use Rattle.pl_ring.proofs.push.grow_tail.Goals as goal

pub try_append-requires : goal.try_append-requires
try_append-requires g c =
    let m = segment_at c.args.store.now in
    let x = c.take_last-last.result in
    tail-lies m m c.args.slots.now.items c.take_last-last.new.slots.items x x c.args.bytes.now c.take_last-last.ensures.items c.requires.held

pub unwrap-longer-requires : goal.unwrap-longer-requires
unwrap-longer-requires g c =
    let m = segment_at c.args.store.now in
    let x = c.take_last-last.result in
    ap is_ok (c.try_append.ensures.value ∙ tail-fits m m c.args.slots.now.items c.take_last-last.new.slots.items x x c.args.bytes.now c.take_last-last.ensures.items c.requires.held c.requires.some c.requires.fits)

-- the longer slice
module _ (g : Over) (c : After-unwrap-longer g) where
  turns : Turns (segment_at c.args.store.now) (c.take_last-last.result ∷ []) (segment_at c.try_append.new.self) (c.unwrap-longer.result ∷ [])
  turns = IfOk-at_ok (λ more. Turns (segment_at c.args.store.now) (c.take_last-last.result ∷ []) (segment_at c.try_append.new.self) (more ∷ [])) c.unwrap-longer.ensures c.try_append.ensures.turns

  read : reads (segment_at c.try_append.new.self) c.unwrap-longer.result ≡ reads (segment_at c.args.store.now) c.take_last-last.result ++ c.args.bytes.now
  read = IfOk-at_ok (λ more. reads (segment_at c.try_append.new.self) more ≡ reads (segment_at c.args.store.now) c.take_last-last.result ++ c.args.bytes.now) c.unwrap-longer.ensures c.try_append.ensures.reads

  len : c.take_last-last.result.len + length c.args.bytes.now ≡ c.unwrap-longer.result.len
  len =
      let m = segment_at c.args.store.now in
      let x = c.take_last-last.result in
      let fits = tail-fits m m c.args.slots.now.items c.take_last-last.new.slots.items x x c.args.bytes.now c.take_last-last.ensures.items c.requires.held c.requires.some c.requires.fits in
      IfOk-at_ok (λ (s : Slice). x.len + length c.args.bytes.now ≡ s.len) c.unwrap-longer.ensures (subst (λ r. IfOk r (λ (s : Slice). x.len + length c.args.bytes.now ≡ s.len)) (sym (c.try_append.ensures.value ∙ fits)) (omega arith))

pub put_last-requires : goal.put_last-requires
put_last-requires g c = c.take_last-last.ensures.place

pub returns-clause-pushed : goal.returns-clause-pushed
returns-clause-pushed g c =
    let k = (goal.at.returns-clause-pushed g c).After-unwrap-longer in
    let m = segment_at c.args.store.now in
    let n = segment_at c.try_append.new.self in
    let xs = c.args.slots.now.items in
    let front = c.take_last-last.new.slots.items in
    let x = c.take_last-last.result in
    let y = c.unwrap-longer.result in
    let bytes = c.args.bytes.now in
    let last = c.take_last-last.ensures.items in
    let held = c.requires.held in
    let l = len g k in
    let items : c.put_last.new.slots.items ≡ front ++ y ∷ [] = (λ i. (c.put_last.ensures i).items) in
    record {
      gains = record {
        turns = subst (Turns m xs n) (sym items) (tail-turns m n xs front x y bytes last held (turns g k));
        read = ap (all_read n) items ∙ tail-read m n xs front x y bytes last held (turns g k) (read g k);
      };
      slots = subst AreOfRing (sym items) (
          record {
            solid = tail-solid m m xs front x y bytes last held c.requires.slots.solid (omega (arith, l, c.requires.some));
            merged = longer-merged front x y (omega (arith, l)) (subst (λ zs. AreMerged (lens zs)) last c.requires.slots.merged);
          }
          );
      capacity = (λ i. (c.put_last.ensures i).capacity) ∙ c.take_last-last.ensures.capacity;
    }
