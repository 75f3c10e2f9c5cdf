use Rattle.std.proofs.Common.{◌≡◌, ◌∙◌, ◌++◌, ap, sym, subst, length, take, drop, arith}
use Rattle.std.proofs.lemmas.List.{append_assoc, take-append-drop, length-take, length-drop}
use Rattle.pl_segments.specs.Segments.{Segments, segment_at}
use Rattle.pl_segments.specs.Slices.{AllLie, all_read}
use Rattle.pl_segments.specs.Slots.{total}
use Rattle.pl_segments.specs.Turns.{Turns}
use Rattle.pl_ring.specs.Pushed.{AreOfRing}
use Rattle.pl_segments.proofs.Turning.{turns-same, turns-then}
use Rattle.pl_segments.proofs.Pushing.{total-pushed}
use Rattle.pl_ring.proofs.push.push_behind.Goals.{then-rest-gt0+in_ok-reserve, else-rest-gt0, then-grown-ne0, else-grown-ne0}
use Rattle.pl_ring.proofs.push.push_behind.Goals as goal

pub push_new-requires-clause-ring : goal.push_new-requires-clause-ring
push_new-requires-clause-ring g c =
    let ring = c.requires.ring in
    let xs = c.args.slots.now.items in
    let first = c.split_at.result.0.now in
    let rest = c.split_at.result.1.now in
    let same : segment_at c.if-rest-gt0.store ≡ segment_at c.args.store.now =
    elim c.if-rest-gt0.branch [
      | then-rest-gt0+in_ok-reserve v ↦ ap (λ (s : Segments). segment_at s) (v.store-is ∙ v.reserve.ensures.kept)
      | else-rest-gt0 v ↦ ap (λ (s : Segments). segment_at s) v.store-is
    ] in
    let f : length first ≡ length (take c.min-grown.result c.args.bytes.now) = ap length c.split_at.ensures.front in
    let b : length rest ≡ length (drop c.min-grown.result c.args.bytes.now) = ap length c.split_at.ensures.back in
    let lf = length-take c.min-grown.result c.args.bytes.now in
    let lb = length-drop c.min-grown.result c.args.bytes.now in
    elim c.if-grown-ne0.branch [
      | then-grown-ne0 w ↦
          let e = w.grow_tail.ensures.pushed in
          let sum = total-pushed (segment_at c.if-rest-gt0.store) (segment_at w.grow_tail.new.store) xs w.grow_tail.new.slots.items first (subst (λ m. AllLie m xs) (sym same) c.requires.held.lie) e.gains.turns.lie e.gains.read in
          let slots : total c.if-grown-ne0.slots.items ≡ total w.grow_tail.new.slots.items = (λ i. total (w.slots-is i).items) in
          let places : c.if-grown-ne0.slots.capacity ≡ w.grow_tail.new.slots.capacity = (λ i. (w.slots-is i).capacity) in
          record {
            slots = subst AreOfRing (sym (λ i. (w.slots-is i).items)) e.slots;
            even = omega (arith, places, e.capacity, ring.even);
            fits = omega (arith, f, b, lf, lb, sum, slots, places, e.capacity, ring.fits);
          }
      | else-grown-ne0 w ↦
          let slots : total c.if-grown-ne0.slots.items ≡ total xs = (λ i. total (w.slots-is i).items) in
          let places : c.if-grown-ne0.slots.capacity ≡ c.args.slots.now.capacity = (λ i. (w.slots-is i).capacity) in
          record {
            slots = subst AreOfRing (sym (λ i. (w.slots-is i).items)) ring.slots;
            even = omega (arith, places, ring.even);
            fits = omega (arith, b, lb, slots, places, ring.fits);
          }
    ]

pub returns-clause-pushed : goal.returns-clause-pushed
returns-clause-pushed g c =
    let m = segment_at c.args.store.now in
    let n = segment_at c.if-grown-ne0.store in
    let xs = c.args.slots.now.items in
    let ys = c.if-grown-ne0.slots.items in
    let first = c.split_at.result.0.now in
    let rest = c.split_at.result.1.now in
    let bytes = c.args.bytes.now in
    let same : segment_at c.if-rest-gt0.store ≡ m =
    elim c.if-rest-gt0.branch [
      | then-rest-gt0+in_ok-reserve v ↦ ap (λ (s : Segments). segment_at s) (v.store-is ∙ v.reserve.ensures.kept)
      | else-rest-gt0 v ↦ ap (λ (s : Segments). segment_at s) v.store-is
    ] in
    let whole : first ++ rest ≡ bytes = (λ i. c.split_at.ensures.front i ++ c.split_at.ensures.back i) ∙ take-append-drop c.min-grown.result bytes in
    let grown : Turns m xs n ys × (all_read n ys ++ rest ≡ all_read m xs ++ bytes) × (c.if-grown-ne0.slots.capacity ≡ c.args.slots.now.capacity) =
    elim c.if-grown-ne0.branch [
      | then-grown-ne0 w ↦
          let o = segment_at w.grow_tail.new.store in
          let e = w.grow_tail.ensures.pushed in (
            subst (λ k. Turns m xs k ys) (sym (ap (λ (s : Segments). segment_at s) w.store-is))
                (subst (Turns m xs o) (sym (λ i. (w.slots-is i).items)) (subst (λ k. Turns k xs o w.grow_tail.new.slots.items) same e.gains.turns)),
            (λ i. all_read (segment_at (w.store-is i)) (w.slots-is i).items ++ rest)
                ∙ ap (λ bs. bs ++ rest) (e.gains.read ∙ ap (λ k. all_read k xs ++ first) same)
                ∙ append_assoc (all_read m xs) first rest
                ∙ ap (λ bs. all_read m xs ++ bs) whole,
            (λ i. (w.slots-is i).capacity) ∙ e.capacity,
          )
      | else-grown-ne0 w ↦ (
        subst (λ k. Turns m xs k ys) (sym (ap (λ (s : Segments). segment_at s) w.store-is ∙ same))
            (subst (Turns m xs m) (sym (λ i. (w.slots-is i).items)) (turns-same m xs c.requires.held.lie)),
        (λ i. all_read (segment_at (w.store-is i)) (w.slots-is i).items ++ rest)
            ∙ ap (λ k. all_read k xs ++ rest) same
            ∙ ap (λ bs. all_read m xs ++ bs) (c.split_at.ensures.back ∙ ap (λ k. drop k bytes) w.if-grown-ne0.false),
        (λ i. (w.slots-is i).capacity),
      )
    ] in
    let new = c.push_new.ensures.pushed in
    record {
      gains = record {
        turns = turns-then m n (segment_at c.push_new.new.store) xs ys c.push_new.new.slots.items grown.0 new.gains.turns;
        read = new.gains.read ∙ grown.1;
      };
      slots = new.slots;
      capacity = new.capacity ∙ grown.2;
    }
