use Rattle.std.proofs.Common.{◌≡◌, ◌∙◌, ◌∷◌, ◌++◌, List, [], ap, sym, subst, arith}
use Rattle.pl_segments.specs.Segments.{Map, Segments, segment_at}
use Rattle.pl_segments.specs.declared.slice.Slice.{Slice as Part}
use Rattle.pl_segments.specs.Slices.{AllLie, all_read}
use Rattle.pl_segments.specs.Turns.{Turns, Holds}
use Rattle.pl_segments.specs.Slots.{total, AllSolid, cut_front, cut_end, drop_bytes, front_of}
use Rattle.pl_segments.proofs.SlotLemmas.{lies-cut_front}
use Rattle.pl_segments.proofs.Turning.{turns-same}
use Rattle.pl_segments.proofs.Fronting.{drop-whole, drop-none, front-part}
use Rattle.pl_ring.proofs.Leaving.{left-whole, all-left, cut-turns, cut-read}
use Rattle.pl_ring.proofs.front.leave_front.Given.{Over}
use Rattle.pl_ring.proofs.front.leave_front.Goals.{After-put_first}
use Rattle.pl_ring.proofs.front.leave_front.Goals as goal

pub hold-requires-clause-lies : goal.hold-requires-clause-lies
hold-requires-clause-lies g c =
    let lie = subst (AllLie (segment_at c.loop-rest.store)) c.take_first-first.ensures.items c.loop-rest.invariant.lie in
    let part = c.if-rest-first.true in
    lies-cut_front (segment_at c.loop-rest.store) c.take_first-first.result c.loop-rest.rest (omega (arith, part)) lie.0

-- where the bytes end within a slot
module _ (g : Over) (c : After-put_first g) where
  abbrev m : Map
  m = segment_at c.args.store.now

  abbrev n : Map
  n = segment_at c.hold.new.self

  abbrev gone : List Part
  gone = c.loop-rest.invariant.left.gone

  abbrev x : Part
  x = c.take_first-first.result

  abbrev rest : List Part
  rest = c.take_first-first.new.slots.items

  shape : c.args.slots.now.items ≡ gone ++ x ∷ rest
  shape = c.loop-rest.invariant.left.slots ∙ ap (λ zs. gone ++ zs) c.take_first-first.ensures.items

  pieces : front_of c.args.count c.args.slots.now.items ++ c.put_first.new.slots.items ≡ (gone ++ cut_end c.loop-rest.rest x ∷ []) ++ cut_front c.loop-rest.rest x ∷ rest
  pieces =
      let part = c.if-rest-first.true in
      let some = c.loop-rest-test.true in
      let front : front_of c.args.count c.args.slots.now.items ≡ gone ++ cut_end c.loop-rest.rest x ∷ [] =
      c.loop-rest.invariant.left.front ∙ ap (λ zs. gone ++ front_of c.loop-rest.rest zs) c.take_first-first.ensures.items
      ∙ ap (λ zs. gone ++ zs) (front-part c.loop-rest.rest x rest (omega (arith, part)) (λ e. absurd (omega (arith, some, e)))) in
      let items : c.put_first.new.slots.items ≡ cut_front c.loop-rest.rest x ∷ rest = (λ i. (c.put_first.ensures i).items) in
      (λ i. front i ++ items i)

  held : Holds m (gone ++ x ∷ rest)
  held = subst (Holds m) shape c.requires.held

  t : Turns m [] n (cut_front c.loop-rest.rest x ∷ [])
  t = subst (λ (s : Segments). Turns (segment_at s) [] n (cut_front c.loop-rest.rest x ∷ [])) c.loop-rest.invariant.store c.hold.ensures.turns

  pub cut_turns : Turns m c.args.slots.now.items n (front_of c.args.count c.args.slots.now.items ++ c.put_first.new.slots.items)
  cut_turns =
      subst (λ zs. Turns m zs n (front_of c.args.count c.args.slots.now.items ++ c.put_first.new.slots.items)) (sym shape)
      (subst (Turns m (gone ++ x ∷ rest) n) (sym pieces) (cut-turns m n gone x rest c.loop-rest.rest c.if-rest-first.true held t))

  pub cut_read : all_read n (front_of c.args.count c.args.slots.now.items ++ c.put_first.new.slots.items) ≡ all_read m c.args.slots.now.items
  cut_read = ap (all_read n) pieces ∙ cut-read m n gone x rest c.loop-rest.rest c.if-rest-first.true held t ∙ ap (all_read m) (sym shape)

pub returns-then-rest-first-clause-turns : goal.returns-then-rest-first-clause-turns
returns-then-rest-first-clause-turns g c = cut_turns g (goal.at.returns-then-rest-first-clause-turns g c).After-put_first

pub returns-then-rest-first-clause-read : goal.returns-then-rest-first-clause-read
returns-then-rest-first-clause-read g c = cut_read g (goal.at.returns-then-rest-first-clause-read g c).After-put_first

pub loop-rest-preserved : goal.loop-rest-preserved
loop-rest-preserved g c =
    let x = c.take_first-first.result in
    let rest = c.take_first-first.new.slots.items in
    let shape = c.take_first-first.ensures.items in
    let inv = c.loop-rest.invariant in
    let whole = c.if-rest-first.false in
    let some = c.loop-rest-test.true in
    let sum = ap total shape in
    record {
      store = inv.store;
      left = left-whole c.args.count c.loop-rest.rest c.args.slots.now.items x rest c.loop-rest.slots.items shape (omega (arith, whole)) (omega (arith, some)) inv.left;
      slots = drop-whole c.loop-rest.rest x rest whole ∙ ap (drop_bytes c.loop-rest.rest) (sym shape) ∙ inv.slots;
      lie = (subst (AllLie (segment_at c.loop-rest.store)) shape inv.lie).1;
      solid = (subst AllSolid shape inv.solid).1;
      more = omega (arith, sum, inv.more, whole);
      capacity = c.take_first-first.ensures.capacity ∙ inv.capacity;
    }

pub returns-clause-turns : goal.returns-clause-turns
returns-clause-turns g c =
    let m = segment_at c.args.store.now in
    let xs = c.args.slots.now.items in
    let none = c.loop-rest-test.false in
    let all = all-left c.args.count c.loop-rest.rest xs c.loop-rest.slots.items c.loop-rest.invariant.left (omega (arith, none)) in
    subst (λ (s : Segments). Turns m xs (segment_at s) (front_of c.args.count xs ++ c.loop-rest.slots.items)) (sym c.loop-rest.invariant.store)
    (subst (Turns m xs m) all (turns-same m xs c.requires.held.lie))

pub returns-clause-read : goal.returns-clause-read
returns-clause-read g c =
    let none = c.loop-rest-test.false in
    let all = all-left c.args.count c.loop-rest.rest c.args.slots.now.items c.loop-rest.slots.items c.loop-rest.invariant.left (omega (arith, none)) in
    (λ i. all_read (segment_at (c.loop-rest.invariant.store i)) (sym all i))

pub returns-clause-slots : goal.returns-clause-slots
returns-clause-slots g c =
    let inv = c.loop-rest.invariant in
    let none = c.loop-rest-test.false in
    sym (drop-none c.loop-rest.slots.items inv.solid)
    ∙ ap (λ k. drop_bytes k c.loop-rest.slots.items) (let e : 0 ≡ c.loop-rest.rest = omega (arith, none) in e)
    ∙ inv.slots
