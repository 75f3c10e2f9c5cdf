use Rattle.std.proofs.Common.{◌≡◌, ◌∙◌, ◌+◌, [], ◌∷◌, ◌++◌, ap, sym, subst, length, count_by, arith}
use Rattle.std.proofs.lemmas.List.{length_push}
use Rattle.pl_segments.specs.Segments.{segment_at}
use Rattle.pl_segments.specs.Slices.{all_read, one_if, is_part}
use Rattle.pl_segments.specs.Turns.{Turns}
use Rattle.pl_segments.specs.Slots.{AllSolid, last_len, ends_in_part}
use Rattle.pl_ring.specs.Merging.{joins, joining, merges_onto}
use Rattle.pl_ring.specs.Pushed.{AreOfRing}
use Rattle.pl_segments.proofs.Turning.{turns-same}
use Rattle.pl_segments.proofs.SlotLemmas.{solid-append, total-append}
use Rattle.pl_segments.proofs.LastSlot.{part-last, part-most}
use Rattle.pl_ring.proofs.Merging.{joins-fit}
use Rattle.pl_segments.proofs.Together.{is-last, one-solid, both-held, one-turns, one-read, all-together}
use Rattle.pl_ring.proofs.Placing.{places-enough, push-merged, alone-plan, one-merged, one-plan}
use Rattle.pl_ring.proofs.Counting.{count-joined}
use Rattle.pl_ring.proofs.places.push_slot.Given.{Over}
use Rattle.pl_ring.proofs.places.push_slot.Goals.{After-joins}
use Rattle.pl_ring.proofs.places.push_slot.Goals as goal

-- what was asked, and that no slot is empty
module _ (g : Over) (c : After-joins g) where
  asked : c.joins.result ≡ joins (length c.args.slots.now.items) (last_len c.args.slots.now.items) c.args.slot.len
  asked = c.joins.ensures ∙ (λ i. joins (c.len.ensures.len i) (c.last_len.ensures i) c.args.slot.len)

  all-solid : AllSolid (c.args.slots.now.items ++ c.args.slot ∷ [])
  all-solid = solid-append c.args.slots.now.items (c.args.slot ∷ []) c.requires.ring.slots.solid (c.requires.some, tt)

pub join_reserved-joined-requires-clause-held : goal.join_reserved-joined-requires-clause-held
join_reserved-joined-requires-clause-held g c =
    let m = segment_at c.args.store.now in
    both-held m m c.args.slots.now.items c.take_last-last.new.slots.items c.take_last-last.result c.take_last-last.result c.args.slot c.take_last-last.ensures.items c.requires.held

pub join_reserved-joined-requires-clause-some : goal.join_reserved-joined-requires-clause-some
join_reserved-joined-requires-clause-some g c = c.requires.some

pub join_reserved-joined-requires-clause-most : goal.join_reserved-joined-requires-clause-most
join_reserved-joined-requires-clause-most g c =
    let m = segment_at c.args.store.now in
    let xs = c.args.slots.now.items in
    let fit = joins-fit (length xs) (last_len xs) c.args.slot.len (sym (asked g (goal.at.join_reserved-joined-requires-clause-most g c).After-joins) ∙ c.if-joins.true) in
    let last = is-last m m xs c.take_last-last.new.slots.items c.take_last-last.result c.take_last-last.result c.args.slot c.take_last-last.ensures.items in
    omega (arith, fit, last)

pub returns-then-joins-clause-took : goal.returns-then-joins-clause-took
returns-then-joins-clause-took g c =
    let k = (goal.at.returns-then-joins-clause-took g c).After-joins in
    let m = segment_at c.args.store.now in
    let n = segment_at c.join_reserved-joined.new.self in
    let xs = c.args.slots.now.items in
    let front = c.take_last-last.new.slots.items in
    let x = c.take_last-last.result in
    let y = c.join_reserved-joined.result in
    let s = c.args.slot in
    let last = c.take_last-last.ensures.items in
    let joined = c.join_reserved-joined.ensures in
    let items : c.put_last.new.slots.items ≡ front ++ y ∷ [] = (λ i. (c.put_last.ensures i).items) in
    record {
      turns = subst (Turns m (xs ++ s ∷ []) n) (sym items) (one-turns m n xs front x y s last c.requires.held joined.turns);
      read = ap (all_read n) items ∙ one-read m n xs front x y s last c.requires.held joined.turns joined.reads;
      slots = subst AreOfRing (sym items) (
          record {
            solid = one-solid m m xs front x y s last (all-solid g k) joined.len;
            merged = one-merged m m xs front x y s last (sym (asked g k) ∙ c.if-joins.true) joined.len c.requires.ring.slots.merged;
          }
          );
      capacity = (λ i. (c.put_last.ensures i).capacity) ∙ c.take_last-last.ensures.capacity;
    }

pub returns-then-joins-clause-one : goal.returns-then-joins-clause-one
returns-then-joins-clause-one g c =
    let m = segment_at c.args.store.now in
    let xs = c.args.slots.now.items in
    let front = c.take_last-last.new.slots.items in
    let x = c.take_last-last.result in
    let y = c.join_reserved-joined.result in
    let s = c.args.slot in
    let last = c.take_last-last.ensures.items in
    let fit = sym (asked g (goal.at.returns-then-joins-clause-one g c).After-joins) ∙ c.if-joins.true in
    let one : joining xs s ≡ 1 = ap one_if fit in
    let items : c.put_last.new.slots.items ≡ front ++ y ∷ [] = (λ i. (c.put_last.ensures i).items) in
    record {
      plan = λ rest. ap (λ zs. merges_onto zs rest + joining xs s) items ∙ one-plan m m xs front x y s last fit c.join_reserved-joined.ensures.len rest;
      count =
          let was = ap length last ∙ length_push front x in
          let now = ap length items ∙ length_push front y in
          omega (arith, one, was, now);
      parts = λ test.
          let is = ap (count_by test) items in
          let all = ap (count_by test) (all-together m m xs front x y s last) in
          let j = count-joined test front x s y in
          omega (arith, one, is, all, j);
    }

pub put_last-requires-2 : goal.put_last-requires-2
put_last-requires-2 g c =
    let k = (goal.at.put_last-requires-2 g c).After-joins in
    let xs = c.args.slots.now.items in
    let s = c.args.slot in
    let ring = c.requires.ring in
    let apart = sym (asked g k) ∙ c.if-joins.false in
    let t = total-append xs (s ∷ []) in
    let room = places-enough (xs ++ s ∷ []) c.args.slots.now.capacity (push-merged xs s ring.slots.merged apart) (all-solid g k) ring.even (omega (arith, t, ring.fits)) in
    let l = length_push xs s in
    omega (arith, room, l)

pub returns-clause-took : goal.returns-clause-took
returns-clause-took g c =
    let k = (goal.at.returns-clause-took g c).After-joins in
    let m = segment_at c.args.store.now in
    let xs = c.args.slots.now.items in
    let s = c.args.slot in
    let items : c.put_last-2.new.slots.items ≡ xs ++ s ∷ [] = (λ i. (c.put_last-2.ensures i).items) in
    record {
      turns = subst (Turns m (xs ++ s ∷ []) m) (sym items) (turns-same m (xs ++ s ∷ []) c.requires.held.lie);
      read = ap (all_read m) items;
      slots = subst AreOfRing (sym items) (
          record {
            solid = all-solid g k;
            merged = push-merged xs s c.requires.ring.slots.merged (sym (asked g k) ∙ c.if-joins.false);
          }
          );
      capacity = (λ i. (c.put_last-2.ensures i).capacity);
    }

pub returns-clause-one : goal.returns-clause-one
returns-clause-one g c =
    let xs = c.args.slots.now.items in
    let s = c.args.slot in
    let apart = sym (asked g (goal.at.returns-clause-one g c).After-joins) ∙ c.if-joins.false in
    let none : joining xs s ≡ 0 = ap one_if apart in
    let items : c.put_last-2.new.slots.items ≡ xs ++ s ∷ [] = (λ i. (c.put_last-2.ensures i).items) in
    record {
      plan = λ rest. ap (λ zs. merges_onto zs rest + joining xs s) items ∙ alone-plan xs s apart rest;
      count = let now = ap length items ∙ length_push xs s in omega (arith, none, now);
      parts = λ test. let is = ap (count_by test) items in omega (arith, is);
    }

pub returns-then-joins-clause-once : goal.returns-then-joins-clause-once
returns-then-joins-clause-once g c =
    let m = segment_at c.args.store.now in
    let n = segment_at c.join_reserved-joined.new.self in
    let xs = c.args.slots.now.items in
    let front = c.take_last-last.new.slots.items in
    let fit = sym (asked g (goal.at.returns-then-joins-clause-once g c).After-joins) ∙ c.if-joins.true in
    let one : joining xs c.args.slot ≡ 1 = ap one_if fit in
    let was : ends_in_part m xs ≡ is_part m c.take_last-last.result = ap (ends_in_part m) c.take_last-last.ensures.items ∙ part-last m front c.take_last-last.result in
    let now : ends_in_part n c.put_last.new.slots.items ≡ is_part n c.join_reserved-joined.result =
    ap (ends_in_part n) (λ i. (c.put_last.ensures i).items) ∙ part-last n front c.join_reserved-joined.result in
    omega (arith, one, was, now, c.join_reserved-joined.ensures.once)

pub returns-clause-once : goal.returns-clause-once
returns-clause-once g c =
    let apart = sym (asked g (goal.at.returns-clause-once g c).After-joins) ∙ c.if-joins.false in
    let none : joining c.args.slots.now.items c.args.slot ≡ 0 = ap one_if apart in
    let most = part-most (segment_at c.args.store.now) c.put_last-2.new.slots.items in
    omega (arith, none, most)
