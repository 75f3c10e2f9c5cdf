use Rattle.std.proofs.Common.{◌≡◌, ◌≤◌, ◌++◌, ◌∷◌, [], ◌∙◌, Option, ap, subst, length, take, arith}
use Rattle.std.specs.Option.{option_to_list}
use Rattle.std.proofs.lemmas.List.{length_push, length-drop}
use Rattle.std.proofs.lemmas.List.{take_all}
use Rattle.pl_file.specs.Rows.{Row, AreEmpty}
use Rattle.std.specs.Prelude.{vec_len}
use Rattle.pl_file.proofs.Chunking.{zero-len}
use Rattle.pl_file.proofs.Splitting.{empty-left, empty-right, adding-first, adding-next, adding-last}
use Rattle.pl_file.proofs.pieces.push_chunks.Given.{Over}
use Rattle.pl_file.proofs.pieces.push_chunks.Goals.{After-unwrap-front}
use Rattle.pl_file.proofs.pieces.push_chunks.Goals as goal

module _ (g : Over) (c : After-unwrap-front g) where
  shape : c.loop-most.pieces.items ≡ c.pop.new.self.items ++ c.unwrap-front.result ∷ []
  shape = c.pop.ensures.items ∙ ap (λ (o : Option Row). c.pop.new.self.items ++ option_to_list o) c.unwrap-front.ensures

  all : AreEmpty (c.pop.new.self.items ++ c.unwrap-front.result ∷ [])
  all = subst AreEmpty shape c.loop-most.invariant.empty

  one : (c.unwrap-front.result.slots ≡ []) × (128 ≤ c.unwrap-front.result.capacity)
  one = let e = empty-right c.pop.new.self.items (c.unwrap-front.result ∷ []) all in (e.0, e.1)

pub loop-most-init : goal.loop-most-init
loop-most-init g c = record {
  adding = adding-first c.args.rows.now.items c.args.row;
  some = c.requires.some;
  empty = c.requires.ready.empty;
  least = c.requires.least;
  most = c.requires.most;
  enough = let e = c.requires.ready.enough in let l = c.requires.least in omega (arith, e, l);
  room = c.requires.ready.list;
}

pub take_front-requires-clause-none : goal.take_front-requires-clause-none
take_front-requires-clause-none g c = (one g (goal.at.take_front-requires-clause-none g c).After-unwrap-front).0

pub take_front-requires-clause-room : goal.take_front-requires-clause-room
take_front-requires-clause-room g c =
    let r = (one g (goal.at.take_front-requires-clause-room g c).After-unwrap-front).1 in
    let m = c.min-count.ensures in
    omega (arith, r, m)

pub loop-most-smaller : goal.loop-most-smaller
loop-most-smaller g c =
    let l = ap length c.take_front.ensures.rest in
    let d = length-drop c.min-count.result c.loop-most.row.slots in
    let test = c.loop-most-test.true in
    let v = c.len.ensures.value in
    let w = c.len-len.ensures.value in
    let m = c.min-count.ensures in
    omega (arith, l, d, test, v, w, m, c.loop-most.invariant.some)

pub loop-most-preserved : goal.loop-most-preserved
loop-most-preserved g c =
    let k = (goal.at.loop-most-preserved g c).After-unwrap-front in
    let inv = c.loop-most.invariant in
    let e = c.take_front.ensures in
    let row = c.loop-most.row in
    let ps = c.pop.new.self.items in
    let l = ap length e.rest in
    let count = c.min-count.result in
    let d = length-drop count row.slots in
    let test = c.loop-most-test.true in
    let v = c.len.ensures.value in
    let w = c.len-len.ensures.value in
    let u = c.min-count.ensures in
    let least = inv.least in
    let s = ap length (shape g k) in
    let n = length_push ps c.unwrap-front.result in
    let a = ap length c.push_reserved-in-loop-most.ensures.items in
    let m = length_push c.loop-most.rows.items c.take_front.new.self in
    record {
      adding = adding-next inv.adding c.push_reserved-in-loop-most.new.self.items c.take_front.new.self c.take_front.new.row count c.push_reserved-in-loop-most.ensures.items e.slots e.base e.rest e.rest_base (omega (arith, test, v, w, u, least)) (omega (arith, u)) (omega (arith, v, w, u));
      some = omega (arith, l, d, test, v, w, u, least);
      empty = empty-left ps (c.unwrap-front.result ∷ []) (all g k);
      least = omega arith;
      most = omega arith;
      enough = let f = inv.enough in let p = inv.most in omega (arith, l, d, s, n, f, v, w, u, test, least, p);
      room = let r = inv.room in let cap = c.push_reserved-in-loop-most.ensures.capacity in omega (arith, s, n, a, m, r, cap);
    }

pub returns-then-is_empty : goal.returns-then-is_empty
returns-then-is_empty g c =
    let z = zero-len (vec_len c.args.pieces.rows) c.if-is_empty.ensures in
    let ok = c.args.pieces.rows.ok.0 in
    adding-last (adding-first c.args.rows.now.items c.args.row) c.push_reserved.new.self.items c.shrink.new.self c.push_reserved.ensures.items c.shrink.ensures.slots c.shrink.ensures.base c.requires.some
    (let e = c.requires.ready.enough in omega (arith, z, ok, e))

pub returns : goal.returns
returns g c =
    let inv = c.loop-most.invariant in
    let row = c.loop-most.row in
    let e = c.take_front-2.ensures in
    let v = c.len-left.ensures.value in
    let w = c.len.ensures.value in
    let test = c.loop-most-test.false in
    let all : take c.len-left.result row.slots ≡ row.slots = take_all c.len-left.result row.slots (omega (arith, v)) in
    adding-last inv.adding c.push_reserved-2.new.self.items c.shrink-2.new.self c.push_reserved-2.ensures.items (c.shrink-2.ensures.slots ∙ e.slots ∙ all) (c.shrink-2.ensures.base ∙ e.base) inv.some
    (let m = inv.most in omega (arith, w, test, m))
