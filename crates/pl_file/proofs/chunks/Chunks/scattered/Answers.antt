use Rattle.std.proofs.Common.{◌≡◌, ◌<◌, ◌≤◌, ◌-◌, ℕ, Some, List, ap, inl, inr, subst, length, arith}
use Rattle.std.specs.Prelude.{slice_get}
use Rattle.std.proofs.lemmas.Bool.{cases_lt}
use Rattle.std.proofs.lemmas.Option.{slice_get_read}
use Rattle.pl_file.specs.Rows.{Row, Chunks, lens_of, slots_in, IsAt, index_of}
use Rattle.pl_file.proofs.Chunking.{chunk-at, slots-in, spot-next, index-less, index-plus, index-within}
use Rattle.pl_file.proofs.chunks.Chunks.scattered.Given.{Over}
use Rattle.pl_file.proofs.chunks.Chunks.scattered.Goals.{After-len-at}
use Rattle.pl_file.proofs.chunks.Chunks.scattered.Goals as goal

module _ (g : Over) (c : After-len-at g) where
  abbrev rows : List Row
  rows = c.self.inside.rows.items

  abbrev chunk : ℕ
  chunk = c.last_up_to-chunk.result

  abbrev last : ℕ
  last = c.behind_scattered-behind.result - 1

  after : chunk < c.behind_scattered-behind.result
  after = let l = c.behind_scattered-behind.ensures.from in let n = c.if-behind-chunk.false in omega (arith, l, n)

  most : c.behind_scattered-behind.result ≤ length rows
  most = let l = c.behind_scattered-behind.ensures.most in let e = ap length c.deref-2.ensures.value in omega (arith, l, e)

  within : last < length rows
  within = let l = most in let a = after in omega (arith, l, a)

  many : 16 < length (slots_in rows chunk)
  many = subst (λ (rs : List Row). 16 < length (slots_in rs chunk)) c.deref-2.ensures.value (c.behind_scattered-behind.ensures.many after)

  got : slice_get rows last ≡ Some c.index.result.now
  got =
      let ok = c.self.inside.rows.ok.0 in
      let l = within in
      slice_get_read rows c.self.inside.rows.len last c.index.result.now ok (omega (arith, l, ok)) c.index.ensures

  some : 1 ≤ length c.index.result.now.slots
  some = (chunk-at 0 rows last c.index.result.now c.self.invariant.chunks got).some

  len : length (slots_in rows last) ≡ length c.index.result.now.slots
  len = ap length (slots-in rows last c.index.result.now got)

  first : IsAt (lens_of rows) chunk 1
  first =
      let m = many in
      let w = within in
      let a = after in
      spot-next rows chunk 1 (omega (arith, w, a)) (omega (arith, m))

  end : IsAt (lens_of rows) last (c.len-at.result - 1)
  end =
      let v = c.len-at.ensures.value in
      let s = some in
      let n = len in
      spot-next rows last (c.len-at.result - 1) within (omega (arith, v, s, n))

  order : index_of (lens_of rows) chunk 1 < index_of (lens_of rows) last (c.len-at.result - 1)
  order = elim (cases_lt chunk last) as (λ _. index_of (lens_of rows) chunk 1 < index_of (lens_of rows) last (c.len-at.result - 1)) [
    | inl l ↦ index-less (lens_of rows) chunk 1 last (c.len-at.result - 1) first end l
    | inr l ↦
        (let a = after in
        let same : last ≡ chunk = omega (arith, l, a) in
        let m = many in
        let n = len in
        let s = ap (λ j. length (slots_in rows j)) same in
        let v = c.len-at.ensures.value in
        let p = index-plus (lens_of rows) chunk 1 in
        let q = index-plus (lens_of rows) chunk (c.len-at.result - 1) in
        let e = ap (λ j. index_of (lens_of rows) j (c.len-at.result - 1)) same in
        omega (arith, m, n, s, v, p, q, e))
  ]

pub overflow_sub-at : goal.overflow_sub-at
overflow_sub-at g c = let s = some g (goal.at.overflow_sub-at g c).After-len-at in let v = c.len-at.ensures.value in omega (arith, s, v)

pub returns-clause-first : goal.returns-clause-first
returns-clause-first g c = subst (λ (v : Chunks). IsAt v.lens c.last_up_to-chunk.result 1) c.self.view_is (first g (goal.at.returns-clause-first g c).After-len-at)

pub returns-clause-end : goal.returns-clause-end
returns-clause-end g c = subst (λ (v : Chunks). IsAt v.lens (c.behind_scattered-behind.result - 1) (c.len-at.result - 1)) c.self.view_is (end g (goal.at.returns-clause-end g c).After-len-at)

pub returns-clause-order : goal.returns-clause-order
returns-clause-order g c =
    subst (λ (v : Chunks). index_of v.lens c.last_up_to-chunk.result 1 < index_of v.lens (c.behind_scattered-behind.result - 1) (c.len-at.result - 1)) c.self.view_is
    (order g (goal.at.returns-clause-order g c).After-len-at)

pub returns-clause-within : goal.returns-clause-within
returns-clause-within g c =
    let k = (goal.at.returns-clause-within g c).After-len-at in
    subst (λ (v : Chunks). index_of v.lens (c.behind_scattered-behind.result - 1) (c.len-at.result - 1) < length v.slots) c.self.view_is
    (index-within c.self.inside.rows.items (c.behind_scattered-behind.result - 1) (c.len-at.result - 1) (end g k) (within g k))
