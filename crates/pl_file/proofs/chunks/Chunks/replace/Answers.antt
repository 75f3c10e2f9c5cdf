use Rattle.std.proofs.Common.{◌≡◌, ◌≤◌, ◌+◌, List, ap, inl, inr, length, arith}
use Rattle.std.specs.Prelude.{slice_index_or}
use Rattle.std.proofs.lemmas.Bool.{cases_lt}
use Rattle.pl_file.specs.Rows.{Row, Chunks, left_from, slots_in}
use Rattle.pl_file.proofs.Chunking.{length-lens, len-in, index-less}
use Rattle.pl_file.proofs.chunks.Chunks.replace.Given.{Over}
use Rattle.pl_file.proofs.chunks.Chunks.replace.Goals.{After-add_front}
use Rattle.pl_file.proofs.chunks.Chunks.replace.Goals as goal

-- the slots with those that stay before them have room for those that stay behind
module _ (g : Over) (c : After-add_front g) (rows : List Row) (same : rows ≡ c.self.inside.rows.items) where
  fits : length c.add_front.new.middle.slots + left_from (length (slots_in rows c.args.end.chunk)) c.args.end.at ≤ c.args.patch.capacity
  fits =
      let s = ap (λ n. left_from n c.args.end.at) (len-in c.self.inside.rows.items c.args.end.chunk) in
      let d = ap (λ (rs : List Row). left_from (length (slots_in rs c.args.end.chunk)) c.args.end.at) same in
      let v = ap (λ (v : Chunks). left_from (slice_index_or v.lens c.args.end.chunk 0) c.args.end.at) c.self.view_is in
      omega (arith, s, d, v, c.add_front.ensures.many, c.requires.memory.slots)

pub add_rest-last-requires-clause-room : goal.add_rest-last-requires-clause-room
add_rest-last-requires-clause-room g c =
    let k = (goal.at.add_rest-last-requires-clause-room g c).After-add_front in
    let f = fits g k c.deref-2.result.now c.deref-2.ensures.value in
    omega (arith, f, c.add_front.ensures.capacity)

pub put_rows-requires-clause-order : goal.put_rows-requires-clause-order
put_rows-requires-clause-order g c =
    let ns = c.args.self.now.lens in
    let first = c.args.first in
    let end = c.args.end in
    let from = c.add_rest-last.ensures.next.from in
    elim (cases_lt end.chunk first.chunk) as (λ _. first.chunk ≤ c.add_rest-last.result) [
      | inl l ↦ let h = index-less ns end.chunk end.at first.chunk first.at c.requires.fits.span.to c.requires.fits.span.from l in absurd (omega (arith, h, c.requires.fits.span.order))
      | inr l ↦ omega (arith, l, from)
    ]

pub put_rows-requires-clause-ready : goal.put_rows-requires-clause-ready
put_rows-requires-clause-ready g c =
    let k = (goal.at.put_rows-requires-clause-ready g c).After-add_front in
    let f = fits g k c.deref-2.result.now c.deref-2.ensures.value in
    let n = length-lens c.self.inside.rows.items in
    let v = ap (λ (v : Chunks). length v.lens) c.self.view_is in
    let r = ap (λ (v : Chunks). v.room) c.self.view_is in
    let ready = c.requires.memory.ready in
    record {
      empty = ready.empty;
      none = ready.none;
      whole = ready.whole;
      enough = omega (arith, f, c.add_rest-last.ensures.many, ready.enough);
      list = omega (arith, n, v, r, ready.list);
    }
