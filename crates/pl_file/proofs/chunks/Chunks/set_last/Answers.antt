use Rattle.std.proofs.Common.{◌≡◌, ◌≤◌, ◌-◌, ◌++◌, ◌∷◌, [], ◌∙◌, Some, List, ap, sym, subst, length, take, arith}
use Rattle.std.specs.Prelude.{slice_get, slice_set}
use Rattle.std.proofs.lemmas.List.{length_push}
use Rattle.std.proofs.lemmas.Option.{slice_get_read}
use Rattle.pl_segments.specs.Slots.{total}
use Rattle.pl_segments.proofs.SlotLemmas.{total-append}
use Rattle.pl_file.specs.Rows.{Row, Chunks, flat, AreChunks}
use Rattle.pl_file.proofs.Chunking.{flat-there, chunk-at}
use Rattle.pl_file.proofs.Splitting.{last-set_front, last-set_slots, last-set_chunks}
use Rattle.pl_file.proofs.chunks.Chunks.set_last.Given.{Over}
use Rattle.pl_file.proofs.chunks.Chunks.set_last.Goals.{After-index_mut-row, After-pop, After-push}
use Rattle.pl_file.proofs.chunks.Chunks.set_last.Goals as goal

module _ (g : Over) (c : After-index_mut-row g) where
  abbrev rows : List Row
  rows = c.self.inside.rows.items

  some : 1 ≤ length rows
  some = flat-there rows (subst (λ (v : Chunks). 1 ≤ length v.slots) (sym c.self.view_is) c.requires.some)

  at : c.len-last.result - 1 ≡ length rows - 1
  at = let n = c.len-last.ensures in let ok = c.self.inside.rows.ok.0 in omega (arith, n, ok)

  got : slice_get rows (length rows - 1) ≡ Some c.index_mut-row.result.now
  got =
      let s = some in
      let n = c.len-last.ensures in
      let ok = c.self.inside.rows.ok.0 in
      subst (λ k. slice_get rows k ≡ Some c.index_mut-row.result.now) at
      (slice_get_read rows c.self.inside.rows.len (c.len-last.result - 1) c.index_mut-row.result.now ok (omega (arith, s, n, ok)) c.index_mut-row.ensures.value)

pub index_mut-row-requires : goal.index_mut-row-requires
index_mut-row-requires g c =
    let s = flat-there c.self.inside.rows.items (subst (λ (v : Chunks). 1 ≤ length v.slots) (sym c.self.view_is) c.requires.some) in
    let n = c.len-last.ensures in
    let ok = c.self.inside.rows.ok.0 in
    omega (arith, s, n, ok)

pub pop-requires : goal.pop-requires
pop-requires g c =
    let k = (goal.at.pop-requires g c).After-index_mut-row in
    (chunk-at 0 (rows g k) (length (rows g k) - 1) c.index_mut-row.result.now c.self.invariant.chunks (got g k)).some

pub push-requires-clause-room : goal.push-requires-clause-room
push-requires-clause-room g c =
    let e = c.pop.ensures in
    let n = ap length e.slots in
    let m = length_push c.pop.new.self.slots c.pop.result in
    let v = c.len-slots.ensures in
    omega (arith, n, m, e.capacity, v)

pub push-requires-clause-fits : goal.push-requires-clause-fits
push-requires-clause-fits g c =
    let k = (goal.at.push-requires-clause-fits g c).After-index_mut-row in
    let rs = rows g k in
    let e = c.pop.ensures in
    let front = flat (take (length rs - 1) rs) in
    let b = (chunk-at 0 rs (length rs - 1) c.index_mut-row.result.now c.self.invariant.chunks (got g k)).base in
    let t = ap total (last-set_front rs c.index_mut-row.result.now c.index_mut-row.result.now (got g k) c.pop.new.self.slots c.pop.result e.slots) in
    let a = total-append front c.pop.new.self.slots in
    let all = ap (λ (v : Chunks). total (take (length v.slots - 1) v.slots)) c.self.view_is in
    omega (arith, b, t, a, all, e.base, c.requires.fits)

pub invariant_of-self : goal.invariant_of-self
invariant_of-self g c =
    let k = (goal.at.invariant_of-self g c).After-index_mut-row in
    let rs = rows g k in
    let n = ap length c.pop.ensures.slots in
    let m = length_push c.pop.new.self.slots c.pop.result in
    let o = ap length c.push.ensures.slots in
    let p = length_push c.pop.new.self.slots c.args.slice in
    let was = chunk-at 0 rs (length rs - 1) c.index_mut-row.result.now c.self.invariant.chunks (got g k) in
    record {
      chunks = subst (λ i. AreChunks 0 (slice_set rs i c.push.new.self)) (sym (at g k))
          (last-set_chunks rs c.index_mut-row.result.now c.push.new.self (got g k) c.self.invariant.chunks (c.push.ensures.base ∙ c.pop.ensures.base) (omega (arith, n, m, o, p, was.some)) (omega (arith, n, m, o, p, was.most)));
    }

pub returns : goal.returns
returns g c =
    let k = (goal.at.returns g c).After-index_mut-row in
    let rs = rows g k in
    ap (λ i. flat (slice_set rs i c.push.new.self)) (at g k)
    ∙ subst (λ (v : Chunks). flat (slice_set rs (length rs - 1) c.push.new.self) ≡ take (length v.slots - 1) v.slots ++ c.args.slice ∷ []) c.self.view_is
    (last-set_slots rs c.index_mut-row.result.now c.push.new.self (got g k) c.pop.new.self.slots c.pop.result c.args.slice c.pop.ensures.slots c.push.ensures.slots)
