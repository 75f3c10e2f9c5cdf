use Rattle.std.proofs.Common.{◌≡◌, ◌≤◌, ◌-◌, ◌++◌, ◌∷◌, [], ◌∙◌, Some, List, refl, ap, sym, subst, length, arith}
use Rattle.std.specs.Prelude.{slice_get, slice_set}
use Rattle.std.proofs.lemmas.List.{append-nil, length-append, length_push}
use Rattle.std.proofs.lemmas.Option.{slice_get_read}
use Rattle.pl_segments.specs.declared.slice.Slice.{Slice}
use Rattle.pl_segments.specs.Slots.{total}
use Rattle.pl_file.specs.Rows.{Row, Chunks, flat, AreChunks}
use Rattle.pl_file.proofs.Chunking.{flat-there, chunk-at, last-end}
use Rattle.pl_file.proofs.Refused.{on_err}
use Rattle.pl_file.proofs.Splitting.{last-set_more, last-set_chunks}
use Rattle.pl_file.proofs.chunks.Chunks.append.Given.{Over}
use Rattle.pl_file.proofs.chunks.Chunks.append.Goals.{After-index_mut-row}
use Rattle.pl_file.proofs.chunks.Chunks.append.Goals as goal

-- the last row
module _ (g : Over) (c : After-index_mut-row g) where
  abbrev rows : List Row
  rows = c.self.inside.rows.items

  at : c.len-last.result - 1 ≡ length rows - 1
  at = let n = c.len-last.ensures in let ok = c.self.inside.rows.ok.0 in omega (arith, n, ok)

  got : slice_get rows (length rows - 1) ≡ Some c.index_mut-row.result.now
  got =
      let s = flat-there rows (subst (λ (v : Chunks). 1 ≤ length v.slots) (sym c.self.view_is) c.requires.some) in
      let n = c.len-last.ensures in
      let ok = c.self.inside.rows.ok.0 in
      subst (λ k. slice_get rows k ≡ Some c.index_mut-row.result.now) at
      (slice_get_read rows c.self.inside.rows.len (c.len-last.result - 1) c.index_mut-row.result.now ok (omega (arith, s, n, ok)) c.index_mut-row.ensures.value)

  -- with more slots, of which there are few, in its place
  module _ (t : Row) (more : List Slice) (slots : t.slots ≡ c.index_mut-row.result.now.slots ++ more) (base : t.base ≡ c.index_mut-row.result.now.base) where
    chunks : length t.slots ≤ 256 → AreChunks 0 (slice_set rows (c.len-last.result - 1) t)
    chunks few =
        let was = chunk-at 0 rows (length rows - 1) c.index_mut-row.result.now c.self.invariant.chunks got in
        let n = ap length slots in
        let m = length-append c.index_mut-row.result.now.slots more in
        subst (λ i. AreChunks 0 (slice_set rows i t)) (sym at)
        (last-set_chunks rows c.index_mut-row.result.now t got c.self.invariant.chunks base (omega (arith, n, m, was.some)) few)

    all : flat (slice_set rows (c.len-last.result - 1) t) ≡ c.args.self.now.slots ++ more
    all =
        ap (λ i. flat (slice_set rows i t)) at
        ∙ last-set_more rows c.index_mut-row.result.now t got more slots
        ∙ ap (λ (v : Chunks). v.slots ++ more) c.self.view_is

-- once the row has room its slots are as they were
module _ (g : Over) (k : After-index_mut-row g) (t : Row) (slots : t.slots ≡ k.index_mut-row.result.now.slots) (base : t.base ≡ k.index_mut-row.result.now.base) where
  same_chunks : AreChunks 0 (slice_set (rows g k) (k.len-last.result - 1) t)
  same_chunks =
      let was = chunk-at 0 (rows g k) (length (rows g k) - 1) k.index_mut-row.result.now k.self.invariant.chunks (got g k) in
      let n = ap length slots in
      chunks g k t [] (slots ∙ sym (append-nil k.index_mut-row.result.now.slots)) base (omega (arith, n, was.most))

  same_slots : flat (slice_set (rows g k) (k.len-last.result - 1) t) ≡ k.args.self.now.slots
  same_slots = all g k t [] (slots ∙ sym (append-nil k.index_mut-row.result.now.slots)) base ∙ append-nil k.args.self.now.slots

pub index_mut-row-requires : goal.index_mut-row-requires
index_mut-row-requires g c =
    let s = flat-there c.self.inside.rows.items (subst (λ (v : Chunks). 1 ≤ length v.slots) (sym c.self.view_is) c.requires.some) in
    let n = c.len-last.ensures in
    let ok = c.self.inside.rows.ok.0 in
    omega (arith, s, n, ok)

pub invariant_of-self-in_err-reserve : goal.invariant_of-self-in_err-reserve
invariant_of-self-in_err-reserve g c =
    let k = (goal.at.invariant_of-self-in_err-reserve g c).After-index_mut-row in
    record { chunks = same_chunks g k c.reserve.new.self c.reserve.ensures.slots c.reserve.ensures.base }

pub returns-in_err-reserve-clause-unchanged : goal.returns-in_err-reserve-clause-unchanged
returns-in_err-reserve-clause-unchanged g c =
    let k = (goal.at.returns-in_err-reserve-clause-unchanged g c).After-index_mut-row in
    let same = same_slots g k c.reserve.new.self c.reserve.ensures.slots c.reserve.ensures.base in
    on_err c.from_residual.result _ (same, refl)

pub invariant_of-self-in_err-reserve-2 : goal.invariant_of-self-in_err-reserve-2
invariant_of-self-in_err-reserve-2 g c =
    let k = (goal.at.invariant_of-self-in_err-reserve-2 g c).After-index_mut-row in
    record { chunks = same_chunks g k c.reserve.new.self c.reserve.ensures.slots c.reserve.ensures.base }

pub returns-in_err-reserve-2-clause-unchanged : goal.returns-in_err-reserve-2-clause-unchanged
returns-in_err-reserve-2-clause-unchanged g c =
    let k = (goal.at.returns-in_err-reserve-2-clause-unchanged g c).After-index_mut-row in
    let same = same_slots g k c.reserve.new.self c.reserve.ensures.slots c.reserve.ensures.base in
    on_err c.from_residual-in_err-reserve-2.result _ (same, c.in_err-reserve-2.ensures.unchanged)

pub push-requires-clause-fits : goal.push-requires-clause-fits
push-requires-clause-fits g c =
    let k = (goal.at.push-requires-clause-fits g c).After-index_mut-row in
    let e = last-end (rows g k) c.index_mut-row.result.now c.self.invariant.chunks (got g k) in
    let s = ap total c.reserve.ensures.slots in
    let b = c.reserve.ensures.base in
    let l = ap (λ (x : Slice). x.len) c.make_reserved-slice.ensures.slice in
    let all = ap (λ (v : Chunks). total v.slots) c.self.view_is in
    omega (arith, e, s, b, l, all, c.requires.fits)

pub invariant_of-self-2 : goal.invariant_of-self-2
invariant_of-self-2 g c =
    let k = (goal.at.invariant_of-self-2 g c).After-index_mut-row in
    let was = chunk-at 0 (rows g k) (length (rows g k) - 1) c.index_mut-row.result.now c.self.invariant.chunks (got g k) in
    let slots = c.push.ensures.slots ∙ ap (λ xs. xs ++ c.make_reserved-slice.result ∷ []) c.reserve.ensures.slots in
    let n = ap length slots in
    let m = length_push c.index_mut-row.result.now.slots c.make_reserved-slice.result in
    let v = c.len.ensures.value in
    let less = c.if-len-eq-MOST_IN_CHUNK.false in
    record {
      chunks = chunks g k c.push.new.self (c.make_reserved-slice.result ∷ []) slots (c.push.ensures.base ∙ c.reserve.ensures.base) (omega (arith, n, m, v, less, was.most));
    }

pub returns-clause-slots : goal.returns-clause-slots
returns-clause-slots g c =
    let k = (goal.at.returns-clause-slots g c).After-index_mut-row in
    all g k c.push.new.self (c.make_reserved-slice.result ∷ []) (c.push.ensures.slots ∙ ap (λ xs. xs ++ c.make_reserved-slice.result ∷ []) c.reserve.ensures.slots) (c.push.ensures.base ∙ c.reserve.ensures.base)
