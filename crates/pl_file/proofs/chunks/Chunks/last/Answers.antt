use Rattle.std.proofs.Common.{◌≡◌, ◌≤◌, ◌-◌, ◌++◌, ◌∷◌, [], ◌∙◌, Some, ap, sym, subst, length, take, arith}
use Rattle.std.specs.Prelude.{slice_get}
use Rattle.std.proofs.lemmas.Option.{slice_get_read}
use Rattle.pl_file.specs.Rows.{Chunks, flat}
use Rattle.pl_file.proofs.Chunking.{flat-there, chunk-at, last-of-all, last-got}
use Rattle.pl_file.proofs.chunks.Chunks.last.Given.{Over}
use Rattle.pl_file.proofs.chunks.Chunks.last.Goals.{After-index-row}
use Rattle.pl_file.proofs.chunks.Chunks.last.Goals as goal

module _ (g : Over) (c : After-index-row g) where
  some : 1 ≤ length c.self.inside.rows.items
  some = flat-there c.self.inside.rows.items (subst (λ (v : Chunks). 1 ≤ length v.slots) (sym c.self.view_is) c.requires)

  got : slice_get c.self.inside.rows.items (length c.self.inside.rows.items - 1) ≡ Some c.index-row.result.now
  got =
      let s = some in
      let rows = c.self.inside.rows in
      let len : c.len.result - 1 ≡ length rows.items - 1 = (let n = c.len.ensures in let ok = rows.ok.0 in omega (arith, n, ok)) in
      let n = c.len.ensures in
      let ok = rows.ok.0 in
      subst (λ k. slice_get rows.items k ≡ Some c.index-row.result.now) len (slice_get_read rows.items rows.len (c.len.result - 1) c.index-row.result.now ok (omega (arith, s, n, ok)) c.index-row.ensures)

  filled : 1 ≤ length c.index-row.result.now.slots
  filled = (chunk-at 0 c.self.inside.rows.items (length c.self.inside.rows.items - 1) c.index-row.result.now c.self.invariant.chunks got).some

pub index-row-requires : goal.index-row-requires
index-row-requires g c =
    let rows = c.self.inside.rows in
    let s = flat-there rows.items (subst (λ (v : Chunks). 1 ≤ length v.slots) (sym c.self.view_is) c.requires) in
    let n = c.len.ensures in
    let ok = rows.ok.0 in
    omega (arith, s, n, ok)

pub overflow_sub-len-2 : goal.overflow_sub-len-2
overflow_sub-len-2 g c = let f = filled g (goal.at.overflow_sub-len-2 g c).After-index-row in let n = c.len-2.ensures.value in omega (arith, f, n)

pub get-requires : goal.get-requires
get-requires g c = let f = filled g (goal.at.get-requires g c).After-index-row in let n = c.len-2.ensures.value in omega (arith, f, n)

pub returns-clause-shape : goal.returns-clause-shape
returns-clause-shape g c =
    let k = (goal.at.returns-clause-shape g c).After-index-row in
    let row = c.index-row.result.now in
    let here : slice_get row.slots (length row.slots - 1) ≡ Some c.get.result = ap (λ n. slice_get row.slots (n - 1)) (sym c.len-2.ensures.value) ∙ c.get.ensures in
    subst (λ (v : Chunks). v.slots ≡ take (length v.slots - 1) v.slots ++ c.get.result ∷ []) c.self.view_is (last-of-all c.self.inside.rows.items row c.get.result (got g k) here)

pub returns-clause-got : goal.returns-clause-got
returns-clause-got g c =
    let k = (goal.at.returns-clause-got g c).After-index-row in
    let row = c.index-row.result.now in
    let here : slice_get row.slots (length row.slots - 1) ≡ Some c.get.result = ap (λ n. slice_get row.slots (n - 1)) (sym c.len-2.ensures.value) ∙ c.get.ensures in
    subst (λ (v : Chunks). slice_get v.slots (length v.slots - 1) ≡ Some c.get.result) c.self.view_is
    (last-got (flat c.self.inside.rows.items) (take (length (flat c.self.inside.rows.items) - 1) (flat c.self.inside.rows.items)) c.get.result (last-of-all c.self.inside.rows.items row c.get.result (got g k) here))
