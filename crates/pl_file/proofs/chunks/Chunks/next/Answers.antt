use Rattle.std.proofs.Common.{◌≡◌, ◌<◌, ◌+◌, suc, ◌∙◌, List, ap, sym, subst, length, arith}
use Rattle.std.proofs.lemmas.Option.{slice_get_read}
use Rattle.pl_file.specs.Rows.{Row, Chunks, lens_of, slots_in, IsAt, index_of}
use Rattle.pl_file.proofs.Chunking.{spot-there, spot-row, spot-next, spot-over, slots-in, index-more, next-over, len-most}
use Rattle.pl_file.proofs.chunks.Chunks.next.Given.{Over}
use Rattle.pl_file.proofs.chunks.Chunks.next.Goals.{After-self, After-index-row}
use Rattle.pl_file.proofs.chunks.Chunks.next.Goals as goal

module _ (g : Over) (c : After-self g) where
  abbrev rows : List Row
  rows = c.self.inside.rows.items

  spot : IsAt (lens_of rows) c.args.spot.chunk c.args.spot.at
  spot = subst (λ (v : Chunks). IsAt v.lens c.args.spot.chunk c.args.spot.at) (sym c.self.view_is) c.requires.spot

  there : c.args.spot.chunk < length rows
  there = spot-there rows c.args.spot.chunk c.args.spot.at spot (subst (λ (v : Chunks). index_of v.lens c.args.spot.chunk c.args.spot.at < length v.slots) (sym c.self.view_is) c.requires.within)

  within : c.args.spot.at < length (slots_in rows c.args.spot.chunk)
  within = spot-row rows c.args.spot.chunk c.args.spot.at spot there

pub index-row-requires : goal.index-row-requires
index-row-requires g c = let l = there g (goal.at.index-row-requires g c).After-self in let ok = c.self.inside.rows.ok.0 in omega (arith, l, ok)

module _ (g : Over) (c : After-index-row g) (l : c.args.spot.chunk < length c.self.inside.rows.items) where
  inside : slots_in c.self.inside.rows.items c.args.spot.chunk ≡ c.index-row.result.now.slots
  inside =
      let ok = c.self.inside.rows.ok.0 in
      slots-in c.self.inside.rows.items c.args.spot.chunk c.index-row.result.now
      (slice_get_read c.self.inside.rows.items c.self.inside.rows.len c.args.spot.chunk c.index-row.result.now ok (omega (arith, l, ok)) c.index-row.ensures)

pub overflow_add-spot : goal.overflow_add-spot
overflow_add-spot g c =
    let k = (goal.at.overflow_add-spot g c).After-self in
    let l = within g k in
    let m = len-most 0 (rows g k) c.args.spot.chunk c.self.invariant.chunks in
    omega (arith, l, m)

pub overflow_add-result-else-spot-len : goal.overflow_add-result-else-spot-len
overflow_add-result-else-spot-len g c =
    let k = goal.at.overflow_add-result-else-spot-len g c in
    let l = there g k.After-self in
    let small = c.self.inside.rows.small in
    let ok = c.self.inside.rows.ok in
    omega (arith, l, small, ok)

pub returns-then-spot-len-clause-spot : goal.returns-then-spot-len-clause-spot
returns-then-spot-len-clause-spot g c =
    let k = goal.at.returns-then-spot-len-clause-spot g c in
    let l = there g k.After-self in
    let e = ap length (inside g k.After-index-row l) in
    let t = c.if-spot-len.true in
    let n = c.len.ensures.value in
    subst (λ (v : Chunks). IsAt v.lens c.args.spot.chunk (c.args.spot.at + 1)) c.self.view_is
    (spot-next (rows g k.After-self) c.args.spot.chunk (c.args.spot.at + 1) l (omega (arith, e, t, n)))

pub returns-then-spot-len-clause-index : goal.returns-then-spot-len-clause-index
returns-then-spot-len-clause-index g c = index-more c.args.self.now.lens c.args.spot.chunk c.args.spot.at

pub returns-else-spot-len-clause-spot : goal.returns-else-spot-len-clause-spot
returns-else-spot-len-clause-spot g c =
    let k = goal.at.returns-else-spot-len-clause-spot g c in
    let next : suc c.args.spot.chunk ≡ c.args.spot.chunk + 1 = omega arith in
    subst (λ (v : Chunks). IsAt v.lens (c.args.spot.chunk + 1) 0) c.self.view_is
    (subst (λ n. IsAt (lens_of c.self.inside.rows.items) n 0) next (spot-over 0 (rows g k.After-self) c.args.spot.chunk c.self.invariant.chunks (there g k.After-self)))

pub returns-else-spot-len-clause-index : goal.returns-else-spot-len-clause-index
returns-else-spot-len-clause-index g c =
    let k = goal.at.returns-else-spot-len-clause-index g c in
    let l = there g k.After-self in
    let e = ap length (inside g k.After-index-row l) in
    let t = c.if-spot-len.false in
    let n = c.len.ensures.value in
    let next : c.args.spot.chunk + 1 ≡ suc c.args.spot.chunk = omega arith in
    subst (λ (v : Chunks). index_of v.lens (c.args.spot.chunk + 1) 0 ≡ index_of v.lens c.args.spot.chunk c.args.spot.at + 1) c.self.view_is
    (ap (λ j. index_of (lens_of c.self.inside.rows.items) j 0) next ∙ next-over (rows g k.After-self) c.args.spot.chunk c.args.spot.at l (within g k.After-self) (omega (arith, e, t, n)))
