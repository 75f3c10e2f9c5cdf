use Rattle.std.proofs.Common.{◌≡◌, ℕ, ◌<◌, ◌≤◌, ◌+◌, ◌-◌, Some, List, subst, length, take, arith}
use Rattle.std.specs.Prelude.{slice_get}
use Rattle.std.proofs.lemmas.Option.{slice_get_read}
use Rattle.pl_segments.specs.Slots.{total}
use Rattle.pl_file.specs.Rows.{Row, Chunks, flat, IsAt, index_of}
use Rattle.pl_file.proofs.Chunking.{found-some, found-at, found-within, found-before, found-after}
use Rattle.pl_file.proofs.chunks.Chunks.find.Given.{Over}
use Rattle.pl_file.proofs.chunks.Chunks.find.Goals.{After-starting_up_to-at}
use Rattle.pl_file.proofs.chunks.Chunks.find.Goals as goal

module _ (g : Over) (c : After-starting_up_to-at g) where
  abbrev rows : List Row
  rows = c.self.inside.rows.items

  abbrev chunk : ℕ
  chunk = c.last_up_to-chunk.result

  got : slice_get rows chunk ≡ Some c.index.result.now
  got =
      let l = c.last_up_to-chunk.ensures.within in
      let len = c.deref.ensures.len in
      slice_get_read rows c.self.inside.rows.len chunk c.index.result.now c.self.inside.rows.ok.0 (omega (arith, l, len)) c.index.ensures

  before : total (flat (take chunk rows)) ≤ c.args.place
  before = subst (λ (rs : List Row). total (flat (take chunk rs)) ≤ c.args.place) c.deref.ensures.value c.last_up_to-chunk.ensures.before

  after : chunk + 1 < length rows → c.args.place < total (flat (take (chunk + 1) rows))
  after = subst (λ (rs : List Row). chunk + 1 < length rs → c.args.place < total (flat (take (chunk + 1) rs))) c.deref.ensures.value c.last_up_to-chunk.ensures.after

pub overflow_sub-at : goal.overflow_sub-at
overflow_sub-at g c =
    let k = (goal.at.overflow_sub-at g c).After-starting_up_to-at in
    let e = c.starting_up_to-at.ensures in
    found-some (rows g k) (chunk g k) c.starting_up_to-at.result c.args.place c.index.result.now (got g k) c.self.invariant.chunks (before g k) (after g k) e.most e.before e.after

pub returns-clause-spot : goal.returns-clause-spot
returns-clause-spot g c =
    let k = (goal.at.returns-clause-spot g c).After-starting_up_to-at in
    let e = c.starting_up_to-at.ensures in
    subst (λ (v : Chunks). IsAt v.lens c.last_up_to-chunk.result (c.starting_up_to-at.result - 1)) c.self.view_is
    (found-at (rows g k) (chunk g k) c.starting_up_to-at.result c.args.place c.index.result.now (got g k) c.self.invariant.chunks (before g k) (after g k) e.most e.before e.after)

pub returns-clause-within : goal.returns-clause-within
returns-clause-within g c =
    let k = (goal.at.returns-clause-within g c).After-starting_up_to-at in
    let e = c.starting_up_to-at.ensures in
    subst (λ (v : Chunks). index_of v.lens c.last_up_to-chunk.result (c.starting_up_to-at.result - 1) < length v.slots) c.self.view_is
    (found-within (rows g k) (chunk g k) c.starting_up_to-at.result c.args.place c.index.result.now (got g k) c.self.invariant.chunks (before g k) (after g k) e.most e.before e.after)

pub returns-clause-before : goal.returns-clause-before
returns-clause-before g c =
    let k = (goal.at.returns-clause-before g c).After-starting_up_to-at in
    let e = c.starting_up_to-at.ensures in
    subst (λ (v : Chunks). total (take (index_of v.lens c.last_up_to-chunk.result (c.starting_up_to-at.result - 1)) v.slots) ≤ c.args.place) c.self.view_is
    (found-before (rows g k) (chunk g k) c.starting_up_to-at.result c.args.place c.index.result.now (got g k) c.self.invariant.chunks (before g k) (after g k) e.most e.before e.after)

pub returns-clause-after : goal.returns-clause-after
returns-clause-after g c =
    let k = (goal.at.returns-clause-after g c).After-starting_up_to-at in
    let e = c.starting_up_to-at.ensures in
    let n = c.starting_up_to-at.result - 1 in
    subst (λ (v : Chunks). index_of v.lens c.last_up_to-chunk.result n + 1 < length v.slots → c.args.place < total (take (index_of v.lens c.last_up_to-chunk.result n + 1) v.slots)) c.self.view_is
    (found-after (rows g k) (chunk g k) c.starting_up_to-at.result c.args.place c.index.result.now (got g k) c.self.invariant.chunks (before g k) (after g k) e.most e.before e.after)
