use Rattle.std.proofs.Common.{◌≡◌, ◌∙◌, Some, ap, sym, subst, take, arith}
use Rattle.std.specs.Prelude.{slice_get}
use Rattle.std.proofs.lemmas.List.{take_all}
use Rattle.std.proofs.lemmas.Option.{slice_get_read}
use Rattle.pl_segments.specs.Slots.{total}
use Rattle.pl_file.specs.Rows.{Chunks, flat, lens_of, IsAt, index_of}
use Rattle.pl_file.proofs.Chunking.{spot-le, index-past, row-le, row-total}
use Rattle.pl_file.proofs.chunks.Chunks.start.Given.{Over}
use Rattle.pl_file.proofs.chunks.Chunks.start.Goals.{After-index, After-len}
use Rattle.pl_file.proofs.chunks.Chunks.start.Goals as goal

module _ (g : Over) (c : After-len g) where
  spot : IsAt (lens_of c.self.inside.rows.items) c.args.spot.chunk c.args.spot.at
  spot = subst (λ (v : Chunks). IsAt v.lens c.args.spot.chunk c.args.spot.at) (sym c.self.view_is) c.requires

module _ (g : Over) (c : After-index g) where
  got : slice_get c.self.inside.rows.items c.args.spot.chunk ≡ Some c.index.result.now
  got =
      let l = c.if-spot-len.true in
      let n = c.len.ensures in
      slice_get_read c.self.inside.rows.items c.self.inside.rows.len c.args.spot.chunk c.index.result.now c.self.inside.rows.ok.0 (omega (arith, l, n)) c.index.ensures

pub start-requires : goal.start-requires
start-requires g c =
    let k = goal.at.start-requires g c in
    row-le c.self.inside.rows.items c.args.spot.chunk c.args.spot.at c.index.result.now (got g k.After-index) c.self.invariant.chunks (spot-le c.self.inside.rows.items c.args.spot.chunk c.args.spot.at (spot g k.After-len))

pub returns-then-spot-len : goal.returns-then-spot-len
returns-then-spot-len g c =
    let k = goal.at.returns-then-spot-len g c in
    subst (λ (v : Chunks). c.start.result ≡ total (take (index_of v.lens c.args.spot.chunk c.args.spot.at) v.slots)) c.self.view_is
    (c.start.ensures
    ∙ sym (row-total c.self.inside.rows.items c.args.spot.chunk c.args.spot.at c.index.result.now (got g k.After-index) c.self.invariant.chunks (spot-le c.self.inside.rows.items c.args.spot.chunk c.args.spot.at (spot g k.After-len))))

pub returns-else-spot-len : goal.returns-else-spot-len
returns-else-spot-len g c =
    let k = goal.at.returns-else-spot-len g c in
    let rs = c.self.inside.rows.items in
    let l = c.if-spot-len.false in
    let n = c.len.ensures in
    let ok = c.self.inside.rows.ok.0 in
    let past = index-past rs c.args.spot.chunk c.args.spot.at (spot g k.After-len) (omega (arith, l, n, ok)) in
    c.end.ensures
    ∙ subst (λ (v : Chunks). total v.slots ≡ total (take (index_of v.lens c.args.spot.chunk c.args.spot.at) v.slots)) c.self.view_is
    (ap total (sym (take_all (index_of (lens_of rs) c.args.spot.chunk c.args.spot.at) (flat rs) (omega (arith, past)))))
