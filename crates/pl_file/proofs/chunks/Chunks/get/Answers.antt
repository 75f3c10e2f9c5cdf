use Rattle.std.proofs.Common.{◌≡◌, ◌<◌, ◌∙◌, Some, List, ap, sym, subst, length, arith}
use Rattle.std.specs.Prelude.{slice_get}
use Rattle.std.proofs.lemmas.Option.{slice_get_read}
use Rattle.pl_file.specs.Rows.{Row, Chunks, lens_of, slots_in, IsAt, index_of}
use Rattle.pl_file.proofs.Chunking.{spot-there, spot-row, slots-in, get-index}
use Rattle.pl_file.proofs.chunks.Chunks.get.Given.{Over}
use Rattle.pl_file.proofs.chunks.Chunks.get.Goals.{After-self, After-index}
use Rattle.pl_file.proofs.chunks.Chunks.get.Goals as goal

module _ (g : Over) (c : After-self g) where
  abbrev rows : List Row
  rows = c.self.inside.rows.items

  spot : IsAt (lens_of rows) c.args.spot.chunk c.args.spot.at
  spot = subst (λ (v : Chunks). IsAt v.lens c.args.spot.chunk c.args.spot.at) (sym c.self.view_is) c.requires.spot

  there : c.args.spot.chunk < length rows
  there = spot-there rows c.args.spot.chunk c.args.spot.at spot (subst (λ (v : Chunks). index_of v.lens c.args.spot.chunk c.args.spot.at < length v.slots) (sym c.self.view_is) c.requires.within)

pub index-requires : goal.index-requires
index-requires g c = let l = there g (goal.at.index-requires g c).After-self in let ok = c.self.inside.rows.ok.0 in omega (arith, l, ok)

module _ (g : Over) (c : After-index g) (l : c.args.spot.chunk < length c.self.inside.rows.items) where
  got : slice_get c.self.inside.rows.items c.args.spot.chunk ≡ Some c.index.result.now
  got = let ok = c.self.inside.rows.ok.0 in slice_get_read c.self.inside.rows.items c.self.inside.rows.len c.args.spot.chunk c.index.result.now ok (omega (arith, l, ok)) c.index.ensures

  inside : slots_in c.self.inside.rows.items c.args.spot.chunk ≡ c.index.result.now.slots
  inside = slots-in c.self.inside.rows.items c.args.spot.chunk c.index.result.now got

pub get-requires : goal.get-requires
get-requires g c =
    let k = goal.at.get-requires g c in
    let l = there g k.After-self in
    let e = ap length (inside g k.After-index l) in
    let h = spot-row (rows g k.After-self) c.args.spot.chunk c.args.spot.at (spot g k.After-self) l in
    omega (arith, e, h)

pub returns : goal.returns
returns g c =
    let k = goal.at.returns g c in
    let l = there g k.After-self in
    let rs = rows g k.After-self in
    let h = spot-row rs c.args.spot.chunk c.args.spot.at (spot g k.After-self) l in
    subst (λ (v : Chunks). slice_get v.slots (index_of v.lens c.args.spot.chunk c.args.spot.at) ≡ Some c.get.result) c.self.view_is
    (get-index rs c.args.spot.chunk c.args.spot.at h ∙ ap (λ ys. slice_get ys c.args.spot.at) (inside g k.After-index l) ∙ c.get.ensures)
