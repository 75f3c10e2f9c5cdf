use Rattle.std.proofs.Common.{◌≡◌, ◌<◌, ◌≤◌, ◌-◌, ◌∙◌, ap, sym, subst, length, arith}
use Rattle.std.specs.Prelude.{slice_index_or}
use Rattle.std.proofs.lemmas.Option.{slice_get_read}
use Rattle.pl_file.specs.Rows.{Chunks, lens_of, slots_in, left_from, IsAt}
use Rattle.pl_file.proofs.Chunking.{spot-le, spot-some, slots-in, len-in, len-most, left-some}
use Rattle.pl_file.proofs.chunks.Chunks.left_in.Given.{Over}
use Rattle.pl_file.proofs.chunks.Chunks.left_in.Goals.{After-self, After-len}
use Rattle.pl_file.proofs.chunks.Chunks.left_in.Goals as goal

pub returns-then-spot-eq0-clause-value : goal.returns-then-spot-eq0-clause-value
returns-then-spot-eq0-clause-value g c = ap (left_from (slice_index_or c.args.self.now.lens c.args.spot.chunk 0)) (sym c.if-spot-eq0.true)

module _ (g : Over) (c : After-self g) where
  spot : IsAt (lens_of c.self.inside.rows.items) c.args.spot.chunk c.args.spot.at
  spot = subst (λ (v : Chunks). IsAt v.lens c.args.spot.chunk c.args.spot.at) (sym c.self.view_is) c.requires

  some : 1 ≤ c.args.spot.at
  some = let f = c.if-spot-eq0.false in omega (arith, f)

  there : c.args.spot.chunk < length c.self.inside.rows.items
  there = spot-some c.self.inside.rows.items c.args.spot.chunk c.args.spot.at spot some

pub index-requires : goal.index-requires
index-requires g c = let l = there g (goal.at.index-requires g c).After-self in let ok = c.self.inside.rows.ok.0 in omega (arith, l, ok)

module _ (g : Over) (c : After-len g) (l : c.args.spot.chunk < length c.self.inside.rows.items) where
  inside : length (slots_in c.self.inside.rows.items c.args.spot.chunk) ≡ c.len.result
  inside =
      let ok = c.self.inside.rows.ok.0 in
      ap length (slots-in c.self.inside.rows.items c.args.spot.chunk c.index.result.now
      (slice_get_read c.self.inside.rows.items c.self.inside.rows.len c.args.spot.chunk c.index.result.now ok (omega (arith, l, ok)) c.index.ensures))
      ∙ sym c.len.ensures.value

pub overflow_sub-result : goal.overflow_sub-result
overflow_sub-result g c =
    let k = goal.at.overflow_sub-result g c in
    let l = spot-le c.self.inside.rows.items c.args.spot.chunk c.args.spot.at (spot g k.After-self) in
    let e = inside g k.After-len (there g k.After-self) in
    omega (arith, l, e)

pub returns-clause-value : goal.returns-clause-value
returns-clause-value g c =
    let k = goal.at.returns-clause-value g c in
    let rows = c.self.inside.rows.items in
    subst (λ (v : Chunks). c.len.result - c.args.spot.at ≡ left_from (slice_index_or v.lens c.args.spot.chunk 0) c.args.spot.at) c.self.view_is
    (ap (λ n. n - c.args.spot.at) (sym (inside g k.After-len (there g k.After-self)) ∙ sym (len-in rows c.args.spot.chunk))
    ∙ sym (left-some (slice_index_or (lens_of rows) c.args.spot.chunk 0) c.args.spot.at (some g k.After-self)))

pub returns-clause-most : goal.returns-clause-most
returns-clause-most g c =
    let k = goal.at.returns-clause-most g c in
    let l = spot-le c.self.inside.rows.items c.args.spot.chunk c.args.spot.at (spot g k.After-self) in
    let e = inside g k.After-len (there g k.After-self) in
    let m = len-most 0 c.self.inside.rows.items c.args.spot.chunk c.self.invariant.chunks in
    omega (arith, l, e, m)
