use Rattle.std.proofs.Common.{◌≡◌, ◌∙◌, ap, sym, subst, length}
use Rattle.std.specs.Prelude.{nat_lt}
use Rattle.pl_file.specs.Rows.{Chunks, IsAt, index_of, lens_of, flat}
use Rattle.pl_file.proofs.Chunking.{same-lt, index-within, spot-there}
use Rattle.pl_file.proofs.chunks.Chunks.has.Goals as goal

pub returns : goal.returns
returns g c =
    let rows = c.self.inside.rows.items in
    let chunk = c.args.spot.chunk in
    let at = c.args.spot.at in
    let len : c.len.result ≡ length rows = c.len.ensures ∙ c.self.inside.rows.ok.0 in
    let spot = subst (λ (v : Chunks). IsAt v.lens chunk at) (sym c.self.view_is) c.requires in
    ap (nat_lt chunk) len
    ∙ same-lt chunk (length rows) (index_of (lens_of rows) chunk at) (length (flat rows)) (index-within rows chunk at spot) (spot-there rows chunk at spot)
    ∙ ap (λ (v : Chunks). nat_lt (index_of v.lens chunk at) (length v.slots)) c.self.view_is
