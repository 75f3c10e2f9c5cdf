use Rattle.std.proofs.Common.{◌∙◌, ap, sym}
use Rattle.pl_segments.specs.Segments.{Segments, holders_in}
use Rattle.pl_segments.proofs.Storing.{held-is-there, lent-was}
use Rattle.pl_segments.proofs.store.Store.holders.Goals as goal

pub index-requires : goal.index-requires
index-requires g c = held-is-there c.self.inside.segments.slots c.args.self.now.held (ap (λ (d : Segments). d.held) c.self.view_is) c.args.slice.segment c.requires.here

pub returns : goal.returns
returns g c =
    let was = lent-was c.self.inside.segments.slots c.args.self.now.held (ap (λ (d : Segments). d.held) c.self.view_is) c.args.slice.segment c.index.result.now c.index.ensures c.requires.here in
    c.holders.ensures ∙ ap holders_in (sym was)
