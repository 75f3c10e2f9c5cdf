use Rattle.std.proofs.Common.{◌∙◌, ap, sym, length}
use Rattle.pl_segments.specs.Segments.{Segments, bytes_in}
use Rattle.pl_segments.proofs.Storing.{held-is-there, lent-was}
use Rattle.pl_segments.proofs.store.Store.filled.Goals as goal

pub index-requires : goal.index-requires
index-requires g c = held-is-there c.self.inside.segments.slots c.args.self.now.held (ap (λ (d : Segments). d.held) c.self.view_is) c.args.slice.segment c.requires.here

pub returns-clause-value : goal.returns-clause-value
returns-clause-value g c =
    let was = lent-was c.self.inside.segments.slots c.args.self.now.held (ap (λ (d : Segments). d.held) c.self.view_is) c.args.slice.segment c.index.result.now c.index.ensures c.requires.here in
    c.len.ensures.value ∙ ap (λ o. length (bytes_in o)) (sym was)
