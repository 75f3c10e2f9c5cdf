use Rattle.std.proofs.Common.{◌∙◌, sym, length}
use Rattle.pl_segments.specs.Segments.{segment_at}
use Rattle.pl_segments.proofs.SlotLemmas.{reads-cut_end, lies-cut_end}
use Rattle.pl_ring.proofs.First.{first-lies, first-read}
use Rattle.pl_ring.proofs.front.copy_into.Goals as goal

pub read_into-requires-clause-lies : goal.read_into-requires-clause-lies
read_into-requires-clause-lies g c =
    lies-cut_end (segment_at c.args.store.now) c.in-Some.first.now (length c.args.into.now) c.if-into-first.true
    (first-lies (segment_at c.args.store.now) c.args.slots.now.items c.in-Some.first.now (sym c.in-Some.ensures) c.requires.lie)

pub returns-in-Some : goal.returns-in-Some
returns-in-Some g c =
    let m = segment_at c.args.store.now in
    let x = c.in-Some.first.now in
    let n = length c.args.into.now in
    c.read_into.ensures ∙ reads-cut_end m x n c.if-into-first.true ∙ first-read m c.args.slots.now.items x n (sym c.in-Some.ensures) c.requires.lie c.if-into-first.true
