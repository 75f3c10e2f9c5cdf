use Rattle.std.proofs.Common.{◌≡◌, sym, subst, IfOk}
use Rattle.pl_segments.specs.Segments.{segment_at}
use Rattle.pl_ring.proofs.First.{first-lies, first-read}
use Rattle.pl_ring.proofs.front.copy_front.Goals as goal

pub copy_slot-requires-clause-lies : goal.copy_slot-requires-clause-lies
copy_slot-requires-clause-lies g c =
    first-lies (segment_at c.args.store.now) c.args.slots.now.items c.in-Some.first.now (sym c.in-Some.ensures) c.requires

pub returns-in-Some : goal.returns-in-Some
returns-in-Some g c =
    let m = segment_at c.args.store.now in
    subst (λ zs. IfOk c.copy_slot.result (λ bytes. bytes.items ≡ zs)) (first-read m c.args.slots.now.items c.in-Some.first.now c.args.count (sym c.in-Some.ensures) c.requires c.if-count-first.true) c.copy_slot.ensures
