use Rattle.std.proofs.Common.{◌++◌, List, OnOk, sym, ap, subst}
use Rattle.pl_segments.specs.declared.slice.Slice.{Slice}
use Rattle.pl_ring.specs.Pushed.{MakesAtMost}
use Rattle.pl_nodes.specs.Queue.{slots_of}
use Rattle.pl_nodes.proofs.queue.Queue.push_front_slices.Goals as goal

pub returns-clause-makes : goal.returns-clause-makes
returns-clause-makes g c =
    subst (λ (zs : List Slice). OnOk c.push_front_slices.result (MakesAtMost 3 (zs ++ c.args.slices.now) c.args.store.now c.push_front_slices.new.self.slots c.push_front_slices.new.store))
    (sym (ap slots_of c.in-Bytes.is)) c.push_front_slices.ensures.makes
