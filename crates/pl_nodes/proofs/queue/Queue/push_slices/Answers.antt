use Rattle.std.proofs.Common.{◌++◌, List, OnOk, sym, ap, subst}
use Rattle.pl_segments.specs.declared.slice.Slice.{Slice}
use Rattle.pl_ring.specs.Merging.{IsFront}
use Rattle.pl_ring.specs.Pushed.{MakesAtMost}
use Rattle.pl_nodes.specs.Queue.{slots_of}
use Rattle.pl_nodes.proofs.queue.Queue.push_slices.Goals as goal

pub returns-clause-front : goal.returns-clause-front
returns-clause-front g c =
    subst (λ (zs : List Slice). OnOk c.push_slices.result (IsFront c.args.slices.now → MakesAtMost 3 (zs ++ c.args.slices.now) c.args.store.now c.push_slices.new.self.slots c.push_slices.new.store))
    (sym (ap slots_of c.in-Bytes.is)) c.push_slices.ensures.front
