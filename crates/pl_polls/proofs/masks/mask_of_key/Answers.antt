use Rattle.std.proofs.Common.{Some, IsSome, sym, ap, subst, ◌∙◌}
use Rattle.pl_desc.specs.Rows.{at}
use Rattle.pl_state.specs.Contents.{Contents}
use Rattle.pl_state.specs.KernelView.{view_of}
use Rattle.pl_polls.proofs.by_call.Looking.{looks_at_reader, looks_at_writer, looks_at_both}
use Rattle.pl_polls.proofs.masks.mask_of_key.Given.{Over}
use Rattle.pl_polls.proofs.masks.mask_of_key.Goals.{In-Pipe}
use Rattle.pl_polls.proofs.masks.mask_of_key.Goals as goal

-- the description, in the kernel's view
module _ (g : Over) (c : In-Pipe g) where
  abbrev k : Contents g.row.A.Denot
  k = view_of c.kernel.inside

  here : IsSome (at k.opened c.args.key)
  here = subst (λ (z : Contents g.row.A.Denot). IsSome (at z.opened c.args.key)) (sym c.kernel.view_is) c.requires

pub returns-in-Read : goal.returns-in-Read
returns-in-Read g c =
    let v = (goal.at.returns-in-Read g c).In-Pipe in
    rw (← c.kernel.view_is) (looks_at_reader (k g v) c.kernel.invariant.0.whole c.args.key (here g v) c.in-Pipe.pipe (c.node-node.ensures ∙ ap Some c.in-Pipe.is) (c.mode.ensures ∙ ap Some c.in-Read.is)
    c.held.result c.is_hung.result c.held.ensures.value c.is_hung.ensures c.args.asked c.mask_of-in-Read.result c.mask_of-in-Read.ensures)

pub returns-in-Write : goal.returns-in-Write
returns-in-Write g c =
    let v = (goal.at.returns-in-Write g c).In-Pipe in
    rw (← c.kernel.view_is) (looks_at_writer (k g v) c.kernel.invariant.0.whole c.args.key (here g v) c.in-Pipe.pipe (c.node-node.ensures ∙ ap Some c.in-Pipe.is) (c.mode.ensures ∙ ap Some c.in-Write.is)
    c.room.result c.readers.result c.room.ensures.value c.readers.ensures c.args.asked c.mask_of-in-Write.result c.mask_of-in-Write.ensures)

pub returns-in-Both : goal.returns-in-Both
returns-in-Both g c =
    let v = (goal.at.returns-in-Both g c).In-Pipe in
    rw (← c.kernel.view_is) (looks_at_both (k g v) c.kernel.invariant.0.whole c.args.key (here g v) c.in-Pipe.pipe (c.node-node.ensures ∙ ap Some c.in-Pipe.is) (c.mode.ensures ∙ ap Some c.in-Both.is)
    c.held-in-Both.result c.room-in-Both.result c.readers-in-Both.result c.is_hung-in-Both.result c.held-in-Both.ensures.value c.room-in-Both.ensures.value c.readers-in-Both.ensures c.is_hung-in-Both.ensures c.args.asked c.mask_of-in-Both.result c.mask_of-in-Both.ensures)
