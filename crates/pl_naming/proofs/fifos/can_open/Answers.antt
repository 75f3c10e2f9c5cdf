use Rattle.std.proofs.Common.{sym, ◌∙◌, nat_lt}
use Rattle.pl_model.specs.Fifo.{opens_at_once}
use Rattle.pl_state.specs.KernelView.{view_of}
use Rattle.pl_naming.proofs.by_call.FifoOpening.{can_open-is}
use Rattle.pl_naming.proofs.fifos.can_open.Goals as goal

pub returns : goal.returns
returns g c =
    rw (← c.kernel.view_is) (c.opens_at_once.ensures
    ∙ (λ i. opens_at_once c.args.mode (nat_lt 0 (c.readers-has_reader.ensures i)) (nat_lt 0 (c.writers-has_writer.ensures i)) (c.contains.ensures tt i))
    ∙ sym (can_open-is (view_of c.kernel.inside) c.kernel.invariant.0 c.args.pipe c.args.mode c.args.flags))
