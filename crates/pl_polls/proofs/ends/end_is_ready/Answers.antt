use Rattle.std.proofs.Common.{◌≡◌, IsSome, not, nat_lt, sym, ap, subst, ◌∙◌}
use Rattle.std.specs.Prelude.{◌==◌}
use Rattle.pl_model.specs.declared.cases.Polled.{Polled}
use Rattle.pl_model.specs.Poll.{mask_of, is_ready}
use Rattle.pl_desc.specs.Rows.{at}
use Rattle.pl_state.specs.Contents.{Contents, core_of}
use Rattle.pl_state.specs.KernelView.{view_of}
use Rattle.pl_polls.specs.Ends.{end_at}
use Rattle.pl_polls.proofs.by_call.Looking.{sees-end}
use Rattle.pl_polls.proofs.ends.end_is_ready.Goals as goal

pub returns : goal.returns
returns g c =
    let A = g.row.A.Denot in
    let k = view_of c.kernel.inside in
    let p = c.args.pipe in
    let there : IsSome (at k.nodes.pipes p) = subst (λ (z : Contents A). IsSome (at z.nodes.pipes p)) (sym c.kernel.view_is) c.requires in
    let seen : Polled.Pipe c.args.mode c.held.result c.room.result (nat_lt 0 c.readers.result) c.is_hung.result ≡ end_at (core_of k) p c.args.mode =
    sees-end k c.kernel.invariant.0.whole p there c.args.mode c.held.result c.room.result c.readers.result c.is_hung.result c.held.ensures.value c.room.ensures.value c.readers.ensures c.is_hung.ensures in
    ap not (c.is_empty.ensures tt) ∙ (λ i. not ((c.mask_of.ensures i).0 == 0)) ∙ ap (λ polled. is_ready (mask_of polled c.args.asked)) seen
    ∙ ap (λ (z : Contents A). is_ready (mask_of (end_at (core_of z) p c.args.mode) c.args.asked)) c.kernel.view_is
