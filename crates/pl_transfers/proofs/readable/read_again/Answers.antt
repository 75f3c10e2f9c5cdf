use Rattle.std.proofs.Common.{IsSome, IfSome, sym, subst, ◌∙◌, arith}
use Rattle.std.proofs.Math.Nat.{min-le_right}
use Rattle.pl_model.specs.declared.node.Node.TheVariants as node
use Rattle.pl_desc.specs.Rows.{at}
use Rattle.pl_state.specs.Contents.{Contents}
use Rattle.pl_state.specs.KernelView.{view_of}
use Rattle.pl_state.specs.Opens.{OpenOn}
use Rattle.pl_state.specs.Parking.{ReadWaits}
use Rattle.pl_state.specs.Sound.{IsPipe, MayKeepFile, KeepsNodes}
use Rattle.pl_state.proofs.Known.{known, parts_of}
use Rattle.pl_state.proofs.holders.OnNodes.{is-pipe, kept-one}
use Rattle.pl_state.proofs.waiting.Ending.{kept_there}
use Rattle.pl_transfers.specs.Again.{FindsAgain}
use Rattle.pl_transfers.proofs.by_call.GivesAgain.{front-held}
use Rattle.pl_transfers.proofs.by_call.Measuring.{readable-front, readable-kept}
use Rattle.pl_transfers.proofs.readable.read_again.Goals as goal

pub pipe_of-pipe-requires-clause-here : goal.pipe_of-pipe-requires-clause-here
pipe_of-pipe-requires-clause-here g c =
    let k = view_of c.kernel.inside in
    let read = c.in_ok-read.read in
    let waits : ReadWaits k c.args.number read.key read.n = subst (λ (z : Contents g.row.A.Denot). ReadWaits z c.args.number read.key read.n) (sym c.kernel.view_is) c.in_ok-read.ensures.some in
    subst (λ (z : Contents g.row.A.Denot). IsSome (at z.opened read.key)) c.kernel.view_is (kept_there (parts_of (known c.kernel.inside c.kernel.invariant)) c.args.number waits.call waits.here read.key waits.kept)

pub pipe_of-pipe-requires-clause-pipe : goal.pipe_of-pipe-requires-clause-pipe
pipe_of-pipe-requires-clause-pipe g c =
    let k = view_of c.kernel.inside in
    let read = c.in_ok-read.read in
    let waits : ReadWaits k c.args.number read.key read.n = subst (λ (z : Contents g.row.A.Denot). ReadWaits z c.args.number read.key read.n) (sym c.kernel.view_is) c.in_ok-read.ensures.some in
    let keeps : KeepsNodes (at k.opened) waits.call = subst (λ o. IfSome o (KeepsNodes (at k.opened))) waits.here (c.kernel.invariant.0.on_nodes c.args.number) in
    subst (λ (z : Contents g.row.A.Denot). IfSome (at z.opened read.key) (λ o. IsPipe o.node)) c.kernel.view_is
    (is-pipe waits.call (subst (λ z. MayKeepFile z) waits.asked) (at k.opened read.key) (kept-one (at k.opened) waits.call read.key waits.kept keeps))

pub returns-clause-some : goal.returns-clause-some
returns-clause-some g c =
    let k = view_of c.kernel.inside in
    let read = c.in_ok-read.read in
    let waits : ReadWaits k c.args.number read.key read.n = subst (λ (z : Contents g.row.A.Denot). ReadWaits z c.args.number read.key read.n) (sym c.kernel.view_is) c.in_ok-read.ensures.some in
    let on : OpenOn k read.key (node.Pipe c.pipe_of-pipe.result) = subst (λ (z : Contents g.row.A.Denot). OpenOn z read.key (node.Pipe c.pipe_of-pipe.result)) (sym c.kernel.view_is) c.pipe_of-pipe.ensures in
    let told = readable-front k c.kernel.invariant.0.whole read.key on.opened on.here c.pipe_of-pipe.result on.node c.front.result c.front.ensures.value c.front.ensures.within in
    let low = min-le_right read.n c.front.result in
    subst (λ (z : Contents g.row.A.Denot). FindsAgain z c.args.number (record { key = read.key; pipe = c.pipe_of-pipe.result; n = read.n; count = c.min.result })) c.kernel.view_is
    (record {
      waits = waits;
      on = on;
      held = front-held (at k.nodes.pipes c.pipe_of-pipe.result) read.n c.front.result c.min.result c.min.ensures c.front.ensures.value c.front.ensures.within;
      count = c.min.ensures ∙ readable-kept k c.kernel.invariant.0 c.args.number read.key read.n waits on.opened on.here c.front.result told;
      few = omega (arith, low, c.min.ensures, c.front.ensures.few);
    })
