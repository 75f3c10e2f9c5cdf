use Rattle.std.proofs.Common.{◌≡◌, length, sym, subst, ◌∙◌, w32, IfSome}
use Rattle.std.specs.Prelude.{not}
use Rattle.std.proofs.lemmas.Int.{to_z-of_z}
use Rattle.std.proofs.lemmas.Bool.{ne_eqb}
use Rattle.pl_model.specs.declared.cases.WriteCase.TheVariants.{Waits}
use Rattle.pl_model.specs.Transfer.{room, write_case}
use Rattle.pl_state.specs.KernelView.{view_of}
use Rattle.pl_state.specs.LastHold.{has_reader}
use Rattle.pl_nodes.proofs.Keyed.{on_err}
use Rattle.pl_state.proofs.by_call.Begun.{pipe_there}
use Rattle.pl_state.proofs.Known.{caller}
use Rattle.pl_transfers.specs.Waits.{WaitsToWrite}
use Rattle.pl_transfers.proofs.by_call.Writing.{write-waits-wants}
use Rattle.pl_transfers.proofs.transfers.wait_with_copy.Goals as goal

pub returns-in_err-copy-clause-wanted : goal.returns-in_err-copy-clause-wanted
returns-in_err-copy-clause-wanted g c =
    let k = view_of c.kernel.inside in
    let bytes = c.args.bytes.now in
    let o = c.args.end in
    let to = c.args.to in
    let w : WaitsToWrite k c.args.pid c.args.fd bytes o to = subst (λ z. WaitsToWrite z c.args.pid c.args.fd bytes o to) (sym c.kernel.view_is) c.requires.waits in
    let p = pipe_there k c.kernel.invariant.0.whole o.key o.pipe w.opens.on in
    let row = sym (subst (λ z. IfSome z (λ x. Waits w.from to ≡ write_case (length bytes) 0 (room x) (has_reader k.opened o.pipe) (not o.nonblock))) p.1 w.comes) in
    let m = caller c.kernel.inside c.kernel.invariant c.args.kernel.now c.kernel.view_is c.args.pid c.requires.process in
    on_err c.from_residual.result _ (rw (← c.kernel.view_is) (write-waits-wants m c.args.fd bytes o w.opens (ne_eqb (length bytes) 0 w.some) p.0 p.1 w.from to row w.left))

pub wait_to_write-requires-clause-waits : goal.wait_to_write-requires-clause-waits
wait_to_write-requires-clause-waits g c =
    let k = c.args.kernel.now in
    let made : c.unwrap.result ≡ c.args.bytes.now = subst (λ o. IfSome o (λ m. m ≡ c.in_ok-copy.copy.items)) c.unwrap.ensures c.from_vec.ensures.list ∙ c.in_ok-copy.ensures.items in
    subst (λ z. WaitsToWrite k c.args.pid z c.unwrap.result c.args.end c.args.to) (sym (to_z-of_z w32 c.args.fd c.ranges.fd))
    (subst (λ bs. WaitsToWrite k c.args.pid c.args.fd bs c.args.end c.args.to) (sym made) c.requires.waits)
