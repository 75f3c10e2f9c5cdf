use Rattle.std.proofs.Common.{◌≡◌, Some, [], ◌∷◌, sym, ◌∙◌, ap, subst}
use Rattle.std.specs.Prelude.{option_map}
use Rattle.pl_desc.specs.Rows.{at}
use Rattle.pl_desc.specs.Descs.{Opened}
use Rattle.pl_state.specs.Contents.{Contents, core_of, node_of}
use Rattle.pl_kernel.specs.ToldNodes.{key_of}
use Rattle.pl_kernel.specs.Index.{Adds}
use Rattle.pl_kernel.proofs.index.Placing.{entry-of}
use Rattle.pl_kernel.proofs.placing.place_entry.Goals as goal

pub returns : goal.returns
returns g c =
    let k = c.args.state.now in
    let d = c.args.key in
    let n = c.node-node.result in
    let told : option_map (λ (o : Opened). o.node) (at k.opened d) ≡ Some n = ap (λ (z : Contents g.row.A.Denot). option_map (λ (o : Opened). o.node) (at z.opened d)) (sym c.state.view_is) ∙ c.node-node.ensures in
    let moded : option_map (λ (o : Opened). o.mode) (at k.opened d) ≡ Some c.mode.result = ap (λ (z : Contents g.row.A.Denot). option_map (λ (o : Opened). o.mode) (at z.opened d)) (sym c.state.view_is) ∙ c.mode.ensures in
    subst (λ ps. Adds (core_of k) c.args.waiters.now c.place_node.new.waiters c.args.number ps c.place_node.result) (sym (entry-of k d n told c.mode.result moded c.args.asked))
    (subst (λ q. Adds (core_of k) c.args.waiters.now c.place_node.new.waiters c.args.number ((key_of (node_of n), q) ∷ []) c.place_node.result) c.queue_of_entry-queue.ensures c.place_node.ensures)
