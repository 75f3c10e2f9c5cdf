use Rattle.std.proofs.Common.{◌≡◌, true, ℤ, None, Some, sym, ◌∙◌, ap, subst, w32}
use Rattle.std.specs.Prelude.{option_map}
use Rattle.std.proofs.lemmas.Int.{to_z-of_z}
use Rattle.pl_model.specs.Numbered.{numbers}
use Rattle.pl_model.specs.Keys.{Node as KeyNode}
use Rattle.pl_model.specs.declared.node.Node.{Node}
use Rattle.pl_model.specs.Touching.{names_at}
use Rattle.pl_state.specs.Contents.{core_of, node_of}
use Rattle.pl_state.proofs.Known.{known}
use Rattle.pl_kernel.specs.ToldNodes.{OfFd, node_at, key_of}
use Rattle.pl_kernel.proofs.index.Known.{known_in}
use Rattle.pl_kernel.proofs.index.Finding.{key-named}
use Rattle.pl_kernel.proofs.touch.key_of_fd.Given.{Over}
use Rattle.pl_kernel.proofs.touch.key_of_fd.Goals.{After-node_of_fd}
use Rattle.pl_kernel.proofs.touch.key_of_fd.Goals as goal

-- the node that was found has the key of the one that is named
found : (g : Over) (c : After-node_of_fd g) (node : KeyNode numbers) → names_at (core_of c.args.state.now) node c.args.pid c.args.fd ≡ true → (n : Node) × (c.node_of_fd.result ≡ Some n) × (key_of (node_of n) ≡ key_of node)
found g c node names =
    let core = core_of c.args.state.now in
    key-named core (known_in c.args.state.now (known c.state.inside c.state.invariant) c.state.view_is).fit node c.node_of_fd.result c.args.pid c.args.fd
    (subst (λ (z : ℤ). option_map node_of c.node_of_fd.result ≡ node_at core (OfFd c.args.pid z)) (to_z-of_z w32 c.args.fd c.ranges.fd) c.node_of_fd.ensures.value) names

pub returns-in_err-node : goal.returns-in_err-node
returns-in_err-node g c = λ node names.
    let f = found g (goal.at.returns-in_err-node g c).After-node_of_fd node names in
    absurd (let no : None ≡ Some f.0 = sym c.in_err-node.was ∙ f.1 in cc)

pub returns : goal.returns
returns g c = λ node names.
    let f = found g (goal.at.returns g c).After-node_of_fd node names in
    let same : c.in_ok-node.node ≡ f.0 = (let is : Some c.in_ok-node.node ≡ Some f.0 = sym c.in_ok-node.was ∙ f.1 in cc) in
    ap (λ k. Some k) (c.key_of_node.ensures ∙ ap (λ n. key_of (node_of n)) same ∙ f.2)
