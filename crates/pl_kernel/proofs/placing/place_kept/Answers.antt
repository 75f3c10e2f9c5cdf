use Rattle.std.proofs.Common.{◌≡◌, ℕ, ◌+◌, true, false, slice_index_or, Some, List, [], ◌∷◌, ◌++◌, drop, sym, ◌∙◌, ap, subst, arith}
use Rattle.std.specs.Prelude.{IsSome, option_map}
use Rattle.std.specs.List.{flat_map}
use Rattle.std.proofs.lemmas.List.{drop_more, drop_all}
use Rattle.pl_desc.specs.Rows.{at}
use Rattle.pl_desc.specs.Descs.{Opened}
use Rattle.pl_state.specs.Contents.{Contents, core_of, node_of}
use Rattle.pl_kernel.specs.ToldNodes.{key_of}
use Rattle.pl_kernel.specs.Queues.{ends, place_in}
use Rattle.pl_kernel.specs.Index.{Adds}
use Rattle.pl_kernel.proofs.index.Touching.{member-at}
use Rattle.pl_kernel.proofs.index.Placing.{place-of}
use Rattle.pl_kernel.proofs.index.Looking.{adds_none, adds_short, adds_then}
use Rattle.pl_kernel.proofs.placing.place_kept.Given.{Over}
use Rattle.pl_kernel.proofs.placing.place_kept.Goals.{After-place_node}
use Rattle.pl_kernel.proofs.placing.place_kept.Goals as goal

pub node-requires : goal.node-requires
node-requires g c =
    subst (λ (z : Contents g.row.A.Denot). IsSome (at z.opened (slice_index_or c.args.kept.now c.loop-key.key-index 0))) (sym c.state.view_is)
    (c.requires.described (slice_index_or c.args.kept.now c.loop-key.key-index 0) (member-at c.args.kept.now c.loop-key.key-index (omega (arith, c.loop-key-test.true))))

pub loop-key-init : goal.loop-key-init
loop-key-init g c = λ u done adds. adds

-- the places of the next one, and then those of the rest
module _ (g : Over) (c : After-place_node g) where
  abbrev k : Contents g.row.A.Denot
  k = c.args.state.now

  abbrev rest : List (ℕ × ℕ)
  rest = flat_map (place_in c.args.queue) (ends (core_of k) (drop (c.loop-key.key-index + 1) c.args.kept.now))

  both : flat_map (place_in c.args.queue) (ends (core_of k) (drop c.loop-key.key-index c.args.kept.now)) ≡ (key_of (node_of c.node.result), c.args.queue) ∷ rest
  both =
      let keys = c.args.kept.now in
      let i = c.loop-key.key-index in
      let d = slice_index_or keys i 0 in
      let told : option_map (λ (o : Opened). o.node) (at k.opened d) ≡ Some c.node.result = ap (λ (z : Contents g.row.A.Denot). option_map (λ (o : Opened). o.node) (at z.opened d)) (sym c.state.view_is) ∙ c.node.ensures in
      ap (λ ks. flat_map (place_in c.args.queue) (ends (core_of k) ks)) (drop_more keys i 0 (omega (arith, c.loop-key-test.true))) ∙ ap (λ ps. ps ++ rest) (place-of k d c.node.result told c.args.queue)

pub returns-then-not-place_node : goal.returns-then-not-place_node
returns-then-not-place_node g c =
    let w = (goal.at.returns-then-not-place_node g c).After-place_node in
    let core = core_of c.args.state.now in
    let short = subst (Adds core c.loop-key.waiters c.place_node.new.waiters c.args.number ((key_of (node_of c.node.result), c.args.queue) ∷ [])) c.if-not-place_node.true c.place_node.ensures in
    c.loop-key.invariant c.place_node.new.waiters false
    (subst (λ ps. Adds core c.loop-key.waiters c.place_node.new.waiters c.args.number ps false) (sym (both g w)) (adds_short core c.args.number c.loop-key.waiters c.place_node.new.waiters ((key_of (node_of c.node.result), c.args.queue) ∷ []) (rest g w) short))

pub loop-key-preserved : goal.loop-key-preserved
loop-key-preserved g c = λ u done after.
    let w = (goal.at.loop-key-preserved g c).After-place_node in
    let core = core_of c.args.state.now in
    let first = subst (Adds core c.loop-key.waiters c.place_node.new.waiters c.args.number ((key_of (node_of c.node.result), c.args.queue) ∷ [])) c.if-not-place_node.false c.place_node.ensures in
    c.loop-key.invariant u done
    (subst (λ ps. Adds core c.loop-key.waiters u c.args.number ps done) (sym (both g w)) (adds_then core c.args.number c.loop-key.waiters c.place_node.new.waiters u ((key_of (node_of c.node.result), c.args.queue) ∷ []) (rest g w) done c.requires.parked first after))

pub returns : goal.returns
returns g c =
    let k = c.args.state.now in
    c.loop-key.invariant c.loop-key.waiters true
    (subst (λ ks. Adds (core_of k) c.loop-key.waiters c.loop-key.waiters c.args.number (flat_map (place_in c.args.queue) (ends (core_of k) ks)) true) (sym (drop_all c.loop-key.key-index c.args.kept.now (omega (arith, c.loop-key-test.false))))
    (adds_none (core_of k) c.args.number c.loop-key.waiters true))
