use Rattle.std.proofs.Common.{◌≡◌, ◌≤◌, ℕ, true, false, Some, List, [], ◌∷◌, length, drop, slice_index_or, refl, sym, ◌∙◌, ap, subst, arith}
use Rattle.std.specs.Prelude.{IsSome, option_map}
use Rattle.pl_desc.specs.Rows.{at}
use Rattle.pl_desc.specs.Descs.{Opened}
use Rattle.pl_state.specs.Contents.{Contents, core_of, node_of}
use Rattle.pl_kernel.specs.ToldNodes.{key_of}
use Rattle.pl_kernel.specs.Queues.{ends, move_places, queue_at_target}
use Rattle.pl_kernel.specs.Index.{Adds}
use Rattle.pl_kernel.proofs.index.Touching.{member-at}
use Rattle.pl_kernel.proofs.index.Placing.{moves-of, no-moves}
use Rattle.pl_kernel.proofs.index.Looking.{adds_none, adds_short, adds_then}
use Rattle.pl_kernel.proofs.placing.place_move.Given.{Over}
use Rattle.pl_kernel.proofs.placing.place_move.Goals.{After-place_node}
use Rattle.pl_kernel.proofs.placing.place_move.Goals as goal

-- the first two, where there are as many
two-of : (ks : List ℕ) → 2 ≤ length ks → ks ≡ slice_index_or ks 0 0 ∷ slice_index_or ks 1 0 ∷ drop 2 ks
two-of [] l = absurd (omega (arith, l))
two-of (a ∷ []) l = absurd (omega (arith, l))
two-of (a ∷ b ∷ rest) l = refl

pub node-from-requires : goal.node-from-requires
node-from-requires g c =
    let many = c.if-kept-lt2.false in
    subst (λ (z : Contents g.row.A.Denot). IsSome (at z.opened (slice_index_or c.args.kept.now 0 0))) (sym c.state.view_is) (c.requires.described (slice_index_or c.args.kept.now 0 0) (member-at c.args.kept.now 0 (omega (arith, many))))

pub node-to-requires : goal.node-to-requires
node-to-requires g c =
    let many = c.if-kept-lt2.false in
    subst (λ (z : Contents g.row.A.Denot). IsSome (at z.opened (slice_index_or c.args.kept.now 1 0))) (sym c.state.view_is) (c.requires.described (slice_index_or c.args.kept.now 1 0) (member-at c.args.kept.now 1 (omega (arith, many))))

pub returns-then-kept-lt2 : goal.returns-then-kept-lt2
returns-then-kept-lt2 g c =
    let core = core_of c.args.state.now in
    subst (λ ps. Adds core c.args.waiters.now c.args.waiters.now c.args.number ps true) (sym (no-moves c.args.state.now c.args.kept.now c.if-kept-lt2.true)) (adds_none core c.args.number c.args.waiters.now true)

-- the places at the two nodes
module _ (g : Over) (c : After-place_node g) where
  abbrev source : ℕ × ℕ
  source = (key_of (node_of c.node-from.result), c.queue_of_source.result)

  abbrev target : ℕ × ℕ
  target = (key_of (node_of c.node-to.result), queue_at_target (node_of c.node-from.result) (node_of c.node-to.result))

  both : move_places (ends (core_of c.args.state.now) c.args.kept.now) ≡ source ∷ target ∷ []
  both =
      let k = c.args.state.now in
      let kept = c.args.kept.now in
      let n = c.node-from.result in
      let m = c.node-to.result in
      let a = slice_index_or kept 0 0 in
      let b = slice_index_or kept 1 0 in
      let from : option_map (λ (o : Opened). o.node) (at k.opened a) ≡ Some n = ap (λ (z : Contents g.row.A.Denot). option_map (λ (o : Opened). o.node) (at z.opened a)) (sym c.state.view_is) ∙ c.node-from.ensures in
      let to : option_map (λ (o : Opened). o.node) (at k.opened b) ≡ Some m = ap (λ (z : Contents g.row.A.Denot). option_map (λ (o : Opened). o.node) (at z.opened b)) (sym c.state.view_is) ∙ c.node-to.ensures in
      ap (λ ks. move_places (ends (core_of k) ks)) (two-of kept c.if-kept-lt2.false) ∙ moves-of k a b n m (drop 2 kept) from to
      ∙ ap (λ q. (key_of (node_of n), q) ∷ target ∷ []) (sym c.queue_of_source.ensures)

pub returns-then-not-place_node : goal.returns-then-not-place_node
returns-then-not-place_node g c =
    let w = (goal.at.returns-then-not-place_node g c).After-place_node in
    let core = core_of c.args.state.now in
    subst (λ ps. Adds core c.args.waiters.now c.place_node.new.waiters c.args.number ps false) (sym (both g w))
    (adds_short core c.args.number c.args.waiters.now c.place_node.new.waiters (source g w ∷ []) (target g w ∷ []) (subst (Adds core c.args.waiters.now c.place_node.new.waiters c.args.number (source g w ∷ [])) c.if-not-place_node.true c.place_node.ensures))

pub returns : goal.returns
returns g c =
    let w = (goal.at.returns g c).After-place_node in
    let core = core_of c.args.state.now in
    let now = c.place_node-2.new.waiters in
    subst (λ ps. Adds core c.args.waiters.now now c.args.number ps c.place_node-2.result) (sym (both g w))
    (adds_then core c.args.number c.args.waiters.now c.place_node.new.waiters now (source g w ∷ []) (target g w ∷ []) c.place_node-2.result c.requires.parked
    (subst (Adds core c.args.waiters.now c.place_node.new.waiters c.args.number (source g w ∷ [])) c.if-not-place_node.false c.place_node.ensures)
    (subst (λ q. Adds core c.place_node.new.waiters now c.args.number ((key_of (node_of c.node-to.result), q) ∷ []) c.place_node-2.result) c.queue_of_target.ensures c.place_node-2.ensures))
