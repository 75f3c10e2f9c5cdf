use Rattle.std.proofs.Common.{◌≡◌, ◌≤◌, ℕ, Some, sym, ap, subst, ◌∙◌, nat_eq}
use Rattle.std.specs.Prelude.{IsTrue}
use Rattle.pl_model.specs.Map.{get, without}
use Rattle.pl_model.specs.Settle.{settle}
use Rattle.pl_model.specs.Step.{without_call}
use Rattle.pl_parked.specs.Calls.{Calls}
use Rattle.pl_desc.specs.Rows.{is_pid, count_at, at}
use Rattle.pl_state.specs.KernelView.{view_of}
use Rattle.pl_nodes.specs.Nodes.{Shrinks}
use Rattle.pl_state.specs.Contents.{Contents, Nodes, nodes_of, contents, core_of}
use Rattle.pl_state.specs.LastHold.{ReleasesAll}
use Rattle.pl_state.specs.Sound.{IsSound, IsWaiting, AreCounted, times, KeepsNodes}
use Rattle.pl_state.proofs.by_call.Exiting.{drops_process}
use Rattle.pl_state.proofs.holders.Shrinking.{released-shrinks}
use Rattle.pl_state.proofs.holders.Belonging.{belong-same}
use Rattle.pl_state.proofs.Known.{Parts, known, parts_of}
use Rattle.pl_state.proofs.waiting.Calls.{get_without}
use Rattle.pl_state.proofs.waiting.Ending.{end_holds, ended, ended_whole, ended_held}
use Rattle.pl_state.proofs.ending.end_call.Given.{Over}
use Rattle.pl_state.proofs.ending.end_call.Goals.{After-as_slice, After-release_all}
use Rattle.pl_state.proofs.ending.end_call.Goals as goal
use Rattle.pl_state.proofs.holders.OnNodes.{wait-released-all}

-- the call is taken, and the holds on its descriptions are loose
module _ (g : Over) (c : After-as_slice g) where
  abbrev parts : Parts g.row.A.Denot
  parts = parts_of (known c.kernel.inside c.kernel.invariant)

  here : get nat_eq parts.calls.calls c.args.number ≡ Some c.unwrap-call.result
  here = sym c.take.ensures.call ∙ c.unwrap-call.ensures

-- and are given up
module _ (g : Over) (c : After-release_all g) where
  abbrev nodes : Nodes
  nodes = nodes_of c.release_all.new.nodes

  released : ReleasesAll c.unwrap-call.result.kept c.kernel.inside.descs c.release_all.new.descs (nodes_of c.kernel.inside.nodes) nodes
  released = subst (λ ks. ReleasesAll ks c.kernel.inside.descs c.release_all.new.descs (nodes_of c.kernel.inside.nodes) nodes) c.as_slice.ensures c.release_all.ensures

pub release_all-requires-clause-held : goal.release_all-requires-clause-held
release_all-requires-clause-held g c = subst (λ ks. (key : ℕ) → times ks key ≤ count_at c.kernel.inside.descs.loose key) (sym c.as_slice.ensures) (end_holds (parts g c) c.args.number c.unwrap-call.result (here g c))

pub invariant_of-kernel : goal.invariant_of-kernel
invariant_of-kernel g c =
    let A = g.row.A.Denot in
    let w = (goal.at.invariant_of-kernel g c).After-release_all in
    let v = (goal.at.invariant_of-kernel g c).After-as_slice in
    let n = c.args.number in
    let call = c.unwrap-call.result in
    let descs = c.release_all.new.descs in
    subst (λ (z : Calls A). (IsSound A (contents descs (nodes g w) z c.kernel.inside.limits)) × (AreCounted A c.kernel.inside.limits descs z.calls)) (sym c.take.ensures.rest) (
      record {
        whole = ended_whole (parts g v) n call (here g v) descs (nodes g w) (released g w);
        waiting = λ q. get_without c.kernel.inside.parked.calls n (IsWaiting A) q (c.kernel.invariant.0.waiting q);
        belong =
            let same = drops_process (view_of c.kernel.inside) (contents descs (nodes g w) (record c.kernel.inside.parked { calls = without nat_eq c.kernel.inside.parked.calls n }) c.kernel.inside.limits) n (ended (parts g v) n call (here g v) descs (nodes g w) (released g w)) in
            λ q. get_without c.kernel.inside.parked.calls n (λ y. IsTrue (is_pid descs.tables y.pid)) q (belong-same c.kernel.inside.parked.calls (is_pid c.kernel.inside.descs.tables) (is_pid descs.tables) c.kernel.invariant.0.belong same q);
        on_nodes = λ q. get_without c.kernel.inside.parked.calls n (λ y. KeepsNodes (at descs.opened) y) q
            (wait-released-all c.kernel.inside.parked.calls call.kept c.kernel.inside.descs descs (nodes_of c.kernel.inside.nodes) (nodes g w) (released g w) c.kernel.invariant.0.on_nodes q);
      },
      ended_held (parts g v) n call (here g v) descs (nodes g w) (released g w),
    )

pub returns-clause-settled : goal.returns-clause-settled
returns-clause-settled g c =
    let w = (goal.at.returns-clause-settled g c).After-release_all in
    let v = (goal.at.returns-clause-settled g c).After-as_slice in
    subst (λ (z : Calls g.row.A.Denot). core_of (contents c.release_all.new.descs (nodes g w) z c.kernel.inside.limits) ≡ settle (core_of c.args.kernel.now) (without_call (core_of c.args.kernel.now) c.args.number)) (sym c.take.ensures.rest)
    (ended (parts g v) c.args.number c.unwrap-call.result (here g v) c.release_all.new.descs (nodes g w) (released g w) ∙ ap (λ z. settle (core_of z) (without_call (core_of z) c.args.number)) c.kernel.view_is)

pub returns-clause-shrinks : goal.returns-clause-shrinks
returns-clause-shrinks g c =
    let w = (goal.at.returns-clause-shrinks g c).After-release_all in
    subst (λ (z : Contents g.row.A.Denot). Shrinks z.nodes.memory (nodes g w).memory) c.kernel.view_is (released-shrinks c.unwrap-call.result.kept c.kernel.inside.descs c.release_all.new.descs (nodes_of c.kernel.inside.nodes) (nodes g w) (released g w))
