use Rattle.std.proofs.Common.{◌≡◌, ◌∙◌, ℕ, Option, Some, None, true, refl, sym, subst}
use Rattle.std.specs.Prelude.{IfNone, IfSome}
use Rattle.pl_kernel.specs.Progress.{is_ready}
use Rattle.pl_state.specs.Contents.{core_of}
use Rattle.pl_kernel.proofs.index.Nodes.{both-some}
use Rattle.pl_kernel.proofs.index.Settling.{knows-none, taken-out, understood-fewer}
use Rattle.pl_kernel.proofs.asking.settle.Goals as goal

none_of : (o : Option ℕ) (P : Type 0) → ((x : ℕ) → o ≡ Some x → ⊥) → IfNone o P → P
none_of None P off h = h
none_of (Some x) P off h = absurd (off x refl)

pub ask_node-found-requires-clause-understood : goal.ask_node-found-requires-clause-understood
ask_node-found-requires-clause-understood g c =
    let t = c.in-Some.ensures in
    understood-fewer (core_of c.args.state.now) c.loop-node.waiters c.take_touched.new.self (λ key there. sym (t.queues key) ∙ there) (λ key some there. t.queues key ∙ there) t.known c.loop-node.invariant.understood

pub ask_node-found-requires-clause-knows : goal.ask_node-found-requires-clause-knows
ask_node-found-requires-clause-knows g c =
    let t = c.in-Some.ensures in
    taken-out (core_of c.args.state.now) c.loop-node.waiters c.take_touched.new.self c.in-Some.node t.queues t.others t.least t.known c.loop-node.invariant.knows

pub loop-node-preserved : goal.loop-node-preserved
loop-node-preserved g c =
    let inv = c.loop-node.invariant in
    let t = c.in-Some.ensures in
    let a = c.ask_node-found.ensures in
    record {
      understood = a.understood;
      knows = a.knows;
      known = a.known ∙ t.known ∙ inv.known;
      ready = subst (λ o. IfSome o (λ n. is_ready (core_of c.args.state.now) n ≡ true)) (sym c.lesser-least.ensures) (both-some (λ n. is_ready (core_of c.args.state.now) n ≡ true) c.loop-node.least c.ask_node-found.result inv.ready a.ready);
    }

pub returns-clause-knows : goal.returns-clause-knows
returns-clause-knows g c =
    knows-none (core_of c.args.state.now) c.loop-node.waiters c.take_touched.new.self c.in_default.ensures.queues (none_of c.take_touched.result _ c.in_default.not-Some c.take_touched.ensures.same)
    c.in_default.ensures.least c.in_default.ensures.known c.loop-node.invariant.knows
