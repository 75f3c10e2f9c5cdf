use Rattle.std.proofs.Common.{◌≡◌, ◌≢◌, true, false, cond, IsSome, sym, ap, subst, ◌∙◌}
use Rattle.std.proofs.lemmas.Bool.{eq-eqb, eqb-true}
use Rattle.pl_model.specs.declared.calls.Call.{Call}
use Rattle.pl_model.specs.declared.calls.Step.TheVariants.{Begin}
use Rattle.pl_model.specs.declared.replies.Reply.TheVariants.{Parked}
use Rattle.pl_model.specs.Numbers.{last_call}
use Rattle.pl_model.specs.Map.{change_at}
use Rattle.pl_model.specs.State.{Pipe}
use Rattle.pl_desc.specs.Rows.{at}
use Rattle.pl_nodes.proofs.Keyed.{on_err}
use Rattle.pl_state.specs.Contents.{Contents, contents, nodes_of, lets_wait}
use Rattle.pl_state.specs.KernelView.{view_of}
use Rattle.pl_state.specs.Makes.{MakesAtKeys}
use Rattle.pl_state.specs.Sound.{IsSound, AreCounted}
use Rattle.pl_state.proofs.Known.{Caller, caller}
use Rattle.pl_state.proofs.by_call.Begun.{there}
use Rattle.pl_naming.specs.Waits.{Waits}
use Rattle.pl_naming.proofs.by_call.FifoWaiting.{wait-crowded, wait-spent, wait-wants, wait-leaves}
use Rattle.pl_naming.proofs.fifos.await_other_end.Given.{Over}
use Rattle.pl_naming.proofs.fifos.await_other_end.Goals.{After-spent, After-unhang_if}
use Rattle.pl_naming.proofs.fifos.await_other_end.Goals as goal

-- the process that calls, and what it asks for
module _ (g : Over) (c : After-spent g) where
  abbrev m : Caller g.row.A.Denot
  m = caller c.kernel.inside c.kernel.invariant c.args.kernel.now c.kernel.view_is c.args.pid c.requires.process

  waits : Waits (view_of c.kernel.inside) c.args.pid c.args.name c.args.end.pipe c.args.end.mode c.args.end.flags
  waits = subst (λ (k : Contents g.row.A.Denot). Waits k c.args.pid c.args.name c.args.end.pipe c.args.end.mode c.args.end.flags) (sym c.kernel.view_is) c.requires.waits

  left : c.spent.result ≡ false → c.kernel.inside.parked.next ≢ last_call
  left not_spent = λ same. (let bad : true ≡ false = sym (eq-eqb c.kernel.inside.parked.next last_call same) ∙ sym c.spent.ensures ∙ not_spent in cc)

pub returns-then-not-can_wait-clause-done : goal.returns-then-not-can_wait-clause-done
returns-then-not-can_wait-clause-done g c =
    let m = caller c.kernel.inside c.kernel.invariant c.args.kernel.now c.kernel.view_is c.args.pid c.requires.process in
    let waits = subst (λ (k : Contents g.row.A.Denot). Waits k c.args.pid c.args.name c.args.end.pipe c.args.end.mode c.args.end.flags) (sym c.kernel.view_is) c.requires.waits in
    rw (← c.kernel.view_is) (wait-crowded m c.args.name c.args.end.mode c.args.end.flags c.args.end.pipe waits (ap (λ k. lets_wait k c.args.pid) c.kernel.view_is ∙ sym c.can_wait.ensures ∙ c.if-not-can_wait.true))

pub returns-then-spent-clause-done : goal.returns-then-spent-clause-done
returns-then-spent-clause-done g c =
    let v = (goal.at.returns-then-spent-clause-done g c).After-spent in
    rw (← c.kernel.view_is) (wait-spent (m g v) c.args.name c.args.end.mode c.args.end.flags c.args.end.pipe (waits g v) (ap (λ k. lets_wait k c.args.pid) c.kernel.view_is ∙ sym c.can_wait.ensures ∙ c.if-not-can_wait.false) (eqb-true c.kernel.inside.parked.next last_call (sym c.spent.ensures ∙ c.if-spent.true)))

pub returns-in_err-park_open-clause-wanted : goal.returns-in_err-park_open-clause-wanted
returns-in_err-park_open-clause-wanted g c =
    let v = (goal.at.returns-in_err-park_open-clause-wanted g c).After-spent in
    on_err c.from_residual.result _ (rw (← c.kernel.view_is) (wait-wants (m g v) c.args.name c.args.end.mode c.args.end.flags c.args.end.pipe (waits g v) (ap (λ k. lets_wait k c.args.pid) c.kernel.view_is ∙ sym c.can_wait.ensures ∙ c.if-not-can_wait.false) (left g v c.if-spent.false)))

-- what it leaves
made : (g : Over) (c : After-unhang_if g) (can : lets_wait (view_of c.kernel.inside) c.args.pid ≡ true) (left : c.kernel.inside.parked.next ≢ last_call)
    → (IsSound g.row.A.Denot (contents c.park_open.new.descs (nodes_of c.unhang_if.new.nodes) c.mark_met.new.self c.kernel.inside.limits)) × (AreCounted g.row.A.Denot c.kernel.inside.limits c.park_open.new.descs c.mark_met.new.self.calls)
    × MakesAtKeys (view_of c.kernel.inside) (Begin c.args.pid (Call.OpenName c.args.name c.args.end.mode c.args.end.flags)) (Parked c.kernel.inside.parked.next) (contents c.park_open.new.descs (nodes_of c.unhang_if.new.nodes) c.mark_met.new.self c.kernel.inside.limits)
made g c can left =
    let A = g.row.A.Denot in
    let m = caller c.kernel.inside c.kernel.invariant c.args.kernel.now c.kernel.view_is c.args.pid c.requires.process in
    let end = c.args.end in
    let waits = subst (λ (k : Contents A). Waits k c.args.pid c.args.name end.pipe end.mode end.flags) (sym c.kernel.view_is) c.requires.waits in
    let held = there (at m.nodes.pipes end.pipe) (subst (λ (k : Contents A). IsSome (at k.nodes.pipes end.pipe)) (sym c.kernel.view_is) c.requires.there) in
    let pipes = c.unhang_if.ensures.pipes ∙ (λ i. change_at end.pipe (λ (x : Pipe). record x { hung = cond (c.is_allowed_by-gets_writer.ensures i) false x.hung }) (at m.nodes.pipes)) in
    let same = c.unhang_if.ensures.files in
    wait-leaves m c.args.name end.mode end.flags end.pipe waits can left held.0 held.1 c.in_ok-park_open.field-0 c.park_open.new.descs c.park_open.new.parked (nodes_of c.unhang_if.new.nodes)
    c.in_ok-park_open.ensures.ok pipes (ap at same.files) same.names same.limits c.mark_met.new.self c.mark_met.ensures

pub invariant_of-kernel-2 : goal.invariant_of-kernel-2
invariant_of-kernel-2 g c =
    let v = goal.at.invariant_of-kernel-2 g c in
    let all = made g v.After-unhang_if (ap (λ k. lets_wait k c.args.pid) c.kernel.view_is ∙ sym c.can_wait.ensures ∙ c.if-not-can_wait.false) (left g v.After-spent c.if-spent.false) in (all.0, all.1)

pub returns-clause-done : goal.returns-clause-done
returns-clause-done g c =
    let v = goal.at.returns-clause-done g c in
    rw (← c.kernel.view_is, c.next_number-number.ensures.value) (made g v.After-unhang_if (ap (λ k. lets_wait k c.args.pid) c.kernel.view_is ∙ sym c.can_wait.ensures ∙ c.if-not-can_wait.false) (left g v.After-spent c.if-spent.false)).2
