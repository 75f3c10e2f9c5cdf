use Rattle.std.proofs.Common.{◌≡◌, ℕ, List, Option, None, Some, refl, sym, ap, ◌∙◌, nat_eq, true, false}
use Rattle.std.specs.Prelude.{is_some}
use Rattle.std.specs.Ordering.{nat_cmp}
use Rattle.std.specs.Cmp.Lexicographic.{pointwise, slice_cmp}
use Rattle.pl_model.specs.declared.calls.Call.{Call}
use Rattle.pl_model.specs.declared.calls.Step.TheVariants.{Begin}
use Rattle.pl_model.specs.declared.replies.Reply.TheVariants.{Unit}
use Rattle.pl_model.specs.declared.node.Node.{Node}
use Rattle.pl_model.specs.declared.node.Node.TheVariants as node
use Rattle.pl_model.specs.Map.{get, put_in_order}
use Rattle.pl_decisions.specs.Names.{fault_of_name}
use Rattle.pl_nodes.proofs.Keyed.{on_err}
use Rattle.pl_state.specs.Contents.{contents, nodes_of, lets_name}
use Rattle.pl_state.specs.KernelView.{view_of}
use Rattle.pl_state.specs.Sound.{IsSound}
use Rattle.pl_state.specs.Makes.{MakesAtKeys, MayWantAtKeys}
use Rattle.pl_state.proofs.Known.{Caller, caller}
use Rattle.pl_naming.proofs.by_call.Making.{mkfifo-fault, mkfifo-there, mkfifo-full, mkfifo-wants, mkfifo_sound, mkfifo_makes}
use Rattle.pl_naming.proofs.fifos.mkfifo.Given.{Over}
use Rattle.pl_naming.proofs.fifos.mkfifo.Goals.{After-is_some, In-Ok}
use Rattle.pl_naming.proofs.fifos.mkfifo.Goals as goal

pub returns-in-Some-clause-done : goal.returns-in-Some-clause-done
returns-in-Some-clause-done g c =
    let m = caller c.kernel.inside c.kernel.invariant c.args.kernel.now c.kernel.view_is c.args.pid c.requires in
    rw (← c.as_slice-bytes.ensures, ← c.kernel.view_is) (mkfifo-fault m c.as_slice-bytes.result.now c.in-Some.errno (sym c.name_fault.ensures ∙ c.in-Some.is))

pub returns-then-is_some-clause-done : goal.returns-then-is_some-clause-done
returns-then-is_some-clause-done g c =
    let m = caller c.kernel.inside c.kernel.invariant c.args.kernel.now c.kernel.view_is c.args.pid c.requires in
    rw (← c.as_slice-bytes.ensures, ← c.kernel.view_is) (mkfifo-there m c.as_slice-bytes.result.now (sym c.name_fault.ensures ∙ c.in_default.is) c.look_up.result (sym c.look_up.ensures)
    (sym c.is_some.ensures ∙ c.if-is_some.true))

nothing : (o : Option Node) → is_some o ≡ false → o ≡ None
nothing None h = refl
nothing (Some n) h = absurd (cc)

-- the name is one, and stands for nothing
module _ (g : Over) (c : After-is_some g) (missing : c.is_some.result ≡ false) where
  abbrev m : Caller g.row.A.Denot
  m = caller c.kernel.inside c.kernel.invariant c.args.kernel.now c.kernel.view_is c.args.pid c.requires

  abbrev name : List ℕ
  name = c.as_slice-bytes.result.now

  good : fault_of_name name ≡ None
  good = sym c.name_fault.ensures ∙ c.in_default.is

  none : get (pointwise nat_eq) m.nodes.names name ≡ None
  none = sym c.look_up.ensures ∙ nothing c.look_up.result (sym c.is_some.ensures ∙ missing)

  wants : lets_name (view_of c.kernel.inside) ≡ true → MayWantAtKeys (view_of c.kernel.inside) (Begin c.args.pid (Call.Mkfifo name))
  wants can = mkfifo-wants m name good none can

pub returns-then-not-can_name-clause-done : goal.returns-then-not-can_name-clause-done
returns-then-not-can_name-clause-done g c =
    let v = (goal.at.returns-then-not-can_name-clause-done g c).After-is_some in
    rw (← c.as_slice-bytes.ensures, ← c.kernel.view_is) (mkfifo-full (m g v c.if-is_some.false) c.as_slice-bytes.result.now (good g v c.if-is_some.false) (none g v c.if-is_some.false) (ap lets_name c.kernel.view_is ∙ sym c.can_name.ensures ∙ c.if-not-can_name.true))

pub returns-in_err-kept-clause-wanted : goal.returns-in_err-kept-clause-wanted
returns-in_err-kept-clause-wanted g c =
    let v = (goal.at.returns-in_err-kept-clause-wanted g c).After-is_some in
    on_err c.from_residual.result _ (rw (← c.as_slice-bytes.ensures, ← c.kernel.view_is) (wants g v c.if-is_some.false (ap lets_name c.kernel.view_is ∙ sym c.can_name.ensures ∙ c.if-not-can_name.false)))

pub returns-in_default-make_fifo-clause-wanted : goal.returns-in_default-make_fifo-clause-wanted
returns-in_default-make_fifo-clause-wanted g c =
    let v = (goal.at.returns-in_default-make_fifo-clause-wanted g c).After-is_some in
    rw (← c.as_slice-bytes.ensures, ← c.kernel.view_is) (wants g v c.if-is_some.false (ap lets_name c.kernel.view_is ∙ sym c.can_name.ensures ∙ c.if-not-can_name.false))

-- what making the FIFO comes to
made : (g : Over) (c : In-Ok g) (none : get (pointwise nat_eq) c.kernel.inside.nodes.names c.as_slice-bytes.result.now ≡ None) (can : lets_name (view_of c.kernel.inside) ≡ true)
    → (IsSound g.row.A.Denot (contents c.kernel.inside.descs (nodes_of c.make_fifo.new.self) c.kernel.inside.parked c.kernel.inside.limits))
    × (MakesAtKeys (view_of c.kernel.inside) (Begin c.args.pid (Call.Mkfifo c.as_slice-bytes.result.now)) Unit (contents c.kernel.inside.descs (nodes_of c.make_fifo.new.self) c.kernel.inside.parked c.kernel.inside.limits))
made g c none can =
    let m = caller c.kernel.inside c.kernel.invariant c.args.kernel.now c.kernel.view_is c.args.pid c.requires in
    let name = c.as_slice-bytes.result.now in
    let good = sym c.name_fault.ensures ∙ c.in_default.is in
    let p = c.in-Ok.field-0 in
    let after = nodes_of c.make_fifo.new.self in
    let names = c.in-Ok.ensures.names ∙ (λ i. put_in_order (slice_cmp nat_cmp) m.nodes.names (c.in_ok-kept.ensures.items i) (node.Pipe p)) in (
      mkfifo_sound m name good none can p c.in-Ok.ensures.vacant.0 after c.in-Ok.ensures.ok c.in-Ok.ensures.files names c.in-Ok.ensures.limits,
      mkfifo_makes m name good none can p c.in-Ok.ensures.vacant.0 after c.in-Ok.ensures.ok c.in-Ok.ensures.files names c.in-Ok.ensures.limits,
    )

stood_for_nothing : (g : Over) (c : In-Ok g) → get (pointwise nat_eq) c.kernel.inside.nodes.names c.as_slice-bytes.result.now ≡ None
stood_for_nothing g c = sym c.look_up.ensures ∙ nothing c.look_up.result (sym c.is_some.ensures ∙ c.if-is_some.false)

pub invariant_of-kernel-2 : goal.invariant_of-kernel-2
invariant_of-kernel-2 g c = ((made g c (stood_for_nothing g c) (ap lets_name c.kernel.view_is ∙ sym c.can_name.ensures ∙ c.if-not-can_name.false)).0, c.kernel.invariant.1)

pub returns-clause-done : goal.returns-clause-done
returns-clause-done g c = rw (← c.as_slice-bytes.ensures, ← c.kernel.view_is) (made g c (stood_for_nothing g c) (ap lets_name c.kernel.view_is ∙ sym c.can_name.ensures ∙ c.if-not-can_name.false)).1
