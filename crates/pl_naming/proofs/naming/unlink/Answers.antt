use Rattle.std.proofs.Common.{◌≡◌, ℕ, List, None, Some, refl, sym, ap, subst, ◌∙◌, nat_eq}
use Rattle.std.specs.Cmp.Lexicographic.{pointwise}
use Rattle.pl_model.specs.declared.calls.Call.{Call}
use Rattle.pl_model.specs.declared.calls.Step.TheVariants.{Begin}
use Rattle.pl_model.specs.declared.replies.Reply.{Reply}
use Rattle.pl_model.specs.declared.replies.Reply.TheVariants.{Fault}
use Rattle.pl_model.specs.declared.replies.Errno.TheVariants.{ENOENT}
use Rattle.pl_model.specs.Map.{get}
use Rattle.pl_nodes.specs.Nodes.{Nodes as KeptNodes}
use Rattle.pl_decisions.specs.Names.{fault_of_name}
use Rattle.pl_state.specs.Contents.{Contents, Nodes, IsThere, nodes_of}
use Rattle.pl_state.specs.KernelView.{view_of}
use Rattle.pl_state.specs.LastHold.{Leaves}
use Rattle.pl_state.specs.Makes.{MakesAtKeys}
use Rattle.pl_naming.proofs.by_call.Unlinking.{named_has, still, unnamed, unlinked_sound, unlink-fault, unlink-missing, unlink-made}
use Rattle.pl_state.proofs.Known.{Caller, caller}
use Rattle.pl_naming.proofs.naming.unlink.Given.{Over}
use Rattle.pl_naming.proofs.naming.unlink.Goals.{After-name_fault, In-Ok}
use Rattle.pl_naming.proofs.naming.unlink.Goals as goal

-- what is said of the bytes of a name is said of the name
of_name : {A : Type 0} (k new : Contents A) (pid : ℕ) (reply : Reply A) (bytes name : List ℕ) → bytes ≡ name → MakesAtKeys k (Begin pid (Call.Unlink bytes)) reply new → MakesAtKeys k (Begin pid (Call.Unlink name)) reply new
of_name k new pid reply bytes name same = subst (λ n. MakesAtKeys k (Begin pid (Call.Unlink n)) reply new) same

-- the process that calls
module _ (g : Over) (c : After-name_fault g) where
  abbrev calls : Caller g.row.A.Denot
  calls = caller c.kernel.inside c.kernel.invariant c.args.kernel.now c.kernel.view_is c.args.pid c.requires

-- the name stood for a node
module _ (g : Over) (c : In-Ok g) where
  abbrev m : Caller g.row.A.Denot
  m = caller c.kernel.inside c.kernel.invariant c.args.kernel.now c.kernel.view_is c.args.pid c.requires

  abbrev name : List ℕ
  name = c.as_slice-bytes.result.now

  good : fault_of_name name ≡ None
  good = sym c.name_fault.ensures ∙ c.in_default.is

  stood : get (pointwise nat_eq) c.kernel.inside.nodes.names name ≡ Some c.in-Ok.node
  stood = c.in-Ok.ensures.node

  abbrev without_name : Nodes
  without_name = unnamed (view_of c.kernel.inside) m.sound name c.in-Ok.node stood

  lost : nodes_of c.unlink.new.self ≡ without_name
  lost = ap nodes_of c.unlink.ensures.rest ∙ (λ i. record (nodes_of c.kernel.inside.nodes) { names = c.unlink.ensures.names i })

  is_there : IsThere (nodes_of c.unlink.new.self) c.in-Ok.node
  is_there =
      subst (λ ns. IsThere ns c.in-Ok.node) (sym lost) (still (view_of c.kernel.inside) m.sound name c.in-Ok.node stood c.in-Ok.node
      (named_has (IsThere m.nodes) m.nodes.names name c.in-Ok.node m.sound.there.named stood))

  -- and what it stood for is left to what has it open
  left : (nodes : Nodes) → Leaves m.descs.opened m.descs.opened (nodes_of c.unlink.new.self) nodes c.in-Ok.node → Leaves m.descs.opened m.descs.opened without_name nodes c.in-Ok.node
  left nodes = subst (λ ns. Leaves m.descs.opened m.descs.opened ns nodes c.in-Ok.node) lost

pub returns-in-Some : goal.returns-in-Some
returns-in-Some g c =
    let w = (goal.at.returns-in-Some g c).After-name_fault in
    rw (← c.kernel.view_is) (of_name _ _ _ _ _ _ c.as_slice-bytes.ensures (unlink-fault (calls g w) c.as_slice-bytes.result.now c.in-Some.errno (sym c.name_fault.ensures ∙ c.in-Some.is)))

pub returns-in_default-unlink : goal.returns-in_default-unlink
returns-in_default-unlink g c =
    let w = (goal.at.returns-in_default-unlink g c).After-name_fault in
    let missing : get (pointwise nat_eq) c.kernel.inside.nodes.names c.as_slice-bytes.result.now ≡ None = c.in_default-unlink.ensures.missing.0 refl in
    rw (← c.kernel.view_is) (subst (λ (ns : KeptNodes). MakesAtKeys (view_of c.kernel.inside) (Begin c.args.pid (Call.Unlink c.args.name.now)) (Fault ENOENT) (record (view_of c.kernel.inside) { nodes = nodes_of ns }))
    (sym c.in_default-unlink.ensures.unchanged) (of_name _ _ _ _ _ _ c.as_slice-bytes.ensures (unlink-missing (calls g w) c.as_slice-bytes.result.now (sym c.name_fault.ensures ∙ c.in_default.is) missing)))

pub leave_unnamed-requires : goal.leave_unnamed-requires
leave_unnamed-requires g c = is_there g (goal.at.leave_unnamed-requires g c).In-Ok

pub invariant_of-kernel-2 : goal.invariant_of-kernel-2
invariant_of-kernel-2 g c =
    let w = (goal.at.invariant_of-kernel-2 g c).In-Ok in
    let after = nodes_of c.leave_unnamed.new.nodes in
    (unlinked_sound (view_of c.kernel.inside) (m g w).sound (name g w) c.in-Ok.node (stood g w) after (left g w after c.leave_unnamed.ensures), (m g w).are)

pub returns : goal.returns
returns g c =
    let w = (goal.at.returns g c).In-Ok in
    let after = nodes_of c.leave_unnamed.new.nodes in
    rw (← c.kernel.view_is) (of_name _ _ _ _ _ _ c.as_slice-bytes.ensures (unlink-made (m g w) (name g w) (good g w) c.in-Ok.node (stood g w) after (left g w after c.leave_unnamed.ensures)))
