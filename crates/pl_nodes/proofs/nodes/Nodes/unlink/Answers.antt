use Rattle.std.proofs.Common.{◌≡◌, ◌∙◌, Some, false, refl, sym, ap, subst, nat_eq, slice_set, IsSome}
use Rattle.std.specs.Cmp.Lexicographic.{pointwise}
use Rattle.std.specs.Map.{lookup, remove_entry}
use Rattle.std.specs.BTreeMap.{is_at}
use Rattle.pl_model.specs.Map.{get, without}
use Rattle.pl_segments.specs.Segments.{at}
use Rattle.pl_nodes.specs.Contents.{with_named}
use Rattle.pl_nodes.specs.Nodes.{Nodes}
use Rattle.pl_nodes.specs.NodesView.{names_of, AreNamed}
use Rattle.pl_nodes.proofs.Names.{compares, looked-up, remove-names}
use Rattle.pl_nodes.proofs.Named.{is-there, gone-named}
use Rattle.pl_nodes.proofs.Unnamed.{unnamed-sound, unnamed-seen}
use Rattle.pl_nodes.proofs.nodes.Nodes.unlink.Given.{Over}
use Rattle.pl_nodes.proofs.nodes.Nodes.unlink.Goals.{After-remove, In-Some}
use Rattle.pl_nodes.proofs.nodes.Nodes.unlink.Goals as goal

-- what the name stood for, and the names without it
module _ (g : Over) (c : After-remove g) where
  stood : c.remove.result ≡ get (pointwise nat_eq) c.args.self.now.names c.args.name.now
  stood = c.remove.ensures.value ∙ looked-up c.self.inside c.args.self.now c.self.view_is c.args.name.now

  names_left : names_of c.remove.new.self.entries ≡ without (pointwise nat_eq) c.args.self.now.names c.args.name.now
  names_left =
      ap (λ es. names_of es) c.remove.ensures.entries
      ∙ remove-names c.args.name.now c.self.inside.names.entries (ap (λ es. lookup (is_at (compares c.args.name.now)) es) (sym c.remove.ensures.entries) ∙ c.remove.ensures.updates.1)
      ∙ ap (λ (v : Nodes). without (pointwise nat_eq) v.names c.args.name.now) c.self.view_is

pub returns-in_default-clause-names : goal.returns-in_default-clause-names
returns-in_default-clause-names g c = names_left g (goal.at.returns-in_default-clause-names g c).After-remove

pub returns-in_default-clause-missing : goal.returns-in_default-clause-missing
returns-in_default-clause-missing g c =
    let none = sym (stood g (goal.at.returns-in_default-clause-missing g c).After-remove) ∙ c.in_default.is in
    (λ err. none, λ missing. refl)

pub index_mut-requires : goal.index_mut-requires
index_mut-requires g c =
    subst (λ q. IsSome (at c.self.inside.contents.slots q)) (sym c.key.ensures)
    (is-there (is_at (compares c.args.name.now)) c.self.inside.names.entries c.in-Some.node (sym c.remove.ensures.value ∙ c.in-Some.is) c.self.inside.contents.slots c.self.invariant.named)

pub invariant_of-self-2 : goal.invariant_of-self-2
invariant_of-self-2 g c =
    let slots = c.self.inside.contents.slots in
    let x = c.index_mut.result.now in
    let there = subst (λ q. at slots q ≡ Some x) c.key.ensures c.index_mut.ensures.value in
    let named = gone-named (is_at (compares c.args.name.now)) c.self.inside.names.entries c.in-Some.node (sym c.remove.ensures.value ∙ c.in-Some.is) slots c.self.invariant.named x there in
    unnamed-sound c.self.inside c.self.invariant c.key.result x c.set_named.new.self c.index_mut.ensures.value c.set_named.ensures c.remove.new.self
    (subst (λ es. AreNamed es (slice_set slots c.key.result (Some (with_named false x)))) (sym c.remove.ensures.entries) (subst (λ q. AreNamed (remove_entry (is_at (compares c.args.name.now)) c.self.inside.names.entries) (slice_set slots q (Some (with_named false x)))) (sym c.key.ensures) named))

pub returns-clause-node : goal.returns-clause-node
returns-clause-node g c = sym (stood g (goal.at.returns-clause-node g c).After-remove) ∙ c.in-Some.is

pub returns-clause-names : goal.returns-clause-names
returns-clause-names g c = names_left g (goal.at.returns-clause-names g c).After-remove

pub returns-clause-missing : goal.returns-clause-missing
returns-clause-missing g c =
    let some = sym (stood g (goal.at.returns-clause-missing g c).After-remove) ∙ c.in-Some.is in
    (λ err. absurd (cc), λ missing. absurd (cc))

pub returns-clause-rest : goal.returns-clause-rest
returns-clause-rest g c =
    unnamed-seen c.self.inside c.self.invariant c.key.result c.index_mut.result.now c.set_named.new.self c.index_mut.ensures.value c.set_named.ensures c.remove.new.self
    ∙ ap (λ (v : Nodes). record v { names = names_of c.remove.new.self.entries }) c.self.view_is
