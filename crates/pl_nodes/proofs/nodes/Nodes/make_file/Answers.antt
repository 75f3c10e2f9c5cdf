use Rattle.std.proofs.Common.{◌≡◌, ◌∙◌, [], Some, true, refl, ap, subst, sym, nat_eq}
use Rattle.std.specs.Prelude.{Ok, Err}
use Rattle.std.specs.Ordering.{nat_cmp}
use Rattle.std.specs.Cmp.Lexicographic.{slice_cmp}
use Rattle.std.specs.Map.{lookup}
use Rattle.std.specs.BTreeMap.{insert_entry, is_at}
use Rattle.pl_model.specs.declared.node.Node.TheVariants.{File as FileNode}
use Rattle.pl_model.specs.Map.{set_at, put_in_order}
use Rattle.pl_segments.specs.Segments.{segment_at, at}
use Rattle.pl_segments.specs.Slices.{all_read}
use Rattle.slab.specs.Slab.{Slab}
use Rattle.pl_nodes.specs.declared.content.FileNode.{FileNode as KeptFile}
use Rattle.pl_nodes.specs.declared.content.Content.TheVariants.{File}
use Rattle.pl_nodes.specs.declared.fault.MakeFault.TheVariants.{Exists, NoMemory}
use Rattle.pl_nodes.specs.Nodes.{Nodes}
use Rattle.pl_nodes.specs.NodesView.{names_of, AreNamed}
use Rattle.pl_nodes.proofs.OneChanged.{pipes_seen, files_seen, seen, new-seen, new-unseen}
use Rattle.pl_nodes.proofs.Coming.{came-shared, came-sound, came-slots, vacant-seen}
use Rattle.pl_nodes.proofs.Names.{compares, insert-names, there, not-there}
use Rattle.pl_nodes.proofs.Named.{none-found, new-named}
use Rattle.pl_nodes.proofs.nodes.Nodes.make_file.Given.{Over}
use Rattle.pl_nodes.proofs.nodes.Nodes.make_file.Goals.{After-insert_reserved}
use Rattle.pl_nodes.proofs.nodes.Nodes.make_file.Goals as goal

-- there is a place more, and all is as it was
module _ (g : Over) (c : After-insert_reserved g) where
  same : c.reserve.new.self.slots ≡ c.self.inside.contents.slots
  same = ap (λ (s : Slab _). s.slots) c.in-Ok.ensures.rest_kept

pub returns-clause-vacant : goal.returns-clause-vacant
returns-clause-vacant g c = vacant-seen c.self.inside c.self.invariant c.reserve.new.self (same g c) c.insert_reserved.result c.insert_reserved.ensures.was_vacant c.args.self.now c.self.view_is

pub invariant_of-self-2 : goal.invariant_of-self-2
invariant_of-self-2 g c =
    let k = c.self.inside in
    let u = c.insert_reserved.ensures.updates in
    let file : KeptFile g.row.A.Denot = record { file = c.new.result; named = true } in
    let vacant = none-found (lookup (is_at (compares c.args.name.items)) k.names.entries) (sym c.contains_key.ensures ∙ c.if-contains_key.false) in
    let entries : c.insert.new.self.entries ≡ insert_entry (λ x y. slice_cmp nat_cmp x.items y.items) k.names.entries c.args.name (FileNode c.insert_reserved.result) =
    c.in-Ok-insert.ensures.entries ∙ ap (λ key. insert_entry (λ x y. slice_cmp nat_cmp x.items y.items) k.names.entries c.args.name (FileNode key)) (c.vacant_key-key.ensures.value ∙ sym c.insert_reserved.ensures.key) in
    let named = subst (λ cs. AreNamed k.names.entries cs) (sym (same g c)) c.self.invariant.named in
    came-sound k c.self.invariant c.reserve.new.self c.insert_reserved.new.self (same g c) c.insert_reserved.result (File file) c.insert_reserved.ensures.was_vacant c.new.ensures u
    c.insert.new.self (subst (λ es. AreNamed es c.insert_reserved.new.self.slots) (sym entries) (new-named k.names.entries c.args.name c.reserve.new.self.slots c.insert_reserved.new.self.slots (FileNode c.insert_reserved.result) (File file) vacant u.others c.insert_reserved.ensures.was_vacant u.changed refl named)) refl c.comes.new.self

pub returns-clause-ok : goal.returns-clause-ok
returns-clause-ok g c =
    let k = c.self.inside in
    let m = segment_at k.store in
    let new = File (record { file = c.new.result; named = true }) in
    let u = c.insert_reserved.ensures.updates in
    new-seen m c.reserve.new.self c.insert_reserved.new.self c.insert_reserved.result new
    c.insert_reserved.ensures.was_vacant (came-shared k c.self.invariant c.reserve.new.self c.insert_reserved.new.self (same g c) c.insert_reserved.result new c.insert_reserved.ensures.was_vacant c.new.ensures u) c.new.ensures u files_seen
    ∙ ap (λ xs. set_at nat_eq (seen files_seen m c.reserve.new.self.slots) c.insert_reserved.result (Some (all_read m xs))) c.new.ensures
    ∙ ap (λ cs. set_at nat_eq (seen files_seen m cs) c.insert_reserved.result (Some [])) (same g c)
    ∙ ap (λ (v : Nodes). set_at nat_eq (at v.files) c.insert_reserved.result (Some [])) c.self.view_is

pub returns-clause-pipes : goal.returns-clause-pipes
returns-clause-pipes g c =
    let k = c.self.inside in
    let m = segment_at k.store in
    let new = File (record { file = c.new.result; named = true }) in
    let u = c.insert_reserved.ensures.updates in
    new-unseen m c.reserve.new.self c.insert_reserved.new.self c.insert_reserved.result new
    c.insert_reserved.ensures.was_vacant (came-shared k c.self.invariant c.reserve.new.self c.insert_reserved.new.self (same g c) c.insert_reserved.result new c.insert_reserved.ensures.was_vacant c.new.ensures u) c.new.ensures u pipes_seen refl
    ∙ ap (λ cs. seen pipes_seen m cs) (same g c)
    ∙ ap (λ (v : Nodes). at v.pipes) c.self.view_is

pub returns-clause-slots : goal.returns-clause-slots
returns-clause-slots g c =
    came-slots c.self.inside c.self.invariant c.reserve.new.self c.insert_reserved.new.self (same g c) c.insert_reserved.result (File (record { file = c.new.result; named = true }))
    c.insert_reserved.ensures.was_vacant c.new.ensures c.insert_reserved.ensures.updates c.args.self.now c.self.view_is

pub returns-clause-names : goal.returns-clause-names
returns-clause-names g c =
    ap (λ es. names_of es) c.in-Ok-insert.ensures.entries
    ∙ insert-names c.self.inside.names.entries c.args.name (FileNode c.vacant_key-key.result)
    ∙ ap (λ (v : Nodes). put_in_order (slice_cmp nat_cmp) v.names c.args.name.items (FileNode c.vacant_key-key.result)) c.self.view_is
    ∙ ap (λ key. put_in_order (slice_cmp nat_cmp) c.args.self.now.names c.args.name.items (FileNode key)) (c.vacant_key-key.ensures.value ∙ sym c.insert_reserved.ensures.key)

pub returns-then-contains_key-clause-exists : goal.returns-then-contains_key-clause-exists
returns-then-contains_key-clause-exists g c = there c.self.inside c.args.self.now c.self.view_is c.args.name.items c.contains_key.result c.contains_key.ensures c.if-contains_key.true (Err Exists) Exists refl

pub returns-in_default-clause-exists : goal.returns-in_default-clause-exists
returns-in_default-clause-exists g c =
    not-there c.self.inside c.args.self.now c.self.view_is c.args.name.items c.contains_key.result c.contains_key.ensures c.if-contains_key.false (Err NoMemory) Exists (λ e. cc)

pub returns-in_default-insert-clause-exists : goal.returns-in_default-insert-clause-exists
returns-in_default-insert-clause-exists g c =
    not-there c.self.inside c.args.self.now c.self.view_is c.args.name.items c.contains_key.result c.contains_key.ensures c.if-contains_key.false (Err NoMemory) Exists (λ e. cc)

pub returns-clause-exists : goal.returns-clause-exists
returns-clause-exists g c =
    not-there c.self.inside c.args.self.now c.self.view_is c.args.name.items c.contains_key.result c.contains_key.ensures c.if-contains_key.false (Ok c.insert_reserved.result) Exists (λ e. cc)
