use Rattle.std.proofs.Common.{◌≡◌, ℕ, List, Some, sym, ap, subst, ◌∙◌, refl, w64}
use Rattle.std.specs.Prelude.{option_map}
use Rattle.std.proofs.lemmas.Int.{to_z-of_z}
use Rattle.pl_model.specs.declared.node.Node.TheVariants as node
use Rattle.pl_desc.specs.Rows.{at, row_of, count_at}
use Rattle.pl_desc.specs.Descs.{Opened, Descs}
use Rattle.pl_decisions.specs.Offsets.{offset_sought}
use Rattle.pl_state.specs.Contents.{Contents, contents}
use Rattle.pl_state.specs.KernelView.{view_of}
use Rattle.pl_transfers.specs.Files.{OfFile, base_of}
use Rattle.pl_state.proofs.by_call.Begun.{file_there}
use Rattle.pl_state.proofs.by_call.Closing.{row_found, open_here}
use Rattle.pl_transfers.proofs.by_call.Filing.{of_file}
use Rattle.pl_transfers.proofs.by_call.Redescribing.{redescribed_sound}
use Rattle.pl_transfers.proofs.by_call.Seeking.{seek-closed, seek-pipe, seek-fault, seek-made}
use Rattle.pl_state.proofs.Known.{Caller, caller}
use Rattle.pl_transfers.proofs.offsets.lseek.Given.{Over}
use Rattle.pl_transfers.proofs.offsets.lseek.Goals.{After-find, After-node, After-sought, After-set_offset}
use Rattle.pl_transfers.proofs.offsets.lseek.Goals as goal

-- the process that calls, and what its descriptor names
module _ (g : Over) (c : After-find g) where
  abbrev calls : Caller g.row.A.Denot
  calls = caller c.kernel.inside c.kernel.invariant c.args.kernel.now c.kernel.view_is c.args.pid c.requires

  named : row_of calls.descs.tables c.args.pid c.args.fd ≡ c.find.result
  named = row_found calls.descs.tables c.args.pid c.args.fd c.ranges.fd c.find.result c.find.ensures

-- the description that it names
module _ (g : Over) (c : After-node g) where
  abbrev found : After-find g
  found = c.before.before

  row : row_of c.kernel.inside.descs.tables c.args.pid c.args.fd ≡ Some c.in-Some.key
  row = named g found ∙ c.in-Some.is

  here : (o : Opened) × (at c.kernel.inside.descs.opened c.in-Some.key ≡ Some o)
  here = open_here (calls g found).kernel c.args.pid c.args.fd c.in-Some.key row

  on : here.0.node ≡ c.node.result
  on = let told : Some here.0.node ≡ Some c.node.result = sym (ap (option_map (λ (x : Opened). x.node)) here.1) ∙ c.node.ensures in cc

-- the file that it is on, and where the seek leads
module _ (g : Over) (c : After-sought g) where
  abbrev noded : After-node g
  noded = c.before.before.before

  on_file : (here g noded).0.node ≡ node.File c.in-File.file
  on_file = on g noded ∙ c.in-File.is

  held : (bytes : List ℕ) × (at c.kernel.inside.nodes.files c.in-File.file ≡ Some bytes)
  held = file_there (view_of c.kernel.inside) c.kernel.invariant.0.whole c.in-Some.key c.in-File.file (record { opened = (here g noded).0; here = (here g noded).1; node = on_file })

  place : offset_sought (base_of (here g noded).0 held.0 c.args.whence) c.args.offset ≡ c.sought.result
  place =
      let base : c.base_of.result ≡ base_of (here g noded).0 held.0 c.args.whence =
      of_file (view_of c.kernel.inside) c.in-Some.key c.in-File.file (here g noded).0 held.0 (λ o bytes. c.base_of.result ≡ base_of o bytes c.args.whence) (here g noded).1 held.1
      (subst (λ (k : Contents g.row.A.Denot). OfFile k c.in-Some.key c.in-File.file (λ o bytes. c.base_of.result ≡ base_of o bytes c.args.whence)) (sym c.kernel.view_is) c.base_of.ensures) in
      sym (c.sought.ensures ∙ (λ i. offset_sought (base i) (to_z-of_z w64 c.args.offset c.ranges.offset i)))

pub returns-in_default : goal.returns-in_default
returns-in_default g c =
    let w = (goal.at.returns-in_default g c).After-find in
    rw (← c.kernel.view_is) (seek-closed (calls g w) c.args.fd c.args.offset c.args.whence (named g w ∙ c.in_default.is))

pub returns-in_default-node : goal.returns-in_default-node
returns-in_default-node g c =
    let w = (goal.at.returns-in_default-node g c).After-node in
    let o = here g w in
    rw (← c.kernel.view_is) (seek-pipe (calls g (found g w)) c.args.fd c.args.offset c.args.whence c.in-Some.key (row g w) o.0 o.1 c.in_default-node.field-0 (on g w ∙ c.in_default-node.is))

pub invariant_of-kernel : goal.invariant_of-kernel
invariant_of-kernel g c =
    let w = (goal.at.invariant_of-kernel g c).After-node in
    let m = calls g (found g w) in
    let o = here g w in
    let rest = c.set_offset.ensures.rest in (
      redescribed_sound (view_of c.kernel.inside) m.sound c.in-Some.key o.0 o.1 (λ (x : Opened). record x { offset = c.in-Ok.place }) (λ x. refl) refl
          (contents c.set_offset.new.self m.nodes m.calls m.limits) c.set_offset.ensures.opened (ap (λ (z : Descs). contents z m.nodes m.calls m.limits) rest),
      record { tidy = c.set_offset.ensures.tidy; bounds = ap (λ (z : Descs). z.limits) rest ∙ m.are.bounds; counted = λ q. ap (λ (z : Descs). count_at z.loose q) rest ∙ m.are.counted q },
    )

pub returns-in-Ok : goal.returns-in-Ok
returns-in-Ok g c =
    let v = (goal.at.returns-in-Ok g c).After-sought in
    let w = noded g v in
    let m = calls g (found g w) in
    let o = here g w in
    rw (← c.kernel.view_is) (seek-made m c.args.fd c.args.offset c.args.whence c.in-Some.key (row g w) o.0 o.1 c.in-File.file (on_file g v) (held g v).0 (held g v).1 c.in-Ok.place (place g v ∙ c.in-Ok.is)
    (contents c.set_offset.new.self m.nodes m.calls m.limits) c.set_offset.ensures.opened (ap (λ (z : Descs). contents z m.nodes m.calls m.limits) c.set_offset.ensures.rest))

pub returns-in-Err : goal.returns-in-Err
returns-in-Err g c =
    let v = (goal.at.returns-in-Err g c).After-sought in
    let w = noded g v in
    let o = here g w in
    rw (← c.kernel.view_is) (seek-fault (calls g (found g w)) c.args.fd c.args.offset c.args.whence c.in-Some.key (row g w) o.0 o.1 c.in-File.file (on_file g v) (held g v).0 (held g v).1 c.in-Err.errno (place g v ∙ c.in-Err.is))
