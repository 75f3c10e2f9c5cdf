use Rattle.std.proofs.Common.{◌≡◌, ℕ, ◌+◌, List, Some, IfSome, refl, sym, ap, subst, ◌∙◌, length, take, drop, arith}
use Rattle.std.specs.Prelude.{option_map}
use Rattle.std.proofs.lemmas.List.{length-take-le}
use Rattle.pl_model.specs.declared.node.Node.TheVariants as node
use Rattle.pl_model.specs.Map.{change_at}
use Rattle.pl_desc.specs.Rows.{at, count_at}
use Rattle.pl_desc.specs.Descs.{Opened, Descs}
use Rattle.pl_state.specs.KernelView.{view_of}
use Rattle.pl_state.specs.Contents.{contents, nodes_of}
use Rattle.pl_state.specs.Opens.{OpenOn}
use Rattle.pl_transfers.specs.Files.{ReadsFile}
use Rattle.pl_state.proofs.by_call.Begun.{file_there}
use Rattle.pl_transfers.proofs.by_call.Redescribing.{redescribed_sound}
use Rattle.pl_transfers.proofs.by_call.Filing.{say_file, read-fits}
use Rattle.pl_transfers.proofs.files.read_file_into.Given.{Over}
use Rattle.pl_transfers.proofs.files.read_file_into.Goals.{After-kernel}
use Rattle.pl_transfers.proofs.files.read_file_into.Goals as goal

-- the description, and its file
module _ (g : Over) (c : After-kernel g) where
  abbrev on : OpenOn (view_of c.kernel.inside) c.args.key (node.File c.args.file)
  on = subst (λ z. OpenOn z c.args.key (node.File c.args.file)) (sym c.kernel.view_is) c.requires

  abbrev held : (bytes : List ℕ) × (at c.kernel.inside.nodes.files c.args.file ≡ Some bytes)
  held = file_there (view_of c.kernel.inside) c.kernel.invariant.0.whole c.args.key c.args.file on

pub overflow_add-offset : goal.overflow_add-offset
overflow_add-offset g c =
    let s = (goal.at.overflow_add-offset g c).After-kernel in
    let held = held g s in
    let n = length c.args.into.now in
    let count = c.read_file_into-read.result in
    let read = take count c.read_file_into-read.new.into in
    let is : read ≡ take n (drop c.place_in_file.result held.0) = subst (λ o. IfSome o (λ bytes. read ≡ take n (drop c.place_in_file.result bytes))) held.1 c.read_file_into-read.ensures.bytes in
    let len : c.file_len-len.result ≡ length held.0 = subst (λ o. IfSome o (λ bytes. c.file_len-len.result ≡ length bytes)) held.1 c.file_len-len.ensures.value in
    let many = length-take-le count c.read_file_into-read.new.into c.read_file_into-read.ensures.most in
    let fits = read-fits c.place_in_file.result n held.0 read is (omega (arith, len, c.file_len-len.ensures.few)) c.place_in_file.type_inv in
    omega (arith, fits.1, many, c.place_in_file.ensures)

pub invariant_of-kernel : goal.invariant_of-kernel
invariant_of-kernel g c =
    let on = on g (goal.at.invariant_of-kernel g c).After-kernel in
    let k = view_of c.kernel.inside in (
      redescribed_sound k c.kernel.invariant.0 c.args.key on.opened on.here _ (λ x. refl) refl (view_of (record c.kernel.inside { descs = c.set_offset.new.self }))
          c.set_offset.ensures.opened (ap (λ (d : Descs). contents d (nodes_of c.kernel.inside.nodes) c.kernel.inside.parked c.kernel.inside.limits) c.set_offset.ensures.rest),
      record { tidy = c.set_offset.ensures.tidy; bounds = ap (λ (d : Descs). d.limits) c.set_offset.ensures.rest ∙ c.kernel.invariant.1.bounds; counted = λ q. ap (λ (d : Descs). count_at d.loose q) c.set_offset.ensures.rest ∙ c.kernel.invariant.1.counted q },
    )

pub returns-clause-done : goal.returns-clause-done
returns-clause-done g c =
    let s = (goal.at.returns-clause-done g c).After-kernel in
    let on = on g s in
    let held = held g s in
    let n = length c.args.into.now in
    let count = c.read_file_into-read.result in
    let read = take count c.read_file_into-read.new.into in
    let is : read ≡ take n (drop c.place_in_file.result held.0) = subst (λ o. IfSome o (λ bytes. read ≡ take n (drop c.place_in_file.result bytes))) held.1 c.read_file_into-read.ensures.bytes in
    let said : Some on.opened.offset ≡ Some c.offset-offset.result = sym (ap (option_map (λ (x : Opened). x.offset)) on.here) ∙ c.offset-offset.ensures in
    let offset : on.opened.offset ≡ c.offset-offset.result = cc in
    let place : on.opened.offset ≡ c.place_in_file.result = offset ∙ sym c.place_in_file.ensures in
    let k = view_of c.kernel.inside in
    let new = view_of (record c.kernel.inside { descs = c.set_offset.new.self }) in
    let len : count ≡ length read = sym (length-take-le count c.read_file_into-read.new.into c.read_file_into-read.ensures.most) in
    let moved : at new.opened ≡ change_at c.args.key (λ x. record x { offset = on.opened.offset + length read }) (at k.opened) =
    c.set_offset.ensures.opened ∙ ap (λ n. change_at c.args.key (λ (x : Opened). record x { offset = n }) (at k.opened)) (λ i. sym offset i + len i) in
    subst (λ z. ReadsFile z c.args.key c.args.file n read new) c.kernel.view_is (record {
      read = say_file k c.args.key c.args.file on.opened held.0 (λ o held. read ≡ take n (drop o.offset held)) on.here held.1 (is ∙ ap (λ z. take n (drop z held.0)) (sym place));
      opened = say_file k c.args.key c.args.file on.opened held.0 (λ o held. at new.opened ≡ change_at c.args.key (λ x. record x { offset = o.offset + length read }) (at k.opened)) on.here held.1 moved;
      rest = ap (λ (d : Descs). contents d (nodes_of c.kernel.inside.nodes) c.kernel.inside.parked c.kernel.inside.limits) c.set_offset.ensures.rest;
    })
