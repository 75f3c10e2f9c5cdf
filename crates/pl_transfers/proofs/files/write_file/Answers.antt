use Rattle.std.proofs.Common.{◌≡◌, ◌≤◌, ℕ, ◌+◌, ◌-◌, List, Some, inl, inr, refl, sym, ap, subst, ◌∙◌, length, take, arith}
use Rattle.std.proofs.Math.Path.{fun_ext}
use Rattle.std.proofs.lemmas.Bool.Decides.{leb_tells}
use Rattle.std.proofs.lemmas.List.{length-take}
use Rattle.pl_model.specs.declared.node.Node.TheVariants as node
use Rattle.pl_model.specs.Map.{change_at}
use Rattle.pl_model.specs.Transfer.{put_bytes}
use Rattle.pl_desc.specs.Rows.{at, count_at}
use Rattle.pl_desc.specs.Descs.{Opened, Descs}
use Rattle.pl_file.specs.File.{written}
use Rattle.pl_nodes.specs.declared.nodes.NodeLimits.{NodeLimits}
use Rattle.pl_nodes.specs.Nodes.{memory_of}
use Rattle.pl_state.specs.KernelView.{view_of}
use Rattle.pl_state.specs.Contents.{Contents, contents}
use Rattle.pl_state.specs.Opens.{OpenOn}
use Rattle.pl_transfers.specs.Files.{OfFile, WritesFile, place_of}
use Rattle.pl_state.proofs.by_call.Begun.{file_there}
use Rattle.pl_transfers.proofs.by_call.Redescribing.{rewritten_sound}
use Rattle.pl_transfers.proofs.by_call.Filing.{of_file, say_file, written-is}
use Rattle.pl_transfers.proofs.files.write_file.Given.{Over}
use Rattle.pl_transfers.proofs.files.write_file.Goals.{After-kernel, After-set_offset}
use Rattle.pl_transfers.proofs.files.write_file.Goals as goal

-- the description, and its file
module _ (g : Over) (c : After-kernel g) where
  abbrev on : OpenOn (view_of c.kernel.inside) c.args.key (node.File c.args.file)
  on = subst (λ z. OpenOn z c.args.key (node.File c.args.file)) (sym c.kernel.view_is) c.requires.on

  abbrev held : (bytes : List ℕ) × (at c.kernel.inside.nodes.files c.args.file ≡ Some bytes)
  held = file_there (view_of c.kernel.inside) c.kernel.invariant.0.whole c.args.key c.args.file on

-- where the write begins
module _ (g : Over) (c : After-set_offset g) where
  abbrev at_first : After-kernel g
  at_first = (goal.at.invariant_of-kernel-2 g c).After-kernel

  place_is : c.place_to_write-place.result ≡ place_of (on g at_first).opened (held g at_first).0
  place_is =
      of_file (view_of c.kernel.inside) c.args.key c.args.file (on g at_first).opened (held g at_first).0 (λ o held. c.place_to_write-place.result ≡ place_of o held) (on g at_first).here (held g at_first).1
      (subst (λ z. OfFile z c.args.key c.args.file (λ o held. c.place_to_write-place.result ≡ place_of o held)) (sym c.kernel.view_is) c.place_to_write-place.ensures)

  -- what goes in
  abbrev fits : List ℕ
  fits = take (c.kernel.inside.limits.file_max - c.place_to_write-place.result) c.args.bytes.now

  limit : c.kernel.inside.nodes.limits.file_max ≡ c.kernel.inside.limits.file_max
  limit = ap (λ (l : NodeLimits). l.file_max) c.kernel.invariant.0.whole.limit

  below : c.kernel.inside.limits.file_max ≤ c.place_to_write-place.result → ⊥
  below past = (let big = c.in_ok-count.ensures.big.1 (c.requires.some, subst (λ n. n ≤ c.place_to_write-place.result) (sym limit) past) in absurd (cc))

  some : 1 ≤ length fits
  some = let long = length-take (c.kernel.inside.limits.file_max - c.place_to_write-place.result) c.args.bytes.now in elim (leb_tells c.kernel.inside.limits.file_max c.place_to_write-place.result) as (λ _. 1 ≤ length fits) [
    | inl t ↦ absurd (below t.1)
    | inr t ↦ (let l = t.1 in omega (arith, l, long, c.requires.some))
  ]

  put : at c.write_file.new.self.files ≡ change_at c.args.file (λ b. put_bytes b c.place_to_write-place.result fits) (at c.kernel.inside.nodes.files)
  put =
      c.in_ok-count.ensures.ok
      ∙ ap (λ n. change_at c.args.file (written c.place_to_write-place.result (take (n - c.place_to_write-place.result) c.args.bytes.now)) (at c.kernel.inside.nodes.files)) limit
      ∙ ap (λ h. change_at c.args.file h (at c.kernel.inside.nodes.files)) (fun_ext (λ b. written-is c.place_to_write-place.result fits b some))

  abbrev after : Contents g.row.A.Denot
  after = view_of (record c.kernel.inside { descs = c.set_offset.new.self; nodes = c.write_file.new.self })

  rest : after ≡ record (view_of c.kernel.inside) { opened = after.opened; nodes = record (view_of c.kernel.inside).nodes { files = after.nodes.files; memory = after.nodes.memory } }
  rest = (λ i. contents (c.set_offset.ensures.rest i) (record { pipes = c.in_ok-count.ensures.pipes.pipes i; files = c.write_file.new.self.files; names = c.in_ok-count.ensures.pipes.names i; limits = c.in_ok-count.ensures.pipes.limits i; memory = memory_of c.write_file.new.self }) c.kernel.inside.parked c.kernel.inside.limits)

pub invariant_of-kernel-2 : goal.invariant_of-kernel-2
invariant_of-kernel-2 g c =
    let s = at_first g c in (
      rewritten_sound (view_of c.kernel.inside) c.kernel.invariant.0 c.args.key (on g s).opened (on g s).here _ (λ x. refl) refl (after g c) c.set_offset.ensures.opened
          c.args.file (held g s).0 (held g s).1 (λ b. put_bytes b c.place_to_write-place.result (fits g c)) (put g c) (rest g c),
      record { tidy = c.set_offset.ensures.tidy; bounds = ap (λ (d : Descs). d.limits) c.set_offset.ensures.rest ∙ c.kernel.invariant.1.bounds; counted = λ q. ap (λ (d : Descs). count_at d.loose q) c.set_offset.ensures.rest ∙ c.kernel.invariant.1.counted q },
    )

pub returns-clause-done : goal.returns-clause-done
returns-clause-done g c =
    let s = at_first g c in
    let k = view_of c.kernel.inside in
    let o = (on g s).opened in
    let begins = place_is g c in
    let long = length-take (c.kernel.inside.limits.file_max - c.place_to_write-place.result) c.args.bytes.now in
    let many : c.in_ok-count.count ≡ length (take (c.kernel.inside.limits.file_max - c.place_to_write-place.result) c.args.bytes.now) = omega (arith, long, c.in_ok-count.ensures.count, limit g c) in
    subst (λ z. WritesFile z c.args.key c.args.file c.args.bytes.now c.in_ok-count.count (after g c)) c.kernel.view_is (record {
      wrote = say_file k c.args.key c.args.file o (held g s).0 (λ o held. c.in_ok-count.count ≡ length (take (k.limits.file_max - place_of o held) c.args.bytes.now)) (on g s).here (held g s).1
          (subst (λ n. c.in_ok-count.count ≡ length (take (k.limits.file_max - n) c.args.bytes.now)) begins many);
      files = say_file k c.args.key c.args.file o (held g s).0 (λ o held. at (after g c).nodes.files ≡ change_at c.args.file (λ b. put_bytes b (place_of o held) (take (k.limits.file_max - place_of o held) c.args.bytes.now)) (at k.nodes.files)) (on g s).here (held g s).1
          (subst (λ n. at (after g c).nodes.files ≡ change_at c.args.file (λ b. put_bytes b n (take (k.limits.file_max - n) c.args.bytes.now)) (at k.nodes.files)) begins (put g c));
      opened = say_file k c.args.key c.args.file o (held g s).0 (λ o held. at (after g c).opened ≡ change_at c.args.key (λ x. record x { offset = place_of o held + c.in_ok-count.count }) (at k.opened)) (on g s).here (held g s).1
          (subst (λ n. at (after g c).opened ≡ change_at c.args.key (λ (x : Opened). record x { offset = n + c.in_ok-count.count }) (at k.opened)) begins c.set_offset.ensures.opened);
      rest = rest g c;
    })
