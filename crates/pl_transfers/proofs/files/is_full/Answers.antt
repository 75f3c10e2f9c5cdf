use Rattle.std.proofs.Common.{◌≡◌, ◌≤◌, ℕ, sym, subst}
use Rattle.std.proofs.lemmas.Bool.{leb-true, le-leb}
use Rattle.pl_model.specs.declared.node.Node.TheVariants as node
use Rattle.pl_state.specs.KernelView.{view_of}
use Rattle.pl_state.specs.Contents.{Contents}
use Rattle.pl_state.specs.Opens.{OpenOn}
use Rattle.pl_transfers.specs.Files.{OfFile, place_of}
use Rattle.pl_state.proofs.by_call.Begun.{file_there}
use Rattle.pl_transfers.proofs.by_call.Filing.{of_file, say_file}
use Rattle.pl_transfers.proofs.files.is_full.Goals as goal

pub returns : goal.returns
returns g c =
    let k : Contents g.row.A.Denot = view_of c.kernel.inside in
    let on : OpenOn (view_of c.kernel.inside) c.args.key (node.File c.args.file) = subst (λ z. OpenOn z c.args.key (node.File c.args.file)) (sym c.kernel.view_is) c.requires in
    let held = file_there (view_of c.kernel.inside) c.kernel.invariant.0.whole c.args.key c.args.file on in
    let begins : c.place_to_write.result ≡ place_of on.opened held.0 =
    of_file (view_of c.kernel.inside) c.args.key c.args.file on.opened held.0 (λ o held. c.place_to_write.result ≡ place_of o held) on.here held.1
    (subst (λ z. OfFile z c.args.key c.args.file (λ o held. c.place_to_write.result ≡ place_of o held)) (sym c.kernel.view_is) c.place_to_write.ensures) in
    let Past : ℕ → Type 0 = λ n. c.kernel.inside.limits.file_max ≤ n in
    rw (← c.kernel.view_is) (
      λ past. say_file (view_of c.kernel.inside) c.args.key c.args.file on.opened held.0 (λ o held. c.kernel.inside.limits.file_max ≤ place_of o held) on.here held.1 (subst Past begins (leb-true c.kernel.inside.limits.file_max c.place_to_write.result past)),
      λ full. le-leb c.kernel.inside.limits.file_max c.place_to_write.result (subst Past (sym begins) (of_file (view_of c.kernel.inside) c.args.key c.args.file on.opened held.0 (λ o held. c.kernel.inside.limits.file_max ≤ place_of o held) on.here held.1 full)),
    )
