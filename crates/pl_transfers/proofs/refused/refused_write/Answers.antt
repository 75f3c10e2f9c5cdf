use Rattle.std.proofs.Common.{◌≡◌, ◌≤◌, ℕ, None, false, List, sym, subst, ◌∙◌, w32, length}
use Rattle.std.specs.Prelude.{◌==◌}
use Rattle.std.proofs.lemmas.Bool.{ne_eqb}
use Rattle.std.proofs.lemmas.Int.{to_z-of_z}
use Rattle.pl_model.specs.declared.node.Node.TheVariants as node
use Rattle.pl_model.specs.Modes.{writes}
use Rattle.pl_model.specs.Begin.{open_for}
use Rattle.pl_state.specs.KernelView.{view_of}
use Rattle.pl_state.specs.Contents.{Contents, core_of}
use Rattle.pl_state.specs.Opens.{OpenOn, Opens}
use Rattle.pl_transfers.specs.Files.{IsFull, place_of}
use Rattle.pl_state.proofs.by_call.Begun.{file_there}
use Rattle.pl_transfers.proofs.by_call.Writing.{write-closed}
use Rattle.pl_transfers.proofs.by_call.Filing.{say_file, not_past, write-file-wants, write-file-full}
use Rattle.pl_state.proofs.Known.{Caller, caller}
use Rattle.pl_transfers.proofs.refused.refused_write.Given.{Over}
use Rattle.pl_transfers.proofs.refused.refused_write.Goals.{In-Some}
use Rattle.pl_transfers.proofs.refused.refused_write.Goals as goal

-- the process that calls, and what its descriptor names
module _ (g : Over) (c : In-Some g) where
  abbrev k : Contents g.row.A.Denot
  k = view_of c.kernel.inside

  abbrev calls : Caller g.row.A.Denot
  calls = caller c.kernel.inside c.kernel.invariant c.args.kernel.now c.kernel.view_is c.args.pid c.requires.process

  opens : Opens k writes c.args.pid c.args.fd c.in-Some.open
  opens = subst (λ z. Opens z writes c.args.pid c.args.fd c.in-Some.open) (sym c.kernel.view_is) (subst (λ z. Opens c.args.kernel.now writes c.args.pid z c.in-Some.open) (to_z-of_z w32 c.args.fd c.ranges.fd) c.in-Some.ensures.some)

  some : (bytes : List ℕ) → length bytes ≡ c.args.count → (length bytes == 0) ≡ false
  some bytes many = ne_eqb (length bytes) 0 (λ none. c.requires.some (sym many ∙ none))

pub returns-in_default-clause-some : goal.returns-in_default-clause-some
returns-in_default-clause-some g c =
    let m = caller c.kernel.inside c.kernel.invariant c.args.kernel.now c.kernel.view_is c.args.pid c.requires.process in
    λ bytes many. rw (← c.kernel.view_is) (write-closed m c.args.fd bytes (subst (λ z. open_for writes (core_of z) c.args.pid c.args.fd ≡ None) (sym c.kernel.view_is) (subst (λ z. open_for writes (core_of c.args.kernel.now) c.args.pid z ≡ None) (to_z-of_z w32 c.args.fd c.ranges.fd) c.in_default.ensures.none)))

pub refused_by_pipe-requires-clause-opens : goal.refused_by_pipe-requires-clause-opens
refused_by_pipe-requires-clause-opens g c =
    subst (λ z. Opens c.args.kernel.now writes c.args.pid z (record { key = c.in-Some.open.key; node = node.Pipe c.in-Pipe.pipe; nonblock = c.in-Some.open.nonblock })) (sym (to_z-of_z w32 c.args.fd c.ranges.fd))
    (subst (λ z. Opens z writes c.args.pid c.args.fd (record { key = c.in-Some.open.key; node = node.Pipe c.in-Pipe.pipe; nonblock = c.in-Some.open.nonblock })) c.kernel.view_is
    (subst (λ n. Opens (view_of c.kernel.inside) writes c.args.pid c.args.fd (record { key = c.in-Some.open.key; node = n; nonblock = c.in-Some.open.nonblock })) c.in-Pipe.is (opens g (goal.at.refused_by_pipe-requires-clause-opens g c).In-Some)))

pub returns-then-is_full-clause-some : goal.returns-then-is_full-clause-some
returns-then-is_full-clause-some g c =
    let v = (goal.at.returns-then-is_full-clause-some g c).In-Some in
    let opens = opens g v in
    let on : OpenOn (k g v) c.in-Some.open.key (node.File c.in-File.file) = record { opened = opens.on.opened; here = opens.on.here; node = opens.on.node ∙ c.in-File.is } in
    let held = file_there (k g v) c.kernel.invariant.0.whole c.in-Some.open.key c.in-File.file on in
    let full = subst (λ z. IsFull z c.in-Some.open.key c.in-File.file) (sym c.kernel.view_is) (c.is_full.ensures.0 c.if-is_full.true) in
    λ bytes many. rw (← c.kernel.view_is) (write-file-full (calls g v) c.args.fd c.in-Some.open c.in-File.file c.in-File.is bytes opens (some g v bytes many) held.0 held.1 full)

pub returns-else-is_full-clause-none : goal.returns-else-is_full-clause-none
returns-else-is_full-clause-none g c =
    let v = (goal.at.returns-else-is_full-clause-none g c).In-Some in
    let opens = opens g v in
    let on : OpenOn (k g v) c.in-Some.open.key (node.File c.in-File.file) = record { opened = opens.on.opened; here = opens.on.here; node = opens.on.node ∙ c.in-File.is } in
    let held = file_there (k g v) c.kernel.invariant.0.whole c.in-Some.open.key c.in-File.file on in
    let below = not_past (k g v).limits.file_max (place_of opens.on.opened held.0)
    (λ past. let big = c.is_full.ensures.1 (subst (λ z. IsFull z c.in-Some.open.key c.in-File.file) c.kernel.view_is (say_file (k g v) c.in-Some.open.key c.in-File.file opens.on.opened held.0 (λ o h. (k g v).limits.file_max ≤ place_of o h) opens.on.here held.1 past)) in let no = c.if-is_full.false in absurd (cc)) in
    λ bytes many. rw (← c.kernel.view_is) (write-file-wants (calls g v) c.args.fd c.in-Some.open c.in-File.file c.in-File.is bytes opens (some g v bytes many) held.0 held.1 below)
