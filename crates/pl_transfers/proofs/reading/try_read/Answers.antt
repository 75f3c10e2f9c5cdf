use Rattle.std.proofs.Common.{◌≡◌, None, refl, sym, subst, w32}
use Rattle.std.proofs.lemmas.Int.{to_z-of_z}
use Rattle.std.proofs.lemmas.Bool.{eq-eqb}
use Rattle.pl_model.specs.declared.node.Node.TheVariants as node
use Rattle.pl_model.specs.Modes.{reads}
use Rattle.pl_model.specs.Begin.{open_for}
use Rattle.pl_state.specs.KernelView.{view_of}
use Rattle.pl_state.specs.Contents.{core_of}
use Rattle.pl_state.specs.Opens.{Opens}
use Rattle.pl_transfers.proofs.by_call.Reading.{read-closed, read-none}
use Rattle.pl_state.proofs.Known.{Caller, caller}
use Rattle.pl_transfers.proofs.reading.try_read.Given.{Over}
use Rattle.pl_transfers.proofs.reading.try_read.Goals.{In-Some}
use Rattle.pl_transfers.proofs.reading.try_read.Goals as goal

-- the process that calls, and what its descriptor names
module _ (g : Over) (c : In-Some g) where
  abbrev calls : Caller g.row.A.Denot
  calls = caller c.kernel.inside c.kernel.invariant c.args.kernel.now c.kernel.view_is c.args.pid c.requires

  opens : Opens (view_of c.kernel.inside) reads c.args.pid c.args.fd c.in-Some.open
  opens = subst (λ z. Opens z reads c.args.pid c.args.fd c.in-Some.open) (sym c.kernel.view_is) (subst (λ z. Opens c.args.kernel.now reads c.args.pid z c.in-Some.open) (to_z-of_z w32 c.args.fd c.ranges.fd) c.in-Some.ensures.some)

pub returns-in_default-clause-done : goal.returns-in_default-clause-done
returns-in_default-clause-done g c =
    let m = caller c.kernel.inside c.kernel.invariant c.args.kernel.now c.kernel.view_is c.args.pid c.requires in
    rw (← c.kernel.view_is) (read-closed m c.args.fd c.args.n (subst (λ z. open_for reads (core_of z) c.args.pid c.args.fd ≡ None) (sym c.kernel.view_is) (subst (λ z. open_for reads (core_of c.args.kernel.now) c.args.pid z ≡ None) (to_z-of_z w32 c.args.fd c.ranges.fd) c.in_default.ensures.none)), refl)

pub returns-then-n-eq0-clause-done : goal.returns-then-n-eq0-clause-done
returns-then-n-eq0-clause-done g c =
    let v = (goal.at.returns-then-n-eq0-clause-done g c).In-Some in
    rw (← c.kernel.view_is) (read-none (calls g v) c.args.fd c.args.n c.in-Some.open (opens g v) (eq-eqb c.args.n 0 c.if-n-eq0.true), refl)

pub try_read_pipe-requires-clause-opens : goal.try_read_pipe-requires-clause-opens
try_read_pipe-requires-clause-opens g c =
    subst (λ z. Opens c.args.kernel.now reads c.args.pid z (record { key = c.in-Some.open.key; node = node.Pipe c.in-Pipe.pipe; nonblock = c.in-Some.open.nonblock })) (sym (to_z-of_z w32 c.args.fd c.ranges.fd))
    (subst (λ z. Opens z reads c.args.pid c.args.fd (record { key = c.in-Some.open.key; node = node.Pipe c.in-Pipe.pipe; nonblock = c.in-Some.open.nonblock })) c.kernel.view_is
    (subst (λ n. Opens (view_of c.kernel.inside) reads c.args.pid c.args.fd (record { key = c.in-Some.open.key; node = n; nonblock = c.in-Some.open.nonblock })) c.in-Pipe.is (opens g (goal.at.try_read_pipe-requires-clause-opens g c).In-Some)))

pub returns-in-File-clause-done : goal.returns-in-File-clause-done
returns-in-File-clause-done g c =
    let v = (goal.at.returns-in-File-clause-done g c).In-Some in
    (refl, record { opens = subst (λ z. Opens z reads c.args.pid c.args.fd c.in-Some.open) c.kernel.view_is (opens g v); some = c.if-n-eq0.false; node = c.in-File.is })
