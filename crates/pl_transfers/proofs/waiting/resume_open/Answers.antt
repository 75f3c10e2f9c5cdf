use Rattle.std.proofs.Common.{◌≡◌, Some, sym, ap, subst, ◌∙◌, ℕ, ◌<◌, ◌≤◌, arith}
use Rattle.std.specs.Prelude.{pos}
use Rattle.pl_model.specs.declared.calls.Step.TheVariants.{Resume}
use Rattle.pl_model.specs.declared.replies.Reply.TheVariants.{Fd}
use Rattle.pl_model.specs.Settle.{settle}
use Rattle.pl_model.specs.Step.{without_call}
use Rattle.pl_parked.specs.Calls.{Calls}
use Rattle.pl_desc.specs.Rows.{is_pid, row_at, with_row, count_at, change_count, one_less}
use Rattle.pl_desc.specs.Descs.{Descs}
use Rattle.pl_nodes.proofs.Keyed.{on_err}
use Rattle.pl_state.specs.Contents.{contents, core_of, nodes_of}
use Rattle.pl_state.specs.KernelView.{view_of}
use Rattle.pl_state.specs.Makes.{MakesAtKeys}
use Rattle.pl_state.specs.Parking.{OpenWaits}
use Rattle.pl_state.specs.Sound.{IsSound, AreCounted}
use Rattle.pl_state.proofs.Known.{Known, known}
use Rattle.pl_state.proofs.by_call.Piping.{lowest_found, fits_place, to_z_place}
use Rattle.pl_transfers.proofs.by_call.OpensAgain.{open-waits, open-many, open-sound, open-held, open-made, open-wants, held}
use Rattle.pl_transfers.proofs.waiting.resume_open.Given.{Over}
use Rattle.pl_transfers.proofs.waiting.resume_open.Goals.{After-kernel}
use Rattle.pl_transfers.proofs.waiting.resume_open.Goals as goal
use Rattle.pl_model.specs.Numbers.{most_descriptors}

small : (fd most : ℕ) → most ≤ most_descriptors → fd < most → fd < most_descriptors
small fd most few l = omega (arith, few, l)

-- the open that waits
module _ (g : Over) (c : After-kernel g) where
  abbrev m : Known g.row.A.Denot
  m = known c.kernel.inside c.kernel.invariant

  waits : OpenWaits (view_of c.kernel.inside) c.args.number c.args.pid c.args.key c.args.met
  waits = subst (λ z. OpenWaits z c.args.number c.args.pid c.args.key c.args.met) (sym c.kernel.view_is) c.requires

pub returns-then-not-met-clause-done : goal.returns-then-not-met-clause-done
returns-then-not-met-clause-done g c =
    let v = (goal.at.returns-then-not-met-clause-done g c).After-kernel in
    rw (← c.kernel.view_is) (open-waits (m g v) c.args.number c.args.pid c.args.key c.args.met (waits g v) c.if-not-met.true)

pub returns-in_default-clause-done : goal.returns-in_default-clause-done
returns-in_default-clause-done g c =
    let v = (goal.at.returns-in_default-clause-done g c).After-kernel in
    let new = c.end_call.new.kernel in
    let ended = subst (λ z. core_of new ≡ settle (core_of z) (without_call (core_of z) c.args.number)) (sym c.kernel.view_is) c.end_call.ensures.settled in
    rw (← c.kernel.view_is) (open-many (m g v) c.args.number c.args.pid c.args.key c.args.met (waits g v) c.if-not-met.false (sym c.lowest.ensures ∙ c.in_default.is) new ended)

pub install-requires-clause-place : goal.install-requires-clause-place
install-requires-clause-place g c = subst (λ (z : Descs). c.in-Some.fd < z.limits.descriptors) (sym c.reserve_row.ensures.kept) (lowest_found c.kernel.inside.descs.tables c.kernel.inside.descs.limits.descriptors c.args.pid 0 c.in-Some.fd (sym c.lowest.ensures ∙ c.in-Some.is)).1

pub reserve_row-requires-clause-place : goal.reserve_row-requires-clause-place
reserve_row-requires-clause-place g c = (lowest_found c.kernel.inside.descs.tables c.kernel.inside.descs.limits.descriptors c.args.pid 0 c.in-Some.fd (sym c.lowest.ensures ∙ c.in-Some.is)).1

pub returns-in_err-reserve_row-clause-wanted : goal.returns-in_err-reserve_row-clause-wanted
returns-in_err-reserve_row-clause-wanted g c =
    let v = (goal.at.returns-in_err-reserve_row-clause-wanted g c).After-kernel in
    on_err c.from_residual.result _ (rw (← c.kernel.view_is) (open-wants (m g v) c.args.number c.args.pid c.args.key c.args.met (waits g v) c.if-not-met.false c.in-Some.fd (sym c.lowest.ensures ∙ c.in-Some.is)))

pub install-requires-clause-free : goal.install-requires-clause-free
install-requires-clause-free g c = ap (λ (z : Descs). row_at z.tables c.args.pid c.in-Some.fd) c.reserve_row.ensures.kept ∙ (lowest_found c.kernel.inside.descs.tables c.kernel.inside.descs.limits.descriptors c.args.pid 0 c.in-Some.fd (sym c.lowest.ensures ∙ c.in-Some.is)).0

pub install-requires-clause-held : goal.install-requires-clause-held
install-requires-clause-held g c =
    let v = (goal.at.install-requires-clause-held g c).After-kernel in
    subst (λ (z : Descs). 0 < count_at z.loose c.args.key) (sym c.reserve_row.ensures.kept) (held (m g v) c.args.number c.args.pid c.args.key c.args.met (waits g v))

pub overflow_cast-result : goal.overflow_cast-result
overflow_cast-result g c = fits_place c.in-Some.fd (small c.in-Some.fd c.kernel.inside.descs.limits.descriptors c.kernel.invariant.1.tidy.limited.descriptors (lowest_found c.kernel.inside.descs.tables c.kernel.inside.descs.limits.descriptors c.args.pid 0 c.in-Some.fd (sym c.lowest.ensures ∙ c.in-Some.is)).1)

pub invariant_of-kernel-2 : goal.invariant_of-kernel-2
invariant_of-kernel-2 g c =
    let v = (goal.at.invariant_of-kernel-2 g c).After-kernel in
    let i = c.install.ensures in
    let kept = c.reserve_row.ensures.kept in
    let n = c.args.number in
    let at_call = waits g v in
    subst (λ (z : Calls g.row.A.Denot). (IsSound g.row.A.Denot (contents c.install.new.self (nodes_of c.kernel.inside.nodes) z c.kernel.inside.limits)) × (AreCounted g.row.A.Denot c.kernel.inside.limits c.install.new.self z.calls)) (sym c.take.ensures.rest) (
      open-sound (m g v) n c.args.pid c.args.key c.args.met at_call c.if-not-met.false c.in-Some.fd (sym c.lowest.ensures ∙ c.in-Some.is) c.install.new.self (i.pids ∙ ap (λ (z : Descs). is_pid z.tables) kept) (i.rows ∙ ap (λ (z : Descs). with_row (row_at z.tables) c.args.pid c.in-Some.fd (Some c.args.key)) kept) (ap (λ (z : Descs). z.opened) i.rest ∙ ap (λ (z : Descs). z.opened) kept) (ap (λ (z : Descs). z.limits) i.rest ∙ ap (λ (z : Descs). z.limits) kept) (i.loose ∙ ap (λ (z : Descs). change_count c.args.key one_less (count_at z.loose)) kept) i.tidy,
      open-held (m g v) n c.args.pid c.args.key c.args.met at_call c.if-not-met.false c.in-Some.fd (sym c.lowest.ensures ∙ c.in-Some.is) c.install.new.self (i.pids ∙ ap (λ (z : Descs). is_pid z.tables) kept) (i.rows ∙ ap (λ (z : Descs). with_row (row_at z.tables) c.args.pid c.in-Some.fd (Some c.args.key)) kept) (ap (λ (z : Descs). z.opened) i.rest ∙ ap (λ (z : Descs). z.opened) kept) (ap (λ (z : Descs). z.limits) i.rest ∙ ap (λ (z : Descs). z.limits) kept) (i.loose ∙ ap (λ (z : Descs). change_count c.args.key one_less (count_at z.loose)) kept) i.tidy,
    )

pub returns-clause-done : goal.returns-clause-done
returns-clause-done g c =
    let v = (goal.at.returns-clause-done g c).After-kernel in
    let i = c.install.ensures in
    let kept = c.reserve_row.ensures.kept in
    let n = c.args.number in
    let fd = c.in-Some.fd in
    let least = sym c.lowest.ensures ∙ c.in-Some.is in
    rw (← c.kernel.view_is, to_z_place fd (small fd c.kernel.inside.descs.limits.descriptors c.kernel.invariant.1.tidy.limited.descriptors (lowest_found c.kernel.inside.descs.tables c.kernel.inside.descs.limits.descriptors c.args.pid 0 fd least).1))
    (subst (λ (z : Calls g.row.A.Denot). MakesAtKeys (view_of c.kernel.inside) (Resume n) (Fd (pos fd)) (contents c.install.new.self (nodes_of c.kernel.inside.nodes) z c.kernel.inside.limits)) (sym c.take.ensures.rest)
    (open-made (m g v) n c.args.pid c.args.key c.args.met (waits g v) c.if-not-met.false fd least c.install.new.self (i.pids ∙ ap (λ (z : Descs). is_pid z.tables) kept) (i.rows ∙ ap (λ (z : Descs). with_row (row_at z.tables) c.args.pid c.in-Some.fd (Some c.args.key)) kept) (ap (λ (z : Descs). z.opened) i.rest ∙ ap (λ (z : Descs). z.opened) kept) (ap (λ (z : Descs). z.limits) i.rest ∙ ap (λ (z : Descs). z.limits) kept) (i.loose ∙ ap (λ (z : Descs). change_count c.args.key one_less (count_at z.loose)) kept) i.tidy))
