use Rattle.std.proofs.Common.{◌≡◌, ◌<◌, ◌^◌, IsSome, ap, sym, subst, ◌∙◌, arith}
use Rattle.pl_model.specs.Tables.{descriptor_limit}
use Rattle.pl_desc.specs.declared.limits.DescLimits.{DescLimits}
use Rattle.pl_desc.specs.Rows.{at, is_pid, row_at, rows_at, count_at, change_count, one_more}
use Rattle.pl_desc.specs.Descs.{Descs}
use Rattle.pl_state.specs.Contents.{Contents}
use Rattle.pl_state.specs.KernelView.{view_of}
use Rattle.pl_state.proofs.holders.Holding.{more_positive}
use Rattle.pl_state.proofs.waiting.ParkedCalls.{few_holds}
use Rattle.pl_state.proofs.Known.{Known, known}
use Rattle.pl_descriptors.proofs.by_call.Duplicating.{name-held, name-sound, name-settled, name-is}
use Rattle.pl_descriptors.proofs.descriptors.assign.Given.{Over}
use Rattle.pl_descriptors.proofs.descriptors.assign.Goals.{After-install}
use Rattle.pl_descriptors.proofs.descriptors.assign.Goals as goal

-- what is known as a free descriptor comes to name a description
module _ (g : Over) (c : After-install g) where
  abbrev m : Known g.row.A.Denot
  m = known c.kernel.inside c.kernel.invariant

  abbrev more : Descs
  more = c.hold.new.self

  more_loose : count_at more.loose ≡ change_count c.args.key one_more (count_at m.descs.loose)
  more_loose = c.hold.ensures.loose ∙ ap (λ (d : Descs). change_count c.args.key one_more (count_at d.loose)) c.reserve_row.ensures.kept

  more_rest : more ≡ record m.descs { loose = more.loose; room = more.room }
  more_rest =
      c.hold.ensures.rest ∙ (λ i. record (c.reserve_row.ensures.kept i) { loose = more.loose })
      ∙ (λ i. record m.descs { loose = more.loose; room = (sym c.hold.ensures.rest i).room })

pub reserve_row-requires-clause-process : goal.reserve_row-requires-clause-process
reserve_row-requires-clause-process g c = ap (λ (z : Contents g.row.A.Denot). is_pid z.tables c.args.pid) c.kernel.view_is ∙ c.requires.process

pub reserve_row-requires-clause-place : goal.reserve_row-requires-clause-place
reserve_row-requires-clause-place g c =
    let within = subst (λ (z : Contents g.row.A.Denot). c.args.fd < descriptor_limit z.limits) (sym c.kernel.view_is) c.requires.place in
    omega (arith, within, ap (λ (b : DescLimits). b.descriptors) c.kernel.invariant.1.bounds)

pub hold-requires-clause-here : goal.hold-requires-clause-here
hold-requires-clause-here g c = subst (λ (d : Descs). IsSome (at d.opened c.args.key)) (sym c.reserve_row.ensures.kept) (subst (λ (z : Contents g.row.A.Denot). IsSome (at z.opened c.args.key)) (sym c.kernel.view_is) c.requires.here)

pub hold-requires-clause-few : goal.hold-requires-clause-few
hold-requires-clause-few g c = subst (λ (d : Descs). count_at d.loose c.args.key < 2 ^ 100) (sym c.reserve_row.ensures.kept) (few_holds c.kernel.inside.descs (view_of c.kernel.inside) c.kernel.invariant.0 c.kernel.invariant.1 c.args.key)

pub install-requires-clause-process : goal.install-requires-clause-process
install-requires-clause-process g c =
    ap (λ (d : Descs). is_pid d.tables c.args.pid) c.hold.ensures.rest ∙ ap (λ (d : Descs). is_pid d.tables c.args.pid) c.reserve_row.ensures.kept
    ∙ ap (λ (z : Contents g.row.A.Denot). is_pid z.tables c.args.pid) c.kernel.view_is ∙ c.requires.process

pub install-requires-clause-free : goal.install-requires-clause-free
install-requires-clause-free g c =
    ap (λ (d : Descs). row_at d.tables c.args.pid c.args.fd) c.hold.ensures.rest ∙ ap (λ (d : Descs). row_at d.tables c.args.pid c.args.fd) c.reserve_row.ensures.kept
    ∙ ap (λ (z : Contents g.row.A.Denot). row_at z.tables c.args.pid c.args.fd) c.kernel.view_is ∙ c.requires.free

pub install-requires-clause-row : goal.install-requires-clause-row
install-requires-clause-row g c = subst (λ (d : Descs). c.args.fd < rows_at d.room.rows c.args.pid) (sym c.hold.ensures.rest) c.in_ok-reserve_row.ensures.row

pub install-requires-clause-held : goal.install-requires-clause-held
install-requires-clause-held g c = more_positive (count_at c.reserve_row.new.self.loose) (count_at c.hold.new.self.loose) c.args.key c.hold.ensures.loose

pub install-requires-clause-place : goal.install-requires-clause-place
install-requires-clause-place g c =
    let within = subst (λ (z : Contents g.row.A.Denot). c.args.fd < descriptor_limit z.limits) (sym c.kernel.view_is) c.requires.place in
    let limits = ap (λ (d : Descs). d.limits.descriptors) c.hold.ensures.rest ∙ ap (λ (d : Descs). d.limits.descriptors) c.reserve_row.ensures.kept in
    omega (arith, within, limits, ap (λ (b : DescLimits). b.descriptors) c.kernel.invariant.1.bounds)

pub invariant_of-kernel-2 : goal.invariant_of-kernel-2
invariant_of-kernel-2 g c =
    let v = (goal.at.invariant_of-kernel-2 g c).After-install in
    let m = m g v in
    let i = c.install.ensures in (
      name-sound m c.args.pid c.args.fd c.args.key c.hold.new.self (more_loose g v) (more_rest g v) c.install.new.self i.rows i.pids i.loose i.rest i.tidy,
      name-held m c.args.pid c.args.fd c.args.key c.hold.new.self (more_loose g v) (more_rest g v) c.install.new.self i.rows i.pids i.loose i.rest i.tidy,
    )

pub returns-clause-named : goal.returns-clause-named
returns-clause-named g c =
    let v = (goal.at.returns-clause-named g c).After-install in
    let i = c.install.ensures in
    rw (← c.kernel.view_is) (name-is (m g v) c.args.pid c.args.fd c.args.key c.hold.new.self (more_loose g v) (more_rest g v) c.install.new.self i.rows i.pids i.loose i.rest i.tidy)

pub returns-clause-settled : goal.returns-clause-settled
returns-clause-settled g c =
    let v = (goal.at.returns-clause-settled g c).After-install in
    let i = c.install.ensures in
    rw (← c.kernel.view_is) (name-settled (m g v) c.args.pid c.args.fd c.args.key c.hold.new.self (more_loose g v) (more_rest g v) c.install.new.self i.rows i.pids i.loose i.rest i.tidy)
