use Rattle.std.proofs.Common.{◌<◌, IsSome, sym, ap, subst, ◌∙◌, arith}
use Rattle.pl_model.specs.Tables.{install, descriptor_limit}
use Rattle.pl_model.specs.Settle.{settle}
use Rattle.pl_desc.specs.declared.limits.DescLimits.{DescLimits}
use Rattle.pl_desc.specs.Rows.{at, is_pid, row_at, count_at}
use Rattle.pl_desc.specs.Descs.{Descs}
use Rattle.pl_state.specs.KernelView.{view_of}
use Rattle.pl_state.specs.Contents.{Contents, nodes_of, core_of}
use Rattle.pl_state.specs.LastHold.{Releases}
use Rattle.pl_state.specs.Sound.{WaitOnNodes}
use Rattle.pl_state.proofs.Known.{Known, known, parts_of}
use Rattle.pl_state.proofs.holders.Belonging.{belong-same}
use Rattle.pl_state.proofs.holders.GivenUp.{GivesUp, may_release, given, given_whole, given_held}
use Rattle.pl_state.proofs.holders.Holding.{more_positive}
use Rattle.pl_state.proofs.holders.OnNodes.{wait-released}
use Rattle.pl_state.proofs.waiting.ParkedCalls.{few_holds}
use Rattle.pl_descriptors.proofs.by_call.Replacing.{replace-gives}
use Rattle.pl_descriptors.proofs.descriptors.replace.Given.{Over}
use Rattle.pl_descriptors.proofs.descriptors.replace.Goals.{After-replace-named, After-release}
use Rattle.pl_descriptors.proofs.descriptors.replace.Goals as goal

-- the descriptor names another description, and has a loose hold of the one that it named
module _ (g : Over) (c : After-replace-named g) where
  abbrev m : Known g.row.A.Denot
  m = known c.kernel.inside c.kernel.invariant

  gives : GivesUp (parts_of m) (install (core_of (view_of c.kernel.inside)) c.args.pid c.args.fd c.args.key) c.replace-named.result c.replace-named.new.self c.kernel.inside.parked
  gives =
      let r = c.replace-named.ensures in
      replace-gives m c.args.pid c.args.fd c.args.key c.replace-named.result
      (subst (λ (z : Contents g.row.A.Denot). IsSome (at z.opened c.args.key)) (sym c.kernel.view_is) c.requires.here)
      c.hold.new.self c.hold.ensures.loose c.hold.ensures.rest c.replace-named.new.self r.rows r.pids r.loose r.holders r.rest r.tidy

-- the hold is given up
released : (g : Over) (c : After-release g) → Releases c.replace-named.new.self c.release.new.descs (nodes_of c.kernel.inside.nodes) (nodes_of c.release.new.nodes) c.replace-named.result
released g c = record { opened = c.release.ensures.opened; loose = c.release.ensures.loose; tables = c.release.ensures.tables; limits = c.release.ensures.limits; tidy = c.release.ensures.tidy; shrinks = c.release.ensures.shrinks; stays = λ last. ap nodes_of (c.release.ensures.stays last); leaves = c.release.ensures.leaves }

pub hold-requires-clause-here : goal.hold-requires-clause-here
hold-requires-clause-here g c = subst (λ (z : Contents g.row.A.Denot). IsSome (at z.opened c.args.key)) (sym c.kernel.view_is) c.requires.here

pub hold-requires-clause-few : goal.hold-requires-clause-few
hold-requires-clause-few g c = few_holds c.kernel.inside.descs (view_of c.kernel.inside) c.kernel.invariant.0 c.kernel.invariant.1 c.args.key

pub replace-named-requires-clause-process : goal.replace-named-requires-clause-process
replace-named-requires-clause-process g c =
    ap (λ (d : Descs). is_pid d.tables c.args.pid) c.hold.ensures.rest ∙ ap (λ (z : Contents g.row.A.Denot). is_pid z.tables c.args.pid) c.kernel.view_is ∙ c.requires.process

pub replace-named-requires-clause-place : goal.replace-named-requires-clause-place
replace-named-requires-clause-place g c =
    let within = subst (λ (z : Contents g.row.A.Denot). c.args.fd < descriptor_limit z.limits) (sym c.kernel.view_is) c.requires.place in
    omega (arith, within, ap (λ (d : Descs). d.limits.descriptors) c.hold.ensures.rest, ap (λ (b : DescLimits). b.descriptors) c.kernel.invariant.1.bounds)

pub replace-named-requires-clause-open : goal.replace-named-requires-clause-open
replace-named-requires-clause-open g c =
    subst (λ (d : Descs). IsSome (row_at d.tables c.args.pid c.args.fd)) (sym c.hold.ensures.rest)
    (subst (λ (z : Contents g.row.A.Denot). IsSome (row_at z.tables c.args.pid c.args.fd)) (sym c.kernel.view_is) c.requires.open)

pub replace-named-requires-clause-held : goal.replace-named-requires-clause-held
replace-named-requires-clause-held g c = more_positive (count_at c.kernel.inside.descs.loose) (count_at c.hold.new.self.loose) c.args.key c.hold.ensures.loose

pub release-requires-clause-held : goal.release-requires-clause-held
release-requires-clause-held g c = let w = (goal.at.release-requires-clause-held g c).After-replace-named in (may_release (parts_of (m g w)) _ c.replace-named.result c.replace-named.new.self c.kernel.inside.parked (gives g w)).0

pub release-requires-clause-there : goal.release-requires-clause-there
release-requires-clause-there g c = let w = (goal.at.release-requires-clause-there g c).After-replace-named in (may_release (parts_of (m g w)) _ c.replace-named.result c.replace-named.new.self c.kernel.inside.parked (gives g w)).1

pub release-requires-clause-tidy : goal.release-requires-clause-tidy
release-requires-clause-tidy g c = c.replace-named.ensures.tidy

pub invariant_of-kernel : goal.invariant_of-kernel
invariant_of-kernel g c =
    let w = (goal.at.invariant_of-kernel g c).After-replace-named in
    let r = released g (goal.at.invariant_of-kernel g c).After-release in
    let gives = gives g w in
    let loosed = c.replace-named.new.self in (
      record {
        whole = given_whole (parts_of (m g w)) _ c.replace-named.result loosed c.kernel.inside.parked gives c.release.new.descs (nodes_of c.release.new.nodes) r;
        waiting = c.kernel.invariant.0.waiting;
        belong = belong-same c.kernel.inside.parked.calls (is_pid c.kernel.inside.descs.tables) (is_pid c.release.new.descs.tables) c.kernel.invariant.0.belong
            (ap is_pid c.release.ensures.tables ∙ c.replace-named.ensures.pids ∙ ap (λ (d : Descs). is_pid d.tables) c.hold.ensures.rest);
        on_nodes = wait-released c.kernel.inside.parked.calls loosed c.release.new.descs (nodes_of c.kernel.inside.nodes) (nodes_of c.release.new.nodes) c.replace-named.result r
            (subst (λ os. WaitOnNodes c.kernel.inside.parked.calls (at os)) (sym gives.opened) c.kernel.invariant.0.on_nodes);
      },
      given_held (parts_of (m g w)) _ c.replace-named.result loosed c.kernel.inside.parked gives c.release.new.descs (nodes_of c.release.new.nodes) r,
    )

pub returns : goal.returns
returns g c =
    let w = (goal.at.returns g c).After-replace-named in
    let r = released g (goal.at.returns g c).After-release in
    given (parts_of (m g w)) _ c.replace-named.result c.replace-named.new.self c.kernel.inside.parked (gives g w) c.release.new.descs (nodes_of c.release.new.nodes) r
    ∙ ap (λ (z : Contents g.row.A.Denot). settle (core_of z) (install (core_of z) c.args.pid c.args.fd c.args.key)) c.kernel.view_is
