use Rattle.std.proofs.Common.{◌≡◌, ℕ, Some, sym, ap, subst, ◌∙◌, w32}
use Rattle.std.specs.Prelude.{OnSome}
use Rattle.std.proofs.lemmas.Int.{to_z-of_z}
use Rattle.pl_model.specs.State.{Core}
use Rattle.pl_model.specs.Numbered.{numbers}
use Rattle.pl_model.specs.Begin.{natural}
use Rattle.pl_model.specs.Tables.{close_row}
use Rattle.pl_model.specs.Settle.{settle}
use Rattle.pl_desc.specs.Rows.{is_pid, row_at, row_of, without_row, count_at, more_if, at}
use Rattle.pl_desc.specs.Descs.{Descs, IsTidy}
use Rattle.pl_state.specs.KernelView.{view_of}
use Rattle.pl_state.specs.Contents.{Contents, nodes_of, core_of}
use Rattle.pl_state.specs.LastHold.{Releases}
use Rattle.pl_state.proofs.by_call.Closing.{close-gives, without_row-is}
use Rattle.pl_state.proofs.holders.Belonging.{belong-same}
use Rattle.pl_state.proofs.holders.GivenUp.{GivesUp, may_release, given, given_whole, given_held}
use Rattle.pl_state.proofs.Known.{Caller, parts_of, caller}
use Rattle.pl_descriptors.proofs.descriptors.close_open.Given.{Over}
use Rattle.pl_descriptors.proofs.descriptors.close_open.Goals.{After-release-arg-2-1, After-release}
use Rattle.pl_descriptors.proofs.descriptors.close_open.Goals as goal
use Rattle.pl_state.proofs.holders.OnNodes.{wait-released}
use Rattle.pl_state.specs.Sound.{WaitOnNodes}

-- the descriptor is removed, and its row a loose hold
module _ (g : Over) (c : After-release-arg-2-1 g) where
  abbrev calls : Caller g.row.A.Denot
  calls = caller c.kernel.inside c.kernel.invariant c.args.kernel.now c.kernel.view_is c.args.pid c.requires.process

  abbrev key : ℕ
  key = c.unwrap-key.result

  abbrev loosed : Descs
  loosed = c.remove.new.self

  abbrev closed : Core g.row.A.Denot numbers
  closed = close_row (core_of (view_of c.kernel.inside)) c.args.pid (natural c.args.fd)

  tidy : IsTidy loosed
  tidy = subst (λ r. OnSome r (IsTidy loosed)) c.unwrap-key.ensures c.remove.ensures.tidy

  gives : GivesUp (parts_of calls.kernel) closed key loosed c.kernel.inside.parked
  gives =
      let tables = calls.descs.tables in
      let fd_is = to_z-of_z w32 c.args.fd c.ranges.fd in
      let row : row_of tables c.args.pid c.args.fd ≡ Some key = ap (row_of tables c.args.pid) (sym fd_is) ∙ sym c.remove.ensures.key ∙ c.unwrap-key.ensures in
      let rows = subst (λ r. OnSome r (row_at loosed.tables ≡ without_row (row_at tables) c.args.pid c.args.fd)) c.unwrap-key.ensures (subst (λ z. OnSome c.remove.result (row_at loosed.tables ≡ without_row (row_at tables) c.args.pid z)) fd_is c.remove.ensures.rows) in
      close-gives calls.kernel c.args.pid (natural c.args.fd) key loosed (rows ∙ without_row-is tables c.args.pid c.args.fd key row) c.remove.ensures.pids (c.remove.ensures.loose ∙ ap (λ r. more_if r (count_at calls.descs.loose)) c.unwrap-key.ensures) c.remove.ensures.holders (ap (λ z. z.opened) c.remove.ensures.rest) (ap (λ z. z.limits) c.remove.ensures.rest) tidy

-- the hold is given up
released : (g : Over) (c : After-release g) → Releases c.remove.new.self c.release.new.descs (nodes_of c.kernel.inside.nodes) (nodes_of c.release.new.nodes) c.unwrap-key.result
released g c = record { opened = c.release.ensures.opened; loose = c.release.ensures.loose; tables = c.release.ensures.tables; limits = c.release.ensures.limits; tidy = c.release.ensures.tidy; shrinks = c.release.ensures.shrinks; stays = λ last. ap nodes_of (c.release.ensures.stays last); leaves = c.release.ensures.leaves }

pub release-requires-clause-held : goal.release-requires-clause-held
release-requires-clause-held g c = (may_release (parts_of (calls g c).kernel) _ (key g c) (loosed g c) c.kernel.inside.parked (gives g c)).0

pub release-requires-clause-there : goal.release-requires-clause-there
release-requires-clause-there g c = (may_release (parts_of (calls g c).kernel) _ (key g c) (loosed g c) c.kernel.inside.parked (gives g c)).1

pub release-requires-clause-tidy : goal.release-requires-clause-tidy
release-requires-clause-tidy g c = tidy g c

pub invariant_of-kernel : goal.invariant_of-kernel
invariant_of-kernel g c =
    let w = (goal.at.invariant_of-kernel g c).After-release-arg-2-1 in
    let r = released g (goal.at.invariant_of-kernel g c).After-release in (
      record { whole = given_whole (parts_of (calls g w).kernel) (closed g w) (key g w) (loosed g w) c.kernel.inside.parked (gives g w) c.release.new.descs (nodes_of c.release.new.nodes) r; waiting = c.kernel.invariant.0.waiting; belong = belong-same c.kernel.inside.parked.calls (is_pid c.kernel.inside.descs.tables) (is_pid c.release.new.descs.tables) c.kernel.invariant.0.belong (ap is_pid c.release.ensures.tables ∙ c.remove.ensures.pids); on_nodes = wait-released c.kernel.inside.parked.calls (loosed g w) c.release.new.descs (nodes_of c.kernel.inside.nodes) (nodes_of c.release.new.nodes) (key g w) r (subst (λ os. WaitOnNodes c.kernel.inside.parked.calls (at os)) (sym (gives g w).opened) c.kernel.invariant.0.on_nodes) },
      given_held (parts_of (calls g w).kernel) (closed g w) (key g w) (loosed g w) c.kernel.inside.parked (gives g w) c.release.new.descs (nodes_of c.release.new.nodes) r,
    )

pub returns : goal.returns
returns g c =
    let w = (goal.at.returns g c).After-release-arg-2-1 in
    let r = released g (goal.at.returns g c).After-release in
    given (parts_of (calls g w).kernel) (closed g w) (key g w) (loosed g w) c.kernel.inside.parked (gives g w) c.release.new.descs (nodes_of c.release.new.nodes) r ∙ ap (λ (z : Contents g.row.A.Denot). settle (core_of z) (close_row (core_of z) c.args.pid (natural c.args.fd))) c.kernel.view_is
