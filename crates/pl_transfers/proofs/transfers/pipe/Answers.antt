use Rattle.std.specs.Prelude.{pos}
use Rattle.std.proofs.Common.{◌≡◌, ℕ, ◌+◌, ◌<◌, ◌≤◌, Some, None, sym, ap, subst, ◌∙◌, nat_eq, arith}
use Rattle.pl_model.specs.declared.calls.Call.{Call}
use Rattle.pl_model.specs.declared.calls.Mode.TheVariants as mode
use Rattle.pl_model.specs.declared.calls.Step.TheVariants.{Begin}
use Rattle.pl_model.specs.declared.replies.Reply.TheVariants.{Fds}
use Rattle.pl_model.specs.declared.node.Node.TheVariants as node
use Rattle.pl_model.specs.Map.{set_at}
use Rattle.pl_model.specs.State.{pipe_made}
use Rattle.pl_desc.specs.Rows.{Tables, at, is_pid, row_at, with_row, count_at, lowest_of}
use Rattle.pl_desc.specs.Descs.{Descs, fresh, live_count}
use Rattle.pl_state.specs.Contents.{contents, nodes_of}
use Rattle.pl_state.specs.KernelView.{view_of}
use Rattle.pl_state.specs.Makes.{MakesAtKeys, MayWantAtKeys}
use Rattle.pl_state.specs.Sound.{IsSound, AreCounted}
use Rattle.pl_nodes.proofs.Keyed.{on_err}
use Rattle.pl_state.proofs.holders.There.{vacant_other}
use Rattle.pl_state.proofs.by_call.Piping.{pipe-none, pipe-one, pipe-many, pipe-wants, pipe-made, first_free, second_free, with_row-other, fits_place, to_z_place}
use Rattle.pl_state.proofs.Known.{Caller, caller}
use Rattle.pl_transfers.proofs.transfers.pipe.Given.{Over}
use Rattle.pl_transfers.proofs.transfers.pipe.Goals.{After-kernel, After-lowest, In-Some, In-Some-lowest, Else-descriptions-live, After-reserve_at, After-open_at-2}
use Rattle.pl_transfers.proofs.transfers.pipe.Goals as goal
use Rattle.pl_desc.specs.declared.limits.DescLimits.{DescLimits}

-- the process that calls
abbrev calls : (g : Over) → After-kernel g → Caller g.row.A.Denot
calls g c = caller c.kernel.inside c.kernel.invariant c.args.kernel.now c.kernel.view_is c.args.pid c.requires

-- the first free descriptor
module _ (g : Over) (c : In-Some g) where
  abbrev tables : Tables
  tables = c.kernel.inside.descs.tables

  abbrev caller_first : Caller g.row.A.Denot
  caller_first = calls g c.before.before

  at_first : lowest_of tables c.kernel.inside.descs.limits.descriptors c.args.pid 0 ≡ Some c.in-Some.first
  at_first = sym c.lowest.ensures ∙ c.in-Some.is

  free_first : (row_at tables c.args.pid c.in-Some.first ≡ None) × (c.in-Some.first < c.kernel.inside.descs.limits.descriptors)
  free_first = first_free caller_first c.args.nonblock c.args.direct c.in-Some.first at_first

-- the second free descriptor
module _ (g : Over) (c : In-Some-lowest g) where
  abbrev with_first : In-Some g
  with_first = c.before.before

  at_second : lowest_of (tables g with_first) c.kernel.inside.descs.limits.descriptors c.args.pid (c.in-Some.first + 1) ≡ Some c.in-Some-lowest.second
  at_second = sym c.lowest-2.ensures ∙ c.in-Some-lowest.is

  free_second : (row_at (tables g with_first) c.args.pid c.in-Some-lowest.second ≡ None) × (c.in-Some-lowest.second < c.kernel.inside.descs.limits.descriptors) × (c.in-Some.first < c.in-Some-lowest.second)
  free_second = second_free (caller_first g with_first) c.args.nonblock c.args.direct c.in-Some.first (at_first g with_first) c.in-Some-lowest.second at_second

-- there is room for two descriptions, so memory may be wanted
wants : (g : Over) (c : Else-descriptions-live g) → (live_count c.kernel.inside.descs.opened + 2 ≤ c.kernel.inside.descs.limits.descriptions) × (MayWantAtKeys (view_of c.kernel.inside) (Begin c.args.pid (Call.Pipe c.args.nonblock c.args.direct)))
wants g c =
    let w = c.before.before.before in
    let most = ap (λ (b : DescLimits). b.descriptions) c.kernel.invariant.1.bounds in
    let few : live_count c.kernel.inside.descs.opened + 2 ≤ c.kernel.inside.descs.limits.descriptions = omega (arith, c.live.ensures.value, c.descriptions.ensures, c.if-descriptions-live.false, most) in
    (few, pipe-wants (caller_first g (with_first g w)) c.args.nonblock c.args.direct c.in-Some.first (at_first g (with_first g w)) c.in-Some-lowest.second (at_second g w) few)

pub returns-in_default-clause-done : goal.returns-in_default-clause-done
returns-in_default-clause-done g c =
    let m = calls g (goal.at.returns-in_default-clause-done g c).After-kernel in
    rw (← c.kernel.view_is) (pipe-none m c.args.nonblock c.args.direct (sym c.lowest.ensures ∙ c.in_default.is))

pub overflow_add-first : goal.overflow_add-first
overflow_add-first g c = omega (arith, (free_first g c).1, c.kernel.invariant.1.tidy.limited.descriptors)

pub returns-in_default-lowest-clause-done : goal.returns-in_default-lowest-clause-done
returns-in_default-lowest-clause-done g c =
    let w = (goal.at.returns-in_default-lowest-clause-done g c).In-Some in
    rw (← c.kernel.view_is) (pipe-one (caller_first g w) c.args.nonblock c.args.direct c.in-Some.first (at_first g w) (sym c.lowest-2.ensures ∙ c.in_default-lowest.is))

pub returns-then-descriptions-live-clause-done : goal.returns-then-descriptions-live-clause-done
returns-then-descriptions-live-clause-done g c =
    let w = (goal.at.returns-then-descriptions-live-clause-done g c).In-Some-lowest in
    let v = with_first g w in
    let most = ap (λ (b : DescLimits). b.descriptions) c.kernel.invariant.1.bounds in
    let many : c.kernel.inside.descs.limits.descriptions < live_count c.kernel.inside.descs.opened + 2 = omega (arith, c.live.ensures.value, c.descriptions.ensures, c.if-descriptions-live.true, most) in
    rw (← c.kernel.view_is) (pipe-many (caller_first g v) c.args.nonblock c.args.direct c.in-Some.first (at_first g v) c.in-Some-lowest.second (at_second g w) many)

pub returns-in_err-reserve_at-clause-wanted : goal.returns-in_err-reserve_at-clause-wanted
returns-in_err-reserve_at-clause-wanted g c =
    let w = (goal.at.returns-in_err-reserve_at-clause-wanted g c).Else-descriptions-live in
    on_err c.from_residual.result _ (rw (← c.kernel.view_is) (wants g w).1)

pub returns-in_err-make-clause-wanted : goal.returns-in_err-make-clause-wanted
returns-in_err-make-clause-wanted g c =
    let w = (goal.at.returns-in_err-make-clause-wanted g c).Else-descriptions-live in
    on_err c.from_residual-in_err-make.result _ (rw (← c.kernel.view_is) (wants g w).1)

pub reserve_at-requires-clause-place : goal.reserve_at-requires-clause-place
reserve_at-requires-clause-place g c = (free_second g (goal.at.reserve_at-requires-clause-place g c).In-Some-lowest).1

pub open_at-requires-clause-row : goal.open_at-requires-clause-row
open_at-requires-clause-row g c = let free = free_second g (goal.at.open_at-requires-clause-row g c).In-Some-lowest in omega (arith, free.2, c.in_ok-reserve_at.ensures.row)

pub open_at-requires-2-clause-row : goal.open_at-requires-2-clause-row
open_at-requires-2-clause-row g c = omega (arith, c.in_ok-reserve_at.ensures.row, c.open_at.ensures.room.rows c.args.pid)

pub open_at-requires-clause-place : goal.open_at-requires-clause-place
open_at-requires-clause-place g c =
    let free = free_first g (goal.at.open_at-requires-clause-place g c).In-Some in
    let width = ap (λ (z : Descs). z.limits.descriptors) c.reserve_at.ensures.kept in
    omega (arith, free.1, width)

pub open_at-requires-clause-free : goal.open_at-requires-clause-free
open_at-requires-clause-free g c =
    let free = free_first g (goal.at.open_at-requires-clause-free g c).In-Some in
    ap (λ (z : Descs). row_at z.tables c.args.pid c.in-Some.first) c.reserve_at.ensures.kept ∙ free.0

pub open_at-requires-2-clause-process : goal.open_at-requires-2-clause-process
open_at-requires-2-clause-process g c =
    let m = caller_first g (goal.at.open_at-requires-2-clause-process g c).In-Some in
    ap (λ ps. ps c.args.pid) c.open_at.ensures.pids ∙ ap (λ (z : Descs). is_pid z.tables c.args.pid) c.reserve_at.ensures.kept ∙ m.process

pub open_at-requires-2-clause-place : goal.open_at-requires-2-clause-place
open_at-requires-2-clause-place g c =
    let free = free_second g (goal.at.open_at-requires-2-clause-place g c).In-Some-lowest in
    let width = ap (λ (b : DescLimits). b.descriptors) (c.open_at.ensures.limits ∙ ap (λ (z : Descs). z.limits) c.reserve_at.ensures.kept) in
    omega (arith, free.1, width)

pub open_at-requires-2-clause-free : goal.open_at-requires-2-clause-free
open_at-requires-2-clause-free g c =
    let free = free_second g (goal.at.open_at-requires-2-clause-free g c).In-Some-lowest in
    (λ i. c.open_at.ensures.rows i c.args.pid c.in-Some-lowest.second) ∙ with_row-other (row_at c.reserve_at.new.self.tables) c.args.pid c.in-Some.first c.in-Some-lowest.second _ (λ e. absurd (omega (arith, free.2, e)))
    ∙ ap (λ (z : Descs). row_at z.tables c.args.pid c.in-Some-lowest.second) c.reserve_at.ensures.kept ∙ free.0

pub overflow_cast-result : goal.overflow_cast-result
overflow_cast-result g c = fits_place c.in-Some.first (omega (arith, (free_first g (goal.at.overflow_cast-result g c).In-Some).1, c.kernel.invariant.1.tidy.limited.descriptors))

pub overflow_cast-result-2 : goal.overflow_cast-result-2
overflow_cast-result-2 g c = fits_place c.in-Some-lowest.second (omega (arith, (free_second g (goal.at.overflow_cast-result-2 g c).In-Some-lowest).1, c.kernel.invariant.1.tidy.limited.descriptors))

-- what making the pipe and both its ends comes to
made : (g : Over) (c : After-open_at-2 g) → lowest_of c.kernel.inside.descs.tables c.kernel.inside.descs.limits.descriptors c.args.pid 0 ≡ Some c.in-Some.first → lowest_of c.kernel.inside.descs.tables c.kernel.inside.descs.limits.descriptors c.args.pid (c.in-Some.first + 1) ≡ Some c.in-Some-lowest.second
    → live_count c.kernel.inside.descs.opened + 2 ≤ c.kernel.inside.descs.limits.descriptions
    → (IsSound g.row.A.Denot (contents c.open_at-2.new.descs (nodes_of c.make.new.self) c.kernel.inside.parked c.kernel.inside.limits)) × (AreCounted g.row.A.Denot c.kernel.inside.limits c.open_at-2.new.descs c.kernel.inside.parked.calls)
    × (MakesAtKeys (view_of c.kernel.inside) (Begin c.args.pid (Call.Pipe c.args.nonblock c.args.direct)) (Fds (pos c.in-Some.first) (pos c.in-Some-lowest.second)) (contents c.open_at-2.new.descs (nodes_of c.make.new.self) c.kernel.inside.parked c.kernel.inside.limits))
made g c first second few =
    let m = caller c.kernel.inside c.kernel.invariant c.args.kernel.now c.kernel.view_is c.args.pid c.requires in
    let kept = c.reserve_at.ensures.kept in
    let d = c.open_at.result in
    let d' = c.open_at-2.result in
    let p = c.next_key.result in
    let same : c.in_ok-make.field-0 ≡ p = c.in_ok-make.ensures.key ∙ sym c.next_key.ensures in
    let vacant_pipe = subst (λ q. at m.nodes.pipes q ≡ None) same c.in_ok-make.ensures.vacant.0 in
    let made = subst (λ q. at c.make.new.self.pipes ≡ set_at nat_eq (at m.nodes.pipes) q (Some (pipe_made c.args.direct))) same c.in_ok-make.ensures.ok in
    let flags = c.flags_of-flags.ensures in
    let writer_flags = c.flags_of_writer-flags_of_writer.ensures in
    let vacant : at m.descs.opened d ≡ None = ap (λ (z : Descs). at z.opened d) (sym kept) ∙ c.open_at.ensures.vacant in
    let opened_one = c.open_at.ensures.opened ∙ (λ i. set_at nat_eq (at (kept i).opened) d (Some (fresh (node.Pipe p) mode.Read (flags i)))) in
    let other = vacant_other (at m.descs.opened) (at c.open_at.new.descs.opened) d d' _ opened_one c.open_at-2.ensures.vacant in
    let opened_both = c.open_at-2.ensures.opened ∙ (λ i. set_at nat_eq (opened_one i) d' (Some (fresh (node.Pipe p) mode.Write (writer_flags i)))) in
    let rows = c.open_at-2.ensures.rows ∙ ap (λ z. with_row z c.args.pid c.in-Some-lowest.second (Some d')) (c.open_at.ensures.rows ∙ ap (λ (z : Descs). with_row (row_at z.tables) c.args.pid c.in-Some.first (Some d)) kept) in
    let pids = c.open_at-2.ensures.pids ∙ c.open_at.ensures.pids ∙ ap (λ (z : Descs). is_pid z.tables) kept in
    let same_ends : (q : ℕ) → count_at c.open_at-2.new.descs.loose q ≡ count_at m.descs.loose q = λ q. (λ i. c.open_at-2.ensures.loose i q) ∙ (λ i. c.open_at.ensures.loose i q) ∙ ap (λ (z : Descs). count_at z.loose q) kept in
    let both = pipe-made m c.args.nonblock c.args.direct c.in-Some.first first c.in-Some-lowest.second second few p d d' vacant_pipe vacant other.0 other.1 c.open_at-2.new.descs (nodes_of c.make.new.self) pids rows opened_both made c.in_ok-make.ensures.files c.in_ok-make.ensures.names c.in_ok-make.ensures.limits in
    (both.0, record { tidy = c.open_at-2.ensures.tidy; bounds = c.open_at-2.ensures.limits ∙ c.open_at.ensures.limits ∙ ap (λ (z : Descs). z.limits) kept ∙ m.are.bounds; counted = λ q. same_ends q ∙ m.are.counted q }, both.1)

pub invariant_of-kernel-2 : goal.invariant_of-kernel-2
invariant_of-kernel-2 g c =
    let w = (goal.at.invariant_of-kernel-2 g c).Else-descriptions-live in
    let all = made g (goal.at.invariant_of-kernel-2 g c).After-open_at-2 (at_first g (with_first g w.before.before.before)) (at_second g w.before.before.before) (wants g w).0 in
    (all.0, all.1)

pub returns-clause-done : goal.returns-clause-done
returns-clause-done g c =
    let w = (goal.at.returns-clause-done g c).Else-descriptions-live in
    let first = free_first g (with_first g w.before.before.before) in
    let second = free_second g w.before.before.before in
    let all = made g (goal.at.returns-clause-done g c).After-open_at-2 (at_first g (with_first g w.before.before.before)) (at_second g w.before.before.before) (wants g w).0 in
    rw (← c.kernel.view_is, to_z_place c.in-Some.first (omega (arith, first.1, c.kernel.invariant.1.tidy.limited.descriptors)), to_z_place c.in-Some-lowest.second (omega (arith, second.1, c.kernel.invariant.1.tidy.limited.descriptors))) all.2
