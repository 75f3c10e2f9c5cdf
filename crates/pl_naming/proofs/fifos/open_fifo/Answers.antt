use Rattle.std.proofs.Common.{◌≡◌, ℕ, true, false, cond, None, Some, IsSome, sym, ap, subst, ◌∙◌, nat_eq, arith}
use Rattle.std.specs.Prelude.{pos}
use Rattle.pl_model.specs.declared.calls.Call.{Call}
use Rattle.pl_model.specs.declared.calls.Step.TheVariants.{Begin}
use Rattle.pl_model.specs.declared.replies.Reply.TheVariants.{Fd}
use Rattle.pl_model.specs.Map.{change_at, set_at}
use Rattle.pl_model.specs.State.{Pipe}
use Rattle.pl_model.specs.Fifo.{can_open as machine_can_open}
use Rattle.pl_model.specs.declared.node.Node.TheVariants as node
use Rattle.pl_parked.specs.Calls.{Calls}
use Rattle.pl_desc.specs.Rows.{at, is_pid, row_at, with_row, count_at}
use Rattle.pl_desc.specs.Descs.{Descs, fresh}
use Rattle.pl_state.specs.Contents.{Contents, contents, core_of, nodes_of}
use Rattle.pl_state.specs.Makes.{MakesAtKeys}
use Rattle.pl_state.specs.Sound.{IsSound, AreCounted}
use Rattle.pl_state.proofs.by_call.Begun.{there}
use Rattle.pl_state.specs.KernelView.{view_of}
use Rattle.pl_naming.specs.Openings.{MayOpen}
use Rattle.pl_nodes.proofs.Keyed.{on_err}
use Rattle.pl_naming.proofs.by_call.FifoOpening.{fifo-lonely, fifo-waits, fifo-wants, fifo_sound, fifo_makes}
use Rattle.pl_state.proofs.by_call.Piping.{lowest_found, fits_place, to_z_place}
use Rattle.pl_state.proofs.Known.{caller}
use Rattle.pl_state.proofs.waiting.Met.{met_held}
use Rattle.pl_naming.proofs.fifos.open_fifo.Given.{Over}
use Rattle.pl_naming.proofs.fifos.open_fifo.Goals.{After-can_open, After-open_at}
use Rattle.pl_naming.proofs.fifos.open_fifo.Goals as goal
use Rattle.pl_model.specs.Tables.{descriptor_limit}
use Rattle.pl_desc.specs.declared.limits.DescLimits.{DescLimits}

-- whether it can be opened was asked of what the kernel holds
asked : (g : Over) (c : After-can_open g) → machine_can_open (core_of {A = g.row.A.Denot} (view_of c.kernel.inside)) c.args.pipe c.args.mode c.args.flags ≡ c.can_open.result
asked g c = sym (c.can_open.ensures ∙ ap (λ (k : Contents g.row.A.Denot). machine_can_open (core_of k) c.args.pipe c.args.mode c.args.flags) (sym c.kernel.view_is))

-- the open of the name as it passed the checks, over what the kernel holds
may : (g : Over) (c : After-can_open g) → MayOpen (view_of c.kernel.inside) c.args.pid c.args.name c.args.mode c.args.flags c.args.fd (Some (node.Pipe c.args.pipe))
may g c = subst (λ (k : Contents g.row.A.Denot). MayOpen k c.args.pid c.args.name c.args.mode c.args.flags c.args.fd (Some (node.Pipe c.args.pipe))) (sym c.kernel.view_is) c.requires.may

pub returns-then-contains-clause-done : goal.returns-then-contains-clause-done
returns-then-contains-clause-done g c =
    let m = caller c.kernel.inside c.kernel.invariant c.args.kernel.now c.kernel.view_is c.args.pid c.requires.process in
    let v = (goal.at.returns-then-contains-clause-done g c).After-can_open in
    rw (← c.kernel.view_is) (fifo-lonely m c.args.mode c.args.flags c.args.fd c.args.pipe c.args.name (may g v) (asked g v ∙ c.if-not-can_open.true) (sym (c.contains.ensures tt) ∙ c.if-contains.true))

pub await_other_end-requires-clause-waits : goal.await_other_end-requires-clause-waits
await_other_end-requires-clause-waits g c =
    let m = caller c.kernel.inside c.kernel.invariant c.args.kernel.now c.kernel.view_is c.args.pid c.requires.process in
    let v = (goal.at.await_other_end-requires-clause-waits g c).After-can_open in
    rw (← c.kernel.view_is) (fifo-waits m c.args.mode c.args.flags c.args.fd c.args.pipe c.args.name (may g v) (asked g v ∙ c.if-not-can_open.true) (sym (c.contains.ensures tt) ∙ c.if-contains.false))

pub returns-in_err-reserve_at-clause-wanted : goal.returns-in_err-reserve_at-clause-wanted
returns-in_err-reserve_at-clause-wanted g c =
    let m = caller c.kernel.inside c.kernel.invariant c.args.kernel.now c.kernel.view_is c.args.pid c.requires.process in
    let v = (goal.at.returns-in_err-reserve_at-clause-wanted g c).After-can_open in
    on_err c.from_residual.result _ (rw (← c.kernel.view_is) (fifo-wants m c.args.mode c.args.flags c.args.fd c.args.pipe c.args.name (may g v) (asked g v ∙ c.if-not-can_open.false)))

pub reserve_at-requires-clause-place : goal.reserve_at-requires-clause-place
reserve_at-requires-clause-place g c =
    let within = (lowest_found c.args.kernel.now.tables (descriptor_limit c.args.kernel.now.limits) c.args.pid 0 c.args.fd c.requires.may.lowest).1 in
    let same = ap (λ (z : Contents g.row.A.Denot). descriptor_limit z.limits) c.kernel.view_is in
    let width = ap (λ (b : DescLimits). b.descriptors) c.kernel.invariant.1.bounds in
    omega (arith, within, same, width)

pub open_at-requires-clause-place : goal.open_at-requires-clause-place
open_at-requires-clause-place g c =
    let within = (lowest_found c.args.kernel.now.tables (descriptor_limit c.args.kernel.now.limits) c.args.pid 0 c.args.fd c.requires.may.lowest).1 in
    let same = ap (λ (z : Contents g.row.A.Denot). descriptor_limit z.limits) c.kernel.view_is in
    let width = ap (λ (b : DescLimits). b.descriptors) (ap (λ (z : Descs). z.limits) c.reserve_at.ensures.kept ∙ c.kernel.invariant.1.bounds) in
    omega (arith, within, same, width)

pub open_at-requires-clause-free : goal.open_at-requires-clause-free
open_at-requires-clause-free g c =
    ap (λ (z : Descs). row_at z.tables c.args.pid c.args.fd) c.reserve_at.ensures.kept ∙ ap (λ (z : Contents g.row.A.Denot). row_at z.tables c.args.pid c.args.fd) c.kernel.view_is
    ∙ (lowest_found c.args.kernel.now.tables (descriptor_limit c.args.kernel.now.limits) c.args.pid 0 c.args.fd c.requires.may.lowest).0

pub overflow_cast-result : goal.overflow_cast-result
overflow_cast-result g c = fits_place c.args.fd (omega (arith, (lowest_found c.args.kernel.now.tables (descriptor_limit c.args.kernel.now.limits) c.args.pid 0 c.args.fd c.requires.may.lowest).1))

-- what opening the FIFO comes to
made : (g : Over) (c : After-open_at g) (can : machine_can_open (core_of {A = g.row.A.Denot} (view_of c.kernel.inside)) c.args.pipe c.args.mode c.args.flags ≡ true)
    → (IsSound g.row.A.Denot (contents c.open_at.new.descs (nodes_of c.unhang_if.new.nodes) c.mark_met.new.self c.kernel.inside.limits)) × (AreCounted g.row.A.Denot c.kernel.inside.limits c.open_at.new.descs c.mark_met.new.self.calls)
    × MakesAtKeys (view_of c.kernel.inside) (Begin c.args.pid (Call.OpenName c.args.name c.args.mode c.args.flags)) (Fd (pos c.args.fd)) (contents c.open_at.new.descs (nodes_of c.unhang_if.new.nodes) c.mark_met.new.self c.kernel.inside.limits)
made g c can =
    let A = g.row.A.Denot in
    let m = caller c.kernel.inside c.kernel.invariant c.args.kernel.now c.kernel.view_is c.args.pid c.requires.process in
    let may = subst (λ (k : Contents A). MayOpen k c.args.pid c.args.name c.args.mode c.args.flags c.args.fd (Some (node.Pipe c.args.pipe))) (sym c.kernel.view_is) c.requires.may in
    let held = there (at m.nodes.pipes c.args.pipe) (subst (λ (k : Contents A). IsSome (at k.nodes.pipes c.args.pipe)) (sym c.kernel.view_is) c.requires.there) in
    let kept = c.reserve_at.ensures.kept in
    let d = c.open_at.result in
    let pipes = c.unhang_if.ensures.pipes ∙ (λ i. change_at c.args.pipe (λ (x : Pipe). record x { hung = cond (c.is_allowed_by-gets_writer.ensures i) false x.hung }) (at m.nodes.pipes)) in
    let vacant : at m.descs.opened d ≡ None = ap (λ (z : Descs). at z.opened d) (sym kept) ∙ c.open_at.ensures.vacant in
    let opened = c.open_at.ensures.opened ∙ (λ i. set_at nat_eq (at (kept i).opened) d (Some (fresh (node.Pipe c.args.pipe) c.args.mode (c.status_of.ensures i)))) in
    let rows = c.open_at.ensures.rows ∙ ap (λ (z : Descs). with_row (row_at z.tables) c.args.pid c.args.fd (Some d)) kept in
    let pids = c.open_at.ensures.pids ∙ ap (λ (z : Descs). is_pid z.tables) kept in
    let same_holds : (q : ℕ) → count_at c.open_at.new.descs.loose q ≡ count_at m.descs.loose q = λ q. (λ i. c.open_at.ensures.loose i q) ∙ ap (λ (z : Descs). count_at z.loose q) kept in
    let same = c.unhang_if.ensures.files in
    subst (λ (z : Calls A). (IsSound A (contents c.open_at.new.descs (nodes_of c.unhang_if.new.nodes) z c.kernel.inside.limits)) × (AreCounted A c.kernel.inside.limits c.open_at.new.descs z.calls)
    × MakesAtKeys (view_of c.kernel.inside) (Begin c.args.pid (Call.OpenName c.args.name c.args.mode c.args.flags)) (Fd (pos c.args.fd)) (contents c.open_at.new.descs (nodes_of c.unhang_if.new.nodes) z c.kernel.inside.limits)) (sym c.mark_met.ensures) (
      fifo_sound m c.args.mode c.args.flags c.args.fd c.args.pipe may.lowest d held.0 held.1 vacant c.open_at.new.descs (nodes_of c.unhang_if.new.nodes) pids rows opened pipes (ap at same.files) same.names same.limits,
      record { tidy = c.open_at.ensures.tidy; bounds = c.open_at.ensures.limits ∙ ap (λ (z : Descs). z.limits) kept ∙ m.are.bounds; counted = λ q. same_holds q ∙ (met_held m.kernel c.args.pipe c.args.mode).counted q },
      fifo_makes m c.args.mode c.args.flags c.args.fd c.args.pipe may.lowest d held.0 held.1 vacant c.open_at.new.descs (nodes_of c.unhang_if.new.nodes) pids rows opened pipes (ap at same.files) same.names same.limits c.args.name may can,
    )

pub invariant_of-kernel-2 : goal.invariant_of-kernel-2
invariant_of-kernel-2 g c =
    let v = goal.at.invariant_of-kernel-2 g c in
    let all = made g v.After-open_at (asked g v.After-can_open ∙ c.if-not-can_open.false) in (all.0, all.1)

pub returns-clause-done : goal.returns-clause-done
returns-clause-done g c =
    let v = goal.at.returns-clause-done g c in
    let all = made g v.After-open_at (asked g v.After-can_open ∙ c.if-not-can_open.false) in
    rw (← c.kernel.view_is, to_z_place c.args.fd (omega (arith, (lowest_found c.args.kernel.now.tables (descriptor_limit c.args.kernel.now.limits) c.args.pid 0 c.args.fd c.requires.may.lowest).1))) all.2
