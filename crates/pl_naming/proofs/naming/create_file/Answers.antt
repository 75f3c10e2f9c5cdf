use Rattle.std.proofs.Common.{◌≡◌, ℕ, true, [], None, Some, sym, ap, subst, ◌∙◌, nat_eq, arith}
use Rattle.std.specs.Prelude.{pos}
use Rattle.std.specs.Ordering.{nat_cmp}
use Rattle.std.specs.Cmp.Lexicographic.{slice_cmp}
use Rattle.pl_model.specs.declared.calls.Call.{Call}
use Rattle.pl_model.specs.declared.calls.Step.TheVariants.{Begin}
use Rattle.pl_model.specs.declared.replies.Reply.TheVariants.{Fd}
use Rattle.pl_model.specs.Map.{put_in_order, set_at}
use Rattle.pl_model.specs.declared.node.Node.TheVariants as node
use Rattle.pl_desc.specs.Rows.{at, is_pid, row_at, with_row, count_at}
use Rattle.pl_desc.specs.Descs.{Descs, fresh}
use Rattle.pl_state.specs.Contents.{Contents, contents, nodes_of, lets_name}
use Rattle.pl_state.specs.Makes.{MakesAtKeys}
use Rattle.pl_state.specs.Sound.{IsSound, AreCounted}
use Rattle.pl_state.specs.KernelView.{view_of}
use Rattle.pl_naming.specs.Openings.{MayOpen}
use Rattle.pl_nodes.proofs.Keyed.{on_err}
use Rattle.pl_naming.proofs.by_call.Creating.{created}
use Rattle.pl_naming.proofs.by_call.Opening.{new-wants, new-refused}
use Rattle.pl_state.proofs.by_call.Piping.{lowest_found, fits_place, to_z_place}
use Rattle.pl_state.proofs.Known.{caller}
use Rattle.pl_naming.proofs.naming.create_file.Given.{Over}
use Rattle.pl_naming.proofs.naming.create_file.Goals.{After-open_at}
use Rattle.pl_naming.proofs.naming.create_file.Goals as goal
use Rattle.pl_model.specs.Tables.{descriptor_limit}
use Rattle.pl_desc.specs.declared.limits.DescLimits.{DescLimits}

pub returns-then-not-can_name-clause-done : goal.returns-then-not-can_name-clause-done
returns-then-not-can_name-clause-done g c =
    let m = caller c.kernel.inside c.kernel.invariant c.args.kernel.now c.kernel.view_is c.args.pid c.requires.process in
    let may = subst (λ (k : Contents g.row.A.Denot). MayOpen k c.args.pid c.args.name.now c.args.mode c.args.flags c.args.fd None) (sym c.kernel.view_is) c.requires.may in
    rw (← c.kernel.view_is) (new-refused m c.args.name.now c.args.mode c.args.flags c.args.fd may (ap lets_name c.kernel.view_is ∙ sym c.can_name.ensures ∙ c.if-not-can_name.true))

pub returns-in_err-kept-clause-wanted : goal.returns-in_err-kept-clause-wanted
returns-in_err-kept-clause-wanted g c =
    let m = caller c.kernel.inside c.kernel.invariant c.args.kernel.now c.kernel.view_is c.args.pid c.requires.process in
    let may = subst (λ (k : Contents g.row.A.Denot). MayOpen k c.args.pid c.args.name.now c.args.mode c.args.flags c.args.fd None) (sym c.kernel.view_is) c.requires.may in
    on_err c.from_residual.result _ (rw (← c.kernel.view_is) (new-wants m c.args.name.now c.args.mode c.args.flags c.args.fd may (ap lets_name c.kernel.view_is ∙ sym c.can_name.ensures ∙ c.if-not-can_name.false)))

pub returns-in_err-reserve_at-clause-wanted : goal.returns-in_err-reserve_at-clause-wanted
returns-in_err-reserve_at-clause-wanted g c =
    let m = caller c.kernel.inside c.kernel.invariant c.args.kernel.now c.kernel.view_is c.args.pid c.requires.process in
    let may = subst (λ (k : Contents g.row.A.Denot). MayOpen k c.args.pid c.args.name.now c.args.mode c.args.flags c.args.fd None) (sym c.kernel.view_is) c.requires.may in
    on_err c.from_residual-in_err-reserve_at.result _ (rw (← c.kernel.view_is) (new-wants m c.args.name.now c.args.mode c.args.flags c.args.fd may (ap lets_name c.kernel.view_is ∙ sym c.can_name.ensures ∙ c.if-not-can_name.false)))

pub returns-in_default-clause-wanted : goal.returns-in_default-clause-wanted
returns-in_default-clause-wanted g c =
    let m = caller c.kernel.inside c.kernel.invariant c.args.kernel.now c.kernel.view_is c.args.pid c.requires.process in
    let may = subst (λ (k : Contents g.row.A.Denot). MayOpen k c.args.pid c.args.name.now c.args.mode c.args.flags c.args.fd None) (sym c.kernel.view_is) c.requires.may in
    rw (← c.kernel.view_is) (new-wants m c.args.name.now c.args.mode c.args.flags c.args.fd may (ap lets_name c.kernel.view_is ∙ sym c.can_name.ensures ∙ c.if-not-can_name.false))

pub reserve_at-requires-clause-place : goal.reserve_at-requires-clause-place
reserve_at-requires-clause-place g c =
    let within = (lowest_found c.args.kernel.now.tables (descriptor_limit c.args.kernel.now.limits) c.args.pid 0 c.args.fd c.requires.may.lowest).1 in
    let same = ap (λ (z : Contents g.row.A.Denot). descriptor_limit z.limits) c.kernel.view_is in
    let width = ap (λ (b : DescLimits). b.descriptors) c.kernel.invariant.1.bounds in
    omega (arith, within, same, width)

pub open_at-requires-clause-place : goal.open_at-requires-clause-place
open_at-requires-clause-place g c =
    let within = (lowest_found c.args.kernel.now.tables (descriptor_limit c.args.kernel.now.limits) c.args.pid 0 c.args.fd c.requires.may.lowest).1 in
    let same = ap (λ (z : Contents g.row.A.Denot). descriptor_limit z.limits) c.kernel.view_is in
    let width = ap (λ (b : DescLimits). b.descriptors) (ap (λ (z : Descs). z.limits) c.reserve_at.ensures.kept ∙ c.kernel.invariant.1.bounds) in
    omega (arith, within, same, width)

pub open_at-requires-clause-free : goal.open_at-requires-clause-free
open_at-requires-clause-free g c =
    ap (λ (z : Descs). row_at z.tables c.args.pid c.args.fd) c.reserve_at.ensures.kept ∙ ap (λ (z : Contents g.row.A.Denot). row_at z.tables c.args.pid c.args.fd) c.kernel.view_is
    ∙ (lowest_found c.args.kernel.now.tables (descriptor_limit c.args.kernel.now.limits) c.args.pid 0 c.args.fd c.requires.may.lowest).0

pub overflow_cast-result : goal.overflow_cast-result
overflow_cast-result g c = fits_place c.args.fd (omega (arith, (lowest_found c.args.kernel.now.tables (descriptor_limit c.args.kernel.now.limits) c.args.pid 0 c.args.fd c.requires.may.lowest).1))

-- what making the file and opening it comes to
made : (g : Over) (c : After-open_at g) (can : lets_name (view_of c.kernel.inside) ≡ true)
    → (IsSound g.row.A.Denot (contents c.open_at.new.descs (nodes_of c.make_file.new.self) c.kernel.inside.parked c.kernel.inside.limits)) × (AreCounted g.row.A.Denot c.kernel.inside.limits c.open_at.new.descs c.kernel.inside.parked.calls)
    × (MakesAtKeys (view_of c.kernel.inside) (Begin c.args.pid (Call.OpenName c.args.name.now c.args.mode c.args.flags)) (Fd (pos c.args.fd)) (contents c.open_at.new.descs (nodes_of c.make_file.new.self) c.kernel.inside.parked c.kernel.inside.limits))
made g c can =
    let m = caller c.kernel.inside c.kernel.invariant c.args.kernel.now c.kernel.view_is c.args.pid c.requires.process in
    let may = subst (λ (k : Contents g.row.A.Denot). MayOpen k c.args.pid c.args.name.now c.args.mode c.args.flags c.args.fd None) (sym c.kernel.view_is) c.requires.may in
    let kept = c.reserve_at.ensures.kept in
    let d = c.open_at.result in
    let f = c.next_key.result in
    let same : c.in-Ok.field-0 ≡ f = c.in-Ok.ensures.key ∙ sym c.next_key.ensures in
    let vacant_file = subst (λ q. at m.nodes.files q ≡ None) same c.in-Ok.ensures.vacant.1 in
    let files = subst (λ q. at c.make_file.new.self.files ≡ set_at nat_eq (at m.nodes.files) q (Some [])) same c.in-Ok.ensures.ok in
    let names = c.in-Ok.ensures.names ∙ (λ i. put_in_order (slice_cmp nat_cmp) m.nodes.names (c.in_ok-kept.ensures.items i) (node.File (same i))) in
    let vacant : at m.descs.opened d ≡ None = ap (λ (z : Descs). at z.opened d) (sym kept) ∙ c.open_at.ensures.vacant in
    let opened = c.open_at.ensures.opened ∙ (λ i. set_at nat_eq (at (kept i).opened) d (Some (fresh (node.File f) c.args.mode (c.status_of.ensures i)))) in
    let rows = c.open_at.ensures.rows ∙ ap (λ (z : Descs). with_row (row_at z.tables) c.args.pid c.args.fd (Some d)) kept in
    let pids = c.open_at.ensures.pids ∙ ap (λ (z : Descs). is_pid z.tables) kept in
    let same_holds : (q : ℕ) → count_at c.open_at.new.descs.loose q ≡ count_at m.descs.loose q = λ q. (λ i. c.open_at.ensures.loose i q) ∙ ap (λ (z : Descs). count_at z.loose q) kept in
    let both = created m c.args.name.now c.args.mode c.args.flags c.args.fd may can f d vacant_file vacant c.open_at.new.descs (nodes_of c.make_file.new.self) pids rows opened c.in-Ok.ensures.pipes files names c.in-Ok.ensures.limits in
    (both.0, record { tidy = c.open_at.ensures.tidy; bounds = c.open_at.ensures.limits ∙ ap (λ (z : Descs). z.limits) kept ∙ m.are.bounds; counted = λ q. same_holds q ∙ m.are.counted q }, both.1)

pub invariant_of-kernel-2 : goal.invariant_of-kernel-2
invariant_of-kernel-2 g c = let all = made g (goal.at.invariant_of-kernel-2 g c).After-open_at (ap lets_name c.kernel.view_is ∙ sym c.can_name.ensures ∙ c.if-not-can_name.false) in (all.0, all.1)

pub returns-clause-done : goal.returns-clause-done
returns-clause-done g c =
    let all = made g (goal.at.returns-clause-done g c).After-open_at (ap lets_name c.kernel.view_is ∙ sym c.can_name.ensures ∙ c.if-not-can_name.false) in
    rw (← c.kernel.view_is, to_z_place c.args.fd (omega (arith, (lowest_found c.args.kernel.now.tables (descriptor_limit c.args.kernel.now.limits) c.args.pid 0 c.args.fd c.requires.may.lowest).1))) all.2
