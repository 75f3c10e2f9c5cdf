use Rattle.std.proofs.Common.{◌≡◌, ℕ, List, [], cond, None, Some, IsSome, sym, ap, subst, ◌∙◌, nat_eq, arith}
use Rattle.std.specs.Prelude.{pos}
use Rattle.pl_model.specs.declared.calls.Call.{Call}
use Rattle.pl_model.specs.declared.calls.Step.TheVariants.{Begin}
use Rattle.pl_model.specs.declared.replies.Reply.TheVariants.{Fd}
use Rattle.pl_model.specs.Map.{change_at, set_at}
use Rattle.pl_model.specs.declared.node.Node.TheVariants as node
use Rattle.pl_desc.specs.Rows.{at, is_pid, row_at, lowest_of, with_row, count_at}
use Rattle.pl_desc.specs.Descs.{Descs, fresh}
use Rattle.pl_state.specs.Contents.{Contents, contents, nodes_of}
use Rattle.pl_state.specs.Makes.{MakesAtKeys}
use Rattle.pl_state.specs.Sound.{IsSound, AreCounted}
use Rattle.pl_state.proofs.by_call.Begun.{there}
use Rattle.pl_state.specs.KernelView.{view_of}
use Rattle.pl_naming.specs.Openings.{MayOpen}
use Rattle.pl_nodes.proofs.Keyed.{on_err}
use Rattle.pl_naming.proofs.by_call.Reopening.{reopened_sound, reopened_makes}
use Rattle.pl_naming.proofs.by_call.Opening.{file-wants}
use Rattle.pl_state.proofs.by_call.Piping.{lowest_found, fits_place, to_z_place}
use Rattle.pl_state.proofs.Known.{caller}
use Rattle.pl_naming.proofs.naming.open_file.Given.{Over}
use Rattle.pl_naming.proofs.naming.open_file.Goals.{After-open_at}
use Rattle.pl_naming.proofs.naming.open_file.Goals as goal
use Rattle.pl_model.specs.Tables.{descriptor_limit}
use Rattle.pl_desc.specs.declared.limits.DescLimits.{DescLimits}

pub returns-in_err-reserve_at-clause-wanted : goal.returns-in_err-reserve_at-clause-wanted
returns-in_err-reserve_at-clause-wanted g c =
    let m = caller c.kernel.inside c.kernel.invariant c.args.kernel.now c.kernel.view_is c.args.pid c.requires.process in
    on_err c.from_residual.result _ (λ name may. rw (← c.kernel.view_is) (file-wants m name c.args.mode c.args.flags c.args.fd c.args.file
    (subst (λ (k : Contents g.row.A.Denot). MayOpen k c.args.pid name c.args.mode c.args.flags c.args.fd (Some (node.File c.args.file))) (sym c.kernel.view_is) may)))

pub reserve_at-requires-clause-place : goal.reserve_at-requires-clause-place
reserve_at-requires-clause-place g c =
    let within = (lowest_found c.args.kernel.now.tables (descriptor_limit c.args.kernel.now.limits) c.args.pid 0 c.args.fd c.requires.lowest).1 in
    let same = ap (λ (z : Contents g.row.A.Denot). descriptor_limit z.limits) c.kernel.view_is in
    let width = ap (λ (b : DescLimits). b.descriptors) c.kernel.invariant.1.bounds in
    omega (arith, within, same, width)

pub open_at-requires-clause-place : goal.open_at-requires-clause-place
open_at-requires-clause-place g c =
    let within = (lowest_found c.args.kernel.now.tables (descriptor_limit c.args.kernel.now.limits) c.args.pid 0 c.args.fd c.requires.lowest).1 in
    let same = ap (λ (z : Contents g.row.A.Denot). descriptor_limit z.limits) c.kernel.view_is in
    let width = ap (λ (b : DescLimits). b.descriptors) (ap (λ (z : Descs). z.limits) c.reserve_at.ensures.kept ∙ c.kernel.invariant.1.bounds) in
    omega (arith, within, same, width)

pub open_at-requires-clause-free : goal.open_at-requires-clause-free
open_at-requires-clause-free g c =
    ap (λ (z : Descs). row_at z.tables c.args.pid c.args.fd) c.reserve_at.ensures.kept ∙ ap (λ (z : Contents g.row.A.Denot). row_at z.tables c.args.pid c.args.fd) c.kernel.view_is
    ∙ (lowest_found c.args.kernel.now.tables (descriptor_limit c.args.kernel.now.limits) c.args.pid 0 c.args.fd c.requires.lowest).0

pub overflow_cast-result : goal.overflow_cast-result
overflow_cast-result g c = fits_place c.args.fd (omega (arith, (lowest_found c.args.kernel.now.tables (descriptor_limit c.args.kernel.now.limits) c.args.pid 0 c.args.fd c.requires.lowest).1))

-- what opening the file comes to
made : (g : Over) (c : After-open_at g)
    → (IsSound g.row.A.Denot (contents c.open_at.new.descs (nodes_of c.empty_if.new.nodes) c.kernel.inside.parked c.kernel.inside.limits)) × (AreCounted g.row.A.Denot c.kernel.inside.limits c.open_at.new.descs c.kernel.inside.parked.calls)
    × ((name : List ℕ) → MayOpen (view_of c.kernel.inside) c.args.pid name c.args.mode c.args.flags c.args.fd (Some (node.File c.args.file))
    → MakesAtKeys (view_of c.kernel.inside) (Begin c.args.pid (Call.OpenName name c.args.mode c.args.flags)) (Fd (pos c.args.fd)) (contents c.open_at.new.descs (nodes_of c.empty_if.new.nodes) c.kernel.inside.parked c.kernel.inside.limits))
made g c =
    let m = caller c.kernel.inside c.kernel.invariant c.args.kernel.now c.kernel.view_is c.args.pid c.requires.process in
    let least = subst (λ (k : Contents g.row.A.Denot). lowest_of k.tables (descriptor_limit k.limits) c.args.pid 0 ≡ Some c.args.fd) (sym c.kernel.view_is) c.requires.lowest in
    let held = there (at m.nodes.files c.args.file) (subst (λ (k : Contents g.row.A.Denot). IsSome (at k.nodes.files c.args.file)) (sym c.kernel.view_is) c.requires.there) in
    let kept = c.reserve_at.ensures.kept in
    let d = c.open_at.result in
    let files = c.empty_if.ensures.files ∙ (λ i. change_at c.args.file (λ (bytes : List ℕ). cond (c.does_truncate.ensures i) [] bytes) (at m.nodes.files)) in
    let vacant : at m.descs.opened d ≡ None = ap (λ (z : Descs). at z.opened d) (sym kept) ∙ c.open_at.ensures.vacant in
    let opened = c.open_at.ensures.opened ∙ (λ i. set_at nat_eq (at (kept i).opened) d (Some (fresh (node.File c.args.file) c.args.mode (c.status_of.ensures i)))) in
    let rows = c.open_at.ensures.rows ∙ ap (λ (z : Descs). with_row (row_at z.tables) c.args.pid c.args.fd (Some d)) kept in
    let pids = c.open_at.ensures.pids ∙ ap (λ (z : Descs). is_pid z.tables) kept in
    let same_holds : (q : ℕ) → count_at c.open_at.new.descs.loose q ≡ count_at m.descs.loose q = λ q. (λ i. c.open_at.ensures.loose i q) ∙ ap (λ (z : Descs). count_at z.loose q) kept in
    let same = c.empty_if.ensures.pipes in (
      reopened_sound m [] c.args.mode c.args.flags c.args.fd c.args.file least d held.0 held.1 vacant c.open_at.new.descs (nodes_of c.empty_if.new.nodes) pids rows opened (ap at same.pipes) files same.names same.limits,
      record { tidy = c.open_at.ensures.tidy; bounds = c.open_at.ensures.limits ∙ ap (λ (z : Descs). z.limits) kept ∙ m.are.bounds; counted = λ q. same_holds q ∙ m.are.counted q },
      λ name may. reopened_makes m name c.args.mode c.args.flags c.args.fd c.args.file least d held.0 held.1 vacant c.open_at.new.descs (nodes_of c.empty_if.new.nodes) pids rows opened (ap at same.pipes) files same.names same.limits may,
    )

pub invariant_of-kernel-2 : goal.invariant_of-kernel-2
invariant_of-kernel-2 g c = let all = made g (goal.at.invariant_of-kernel-2 g c).After-open_at in (all.0, all.1)

pub returns-clause-done : goal.returns-clause-done
returns-clause-done g c =
    let all = made g (goal.at.returns-clause-done g c).After-open_at in
    λ name may. rw (← c.kernel.view_is, to_z_place c.args.fd (omega (arith, (lowest_found c.args.kernel.now.tables (descriptor_limit c.args.kernel.now.limits) c.args.pid 0 c.args.fd c.requires.lowest).1)))
    (all.2 name (subst (λ (k : Contents g.row.A.Denot). MayOpen k c.args.pid name c.args.mode c.args.flags c.args.fd (Some (node.File c.args.file))) (sym c.kernel.view_is) may))
