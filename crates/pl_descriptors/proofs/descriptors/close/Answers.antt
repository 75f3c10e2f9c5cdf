use Rattle.std.proofs.Common.{◌≡◌, IsSome, sym, ap, subst, ◌∙◌, w32, to_z, of_z}
use Rattle.std.proofs.lemmas.Int.{to_z-of_z}
use Rattle.pl_model.specs.Begin.{natural}
use Rattle.pl_model.specs.Tables.{close_row}
use Rattle.pl_model.specs.Settle.{settle}
use Rattle.pl_desc.specs.Rows.{row_of}
use Rattle.pl_state.specs.KernelView.{view_of}
use Rattle.pl_state.specs.Contents.{Contents, core_of}
use Rattle.pl_state.proofs.by_call.Begun.{there, not_there}
use Rattle.pl_state.proofs.by_call.Closing.{close-closed, close-closes, row_found}
use Rattle.pl_state.proofs.Known.{Caller, caller}
use Rattle.pl_descriptors.proofs.descriptors.close.Given.{Over}
use Rattle.pl_descriptors.proofs.descriptors.close.Goals.{After-find}
use Rattle.pl_descriptors.proofs.descriptors.close.Goals as goal

-- the process that calls, and what its descriptor names
module _ (g : Over) (c : After-find g) where
  abbrev calls : Caller g.row.A.Denot
  calls = caller c.kernel.inside c.kernel.invariant c.args.kernel.now c.kernel.view_is c.args.pid c.requires

  named : row_of calls.descs.tables c.args.pid c.args.fd ≡ c.find.result
  named = row_found calls.descs.tables c.args.pid c.args.fd c.ranges.fd c.find.result c.find.ensures

pub returns-then-is_none : goal.returns-then-is_none
returns-then-is_none g c =
    let w = (goal.at.returns-then-is_none g c).After-find in
    rw (← c.kernel.view_is) (close-closed (calls g w) c.args.fd (named g w ∙ not_there c.find.result c.if-is_none.ensures))

pub close_open-requires-clause-here : goal.close_open-requires-clause-here
close_open-requires-clause-here g c = subst (λ (z : Contents g.row.A.Denot). IsSome (row_of z.tables c.args.pid (to_z w32 (of_z w32 c.args.fd)))) c.kernel.view_is (subst (λ o. IsSome o) c.find.ensures c.if-is_none.ensures)

pub returns : goal.returns
returns g c =
    let w = (goal.at.returns g c).After-find in
    let k = view_of c.kernel.inside in
    let d = there c.find.result c.if-is_none.ensures in
    let settles : core_of c.close_open.new.kernel ≡ settle (core_of k) (close_row (core_of k) c.args.pid (natural c.args.fd)) =
    c.close_open.ensures ∙ ap (λ (z : Contents g.row.A.Denot). settle (core_of z) (close_row (core_of z) c.args.pid (natural (to_z w32 (of_z w32 c.args.fd))))) (sym c.kernel.view_is) ∙ ap (λ z. settle (core_of k) (close_row (core_of k) c.args.pid (natural z))) (to_z-of_z w32 c.args.fd c.ranges.fd) in
    rw (← c.kernel.view_is) (close-closes (calls g w) c.args.fd d.0 (named g w ∙ d.1) c.trim.new.kernel (ap (λ (z : Contents g.row.A.Denot). core_of z) c.trim.ensures ∙ settles))

pub trim-requires : goal.trim-requires
unfolding core_of settle
trim-requires g c = (λ i. (c.close_open.ensures i).processes c.args.pid) ∙ c.requires
