use Rattle.std.proofs.Common.{◌≡◌, ◌<◌, Some, None, refl, sym, ap, ◌∙◌, subst, arith}
use Rattle.pl_model.specs.Tables.{descriptor_limit}
use Rattle.pl_desc.specs.Rows.{row_at, lowest_of}
use Rattle.pl_state.specs.Contents.{Contents}
use Rattle.pl_state.proofs.by_call.Piping.{lowest_found, lowest-limit, fits_place, to_z_place}
use Rattle.pl_descriptors.proofs.descriptors.duplicate.Given.{Over}
use Rattle.pl_descriptors.proofs.descriptors.duplicate.Goals.{In-Some, In_default}
use Rattle.pl_descriptors.proofs.descriptors.duplicate.Goals as goal

-- the least free descriptor within the limit
module _ (g : Over) (c : In-Some g) where
  lowest : lowest_of c.kernel.inside.descs.tables (descriptor_limit c.kernel.inside.limits) c.args.pid c.args.least ≡ Some c.in-Some.free
  lowest = lowest-limit c.kernel.inside.descs c.kernel.inside.limits c.kernel.invariant.1.bounds c.args.pid c.args.least ∙ sym c.lowest.ensures ∙ c.in-Some.is

  found : (row_at c.kernel.inside.descs.tables c.args.pid c.in-Some.free ≡ None) × (c.in-Some.free < descriptor_limit c.kernel.inside.limits)
  found = let f = lowest_found c.kernel.inside.descs.tables (descriptor_limit c.kernel.inside.limits) c.args.pid c.args.least c.in-Some.free lowest in (f.0, f.1)

  small : c.in-Some.free < 65536
  small = omega (arith, found.1)

pub assign-requires-clause-place : goal.assign-requires-clause-place
assign-requires-clause-place g c = subst (λ (z : Contents g.row.A.Denot). c.in-Some.free < descriptor_limit z.limits) c.kernel.view_is (found g (goal.at.assign-requires-clause-place g c).In-Some).1

pub assign-requires-clause-free : goal.assign-requires-clause-free
assign-requires-clause-free g c = ap (λ (z : Contents g.row.A.Denot). row_at z.tables c.args.pid c.in-Some.free) (sym c.kernel.view_is) ∙ (found g (goal.at.assign-requires-clause-free g c).In-Some).0

pub overflow_cast-result : goal.overflow_cast-result
overflow_cast-result g c = fits_place c.in-Some.free (small g (goal.at.overflow_cast-result g c).In-Some)

pub returns-clause-done : goal.returns-clause-done
returns-clause-done g c =
    let A = g.row.A.Denot in
    let w = (goal.at.returns-clause-done g c).In-Some in
    let is : lowest_of c.args.kernel.now.tables (descriptor_limit c.args.kernel.now.limits) c.args.pid c.args.least ≡ Some c.in-Some.free = ap (λ (z : Contents A). lowest_of z.tables (descriptor_limit z.limits) c.args.pid c.args.least) (sym c.kernel.view_is) ∙ lowest g w in
    rw (is, to_z_place c.in-Some.free (small g w)) (refl, c.in_ok-assign.ensures.named, c.in_ok-assign.ensures.settled)

pub returns-in_default-clause-done : goal.returns-in_default-clause-done
returns-in_default-clause-done g c =
    let A = g.row.A.Denot in
    let is : lowest_of c.args.kernel.now.tables (descriptor_limit c.args.kernel.now.limits) c.args.pid c.args.least ≡ None =
    ap (λ (z : Contents A). lowest_of z.tables (descriptor_limit z.limits) c.args.pid c.args.least) (sym c.kernel.view_is)
    ∙ lowest-limit c.kernel.inside.descs c.kernel.inside.limits c.kernel.invariant.1.bounds c.args.pid c.args.least ∙ sym c.lowest.ensures ∙ c.in_default.is in
    rw (is) (refl, refl)
