use Rattle.std.proofs.Common.{◌<◌, ◌≤◌, ◌≡◌, true, false, sym, ap, subst, ◌∙◌, w32, to_z, of_z, pos, arith}
use Rattle.std.proofs.lemmas.Int.{to_z-of_z}
use Rattle.std.specs.Prelude.{IsSome}
use Rattle.pl_model.specs.Begin.{is_descriptor, natural}
use Rattle.pl_desc.specs.Rows.{row_of, lowest_of}
use Rattle.pl_state.specs.Contents.{Contents}
use Rattle.pl_descriptors.specs.Duplicates.{Duplicates}
use Rattle.pl_state.proofs.by_call.Closing.{row_found}
use Rattle.pl_descriptors.proofs.by_call.Duplicating.{below_all, above_all, within_all, place_is, dup_fd-closed, dup_fd-refused, dup_fd-does, dup_fd-wants, on_reply, on_want}
use Rattle.pl_state.proofs.Known.{Caller, caller}
use Rattle.pl_descriptors.proofs.descriptors.dup_fd.Given.{Over}
use Rattle.pl_descriptors.proofs.descriptors.dup_fd.Goals.{After-find}
use Rattle.pl_descriptors.proofs.descriptors.dup_fd.Goals as goal
use Rattle.pl_descriptors.proofs.descriptors.dup_fd.Goals.{then-least-lt0-via-then-least-lt0, then-least-lt0-via-else-least-lt0+then-most-least}
use lib.Signed.{lt_z}
use lib.IntN.{nat_abs}
use Rattle.pl_model.specs.Tables.{descriptor_limit}

-- the process that calls, and what its descriptor names
module _ (g : Over) (c : After-find g) where
  abbrev calls : Caller g.row.A.Denot
  calls = caller c.kernel.inside c.kernel.invariant c.args.kernel.now c.kernel.view_is c.args.pid c.requires

  named : row_of calls.descs.tables c.args.pid c.args.fd ≡ c.find.result
  named = row_found calls.descs.tables c.args.pid c.args.fd c.ranges.fd c.find.result c.find.ensures

pub returns-in_default-clause-done : goal.returns-in_default-clause-done
returns-in_default-clause-done g c =
    let w = (goal.at.returns-in_default-clause-done g c).After-find in
    rw (← c.kernel.view_is) (dup_fd-closed (calls g w) c.args.fd c.args.least (named g w ∙ c.in_default.is))

pub returns-then-least-lt0-clause-done : goal.returns-then-least-lt0-clause-done
returns-then-least-lt0-clause-done g c =
    let w = (goal.at.returns-then-least-lt0-clause-done g c).After-find in
    let least_is = to_z-of_z w32 c.args.least c.ranges.least in
    let out : is_descriptor c.kernel.inside.limits c.args.least ≡ false = elim c.then-least-lt0.branch [
      | then-least-lt0-via-then-least-lt0 v ↦ below_all c.kernel.inside.limits c.args.least (ap (λ z. lt_z z (pos 0)) (sym least_is) ∙ v.if-least-lt0.true)
      | then-least-lt0-via-else-least-lt0+then-most-least v ↦ above_all c.kernel.inside.limits c.args.least (ap (λ z. lt_z z (pos 0)) (sym least_is) ∙ v.if-least-lt0.false) (omega (arith, c.descriptors-most.ensures, subst (λ z. c.descriptors-most.result ≤ nat_abs z) least_is v.if-most-least.true))
    ] in
    rw (← c.kernel.view_is) (dup_fd-refused (calls g w) c.args.fd c.args.least c.in-Some.key (named g w ∙ c.in-Some.is) out)

pub returns-clause-done : goal.returns-clause-done
returns-clause-done g c =
    let w = (goal.at.returns-clause-done g c).After-find in
    let least_is = to_z-of_z w32 c.args.least c.ranges.least in
    let within : is_descriptor c.kernel.inside.limits c.args.least ≡ true = within_all c.kernel.inside.limits c.args.least (ap (λ z. lt_z z (pos 0)) (sym least_is) ∙ c.if-least-lt0.false) (omega (arith, c.descriptors-most.ensures, subst (λ z. nat_abs z < c.descriptors-most.result) least_is c.if-most-least.false)) in
    let least : nat_abs (to_z w32 (of_z w32 c.args.least)) ≡ natural c.args.least = ap nat_abs least_is ∙ place_is c.kernel.inside.limits c.args.least within in
    on_reply c.duplicate.result
    (λ reply done. rw (← c.kernel.view_is) (dup_fd-does (calls g w) c.args.fd c.args.least c.in-Some.key (named g w ∙ c.in-Some.is) within reply c.duplicate.new.kernel
    (subst (λ (z : Contents g.row.A.Denot). Duplicates z c.args.pid c.in-Some.key (lowest_of z.tables (descriptor_limit z.limits) c.args.pid (natural c.args.least)) reply c.duplicate.new.kernel) (sym c.kernel.view_is)
    (subst (λ n. Duplicates c.args.kernel.now c.args.pid c.in-Some.key (lowest_of c.args.kernel.now.tables (descriptor_limit c.args.kernel.now.limits) c.args.pid n) reply c.duplicate.new.kernel) least done))))
    c.duplicate.ensures.done

pub returns-clause-wanted : goal.returns-clause-wanted
returns-clause-wanted g c =
    let w = (goal.at.returns-clause-wanted g c).After-find in
    let least_is = to_z-of_z w32 c.args.least c.ranges.least in
    let within : is_descriptor c.kernel.inside.limits c.args.least ≡ true = within_all c.kernel.inside.limits c.args.least (ap (λ z. lt_z z (pos 0)) (sym least_is) ∙ c.if-least-lt0.false) (omega (arith, c.descriptors-most.ensures, subst (λ z. nat_abs z < c.descriptors-most.result) least_is c.if-most-least.false)) in
    let least : nat_abs (to_z w32 (of_z w32 c.args.least)) ≡ natural c.args.least = ap nat_abs least_is ∙ place_is c.kernel.inside.limits c.args.least within in
    on_want c.duplicate.result
    (λ some. rw (← c.kernel.view_is) (dup_fd-wants (calls g w) c.args.fd c.args.least c.in-Some.key (named g w ∙ c.in-Some.is) within
    (subst (λ (z : Contents g.row.A.Denot). IsSome (lowest_of z.tables (descriptor_limit z.limits) c.args.pid (natural c.args.least))) (sym c.kernel.view_is)
    (subst (λ n. IsSome (lowest_of c.args.kernel.now.tables (descriptor_limit c.args.kernel.now.limits) c.args.pid n)) least some))))
    c.duplicate.ensures.wanted
