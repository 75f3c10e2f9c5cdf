use Rattle.std.proofs.Common.{◌≡◌, ◌<◌, ◌≤◌, Some, true, false, sym, ap, subst, ◌∙◌, w32, to_z, of_z, pos, arith}
use Rattle.std.specs.Prelude.{None, IsSome}
use Rattle.std.proofs.lemmas.Bool.{false≢true}
use Rattle.std.proofs.lemmas.Int.{to_z-of_z}
use Rattle.pl_model.specs.Begin.{is_descriptor, natural}
use Rattle.pl_model.specs.Settle.{settle}
use Rattle.pl_model.specs.State.{Core}
use Rattle.pl_model.specs.Numbered.{numbers}
use Rattle.pl_model.specs.Tables.{install}
use Rattle.pl_desc.specs.Rows.{Tables, row_of}
use Rattle.pl_state.specs.Contents.{Contents, core_of}
use Rattle.pl_state.specs.KernelView.{view_of}
use Rattle.pl_state.proofs.by_call.Closing.{row_found}
use Rattle.pl_descriptors.proofs.by_call.Duplicating.{below_all, above_all, within_all, place_is, dup2-closed, dup2-refused, dup2-same, dup2-free, dup2-does, dup2-wants}
use Rattle.pl_nodes.proofs.Keyed.{on_err}
use Rattle.pl_state.proofs.Known.{Caller, caller}
use Rattle.pl_descriptors.proofs.descriptors.dup2.Given.{Over}
use Rattle.pl_descriptors.proofs.descriptors.dup2.Goals.{After-find, After-find-2}
use Rattle.pl_descriptors.proofs.descriptors.dup2.Goals as goal
use Rattle.pl_descriptors.proofs.descriptors.dup2.Goals.{then-target-lt0-via-then-target-lt0, then-target-lt0-via-else-target-lt0+then-most-target, then-other-key, else-other-key}
use lib.Signed.{lt_z}
use lib.IntN.{nat_abs}

-- the process that calls, and what its descriptor names
module _ (g : Over) (c : After-find g) where
  abbrev calls : Caller g.row.A.Denot
  calls = caller c.kernel.inside c.kernel.invariant c.args.kernel.now c.kernel.view_is c.args.pid c.requires

  named : row_of calls.descs.tables c.args.pid c.args.fd ≡ c.find.result
  named = row_found calls.descs.tables c.args.pid c.args.fd c.ranges.fd c.find.result c.find.ensures

-- what the target names, within the table
module _ (g : Over) (c : After-find-2 g) where
  abbrev at_find : After-find g
  at_find = c.before.before.before.before

  abbrev at_call : Caller g.row.A.Denot
  at_call = calls g at_find

  abbrev tables : Tables
  tables = at_call.descs.tables

  abbrev before : Core g.row.A.Denot numbers
  before = core_of (view_of c.kernel.inside)

  target_is : to_z w32 (of_z w32 c.args.target) ≡ c.args.target
  target_is = to_z-of_z w32 c.args.target c.ranges.target

  within : is_descriptor c.kernel.inside.limits c.args.target ≡ true
  within = within_all c.kernel.inside.limits c.args.target (ap (λ z. lt_z z (pos 0)) (sym target_is) ∙ c.if-target-lt0.false) (omega (arith, c.descriptors-most.ensures, subst (λ z. nat_abs z < c.descriptors-most.result) target_is c.if-most-target.false))

  place : nat_abs (to_z w32 (of_z w32 c.args.target)) ≡ natural c.args.target
  place = ap nat_abs target_is ∙ place_is c.kernel.inside.limits c.args.target within

  row : row_of tables c.args.pid c.args.fd ≡ Some c.in-Some.key
  row = named g at_find ∙ c.in-Some.is

  target_names : row_of tables c.args.pid c.args.target ≡ c.find-2.result
  target_names = ap (row_of tables c.args.pid) (sym target_is) ∙ sym c.find-2.ensures

pub returns-in_default-clause-done : goal.returns-in_default-clause-done
returns-in_default-clause-done g c =
    let w = (goal.at.returns-in_default-clause-done g c).After-find in
    rw (← c.kernel.view_is) (dup2-closed (calls g w) c.args.fd c.args.target (named g w ∙ c.in_default.is))

pub returns-then-target-lt0-clause-done : goal.returns-then-target-lt0-clause-done
returns-then-target-lt0-clause-done g c =
    let w = (goal.at.returns-then-target-lt0-clause-done g c).After-find in
    let target_is = to_z-of_z w32 c.args.target c.ranges.target in
    let out : is_descriptor c.kernel.inside.limits c.args.target ≡ false = elim c.then-target-lt0.branch [
      | then-target-lt0-via-then-target-lt0 w ↦ below_all c.kernel.inside.limits c.args.target (ap (λ z. lt_z z (pos 0)) (sym target_is) ∙ w.if-target-lt0.true)
      | then-target-lt0-via-else-target-lt0+then-most-target w ↦ above_all c.kernel.inside.limits c.args.target (ap (λ z. lt_z z (pos 0)) (sym target_is) ∙ w.if-target-lt0.false) (omega (arith, c.descriptors-most.ensures, subst (λ z. c.descriptors-most.result ≤ nat_abs z) target_is w.if-most-target.true))
    ] in
    rw (← c.kernel.view_is) (dup2-refused (calls g w) c.args.fd c.args.target c.in-Some.key (named g w ∙ c.in-Some.is) out)

pub returns-in_err-assign-clause-wanted : goal.returns-in_err-assign-clause-wanted
returns-in_err-assign-clause-wanted g c =
    let w = (goal.at.returns-in_err-assign-clause-wanted g c).After-find-2 in
    on_err c.from_residual.result _ (rw (← c.kernel.view_is) (dup2-wants (at_call g w) c.args.fd c.args.target c.in-Some.key (row g w) (within g w)))

pub returns-in_err-assign-clause-frugal : goal.returns-in_err-assign-clause-frugal
returns-in_err-assign-clause-frugal g c =
    let w = (goal.at.returns-in_err-assign-clause-frugal g c).After-find-2 in
    let none : row_of c.args.kernel.now.tables c.args.pid c.args.target ≡ None = ap (λ k. row_of k.tables c.args.pid c.args.target) (sym c.kernel.view_is) ∙ target_names g w ∙ c.in_default-find.is in
    λ is_open. absurd (false≢true (subst (λ o. IsSome o) none is_open))

pub returns-in_default-find-clause-done : goal.returns-in_default-find-clause-done
returns-in_default-find-clause-done g c =
    let w = (goal.at.returns-in_default-find-clause-done g c).After-find-2 in
    let A = g.row.A.Denot in
    let new = c.assign.new.kernel in
    let named = subst (λ n. core_of new ≡ install (core_of c.args.kernel.now) c.args.pid n c.in-Some.key) (place g w) c.in_ok-assign.ensures.named in
    rw (← c.kernel.view_is, target_is g w) (dup2-free (at_call g w) c.args.fd c.args.target c.in-Some.key (row g w) (within g w) new
    (subst (λ (z : Contents A). core_of new ≡ install (core_of z) c.args.pid (natural c.args.target) c.in-Some.key) (sym c.kernel.view_is) named)
    (subst (λ (z : Contents A). settle (core_of z) (core_of new) ≡ core_of new) (sym c.kernel.view_is) c.in_ok-assign.ensures.settled))

pub returns-clause-done : goal.returns-clause-done
returns-clause-done g c =
    let v = (goal.at.returns-clause-done g c).After-find-2 in
    let A = g.row.A.Denot in
    let new = c.if-other-key.kernel in
    elim c.if-other-key.branch [
      | then-other-key w ↦
          let after = ap (λ (z : Contents A). core_of z) w.kernel-is ∙ w.replace.ensures in
          let named = subst (λ n. core_of new ≡ settle (core_of c.args.kernel.now) (install (core_of c.args.kernel.now) c.args.pid n c.in-Some.key)) (place g v) after in
          rw (← c.kernel.view_is, target_is g v) (dup2-does (at_call g v) c.args.fd c.args.target c.in-Some.key (row g v) (within g v) new
          (subst (λ (z : Contents A). core_of new ≡ settle (core_of z) (install (core_of z) c.args.pid (natural c.args.target) c.in-Some.key)) (sym c.kernel.view_is) named))
      | else-other-key w ↦
          let same : Some c.in-Some-find.other ≡ Some c.in-Some.key = ap (λ z. Some z) w.if-other-key.false in
          rw (← c.kernel.view_is, target_is g v) (dup2-same (at_call g v) c.args.fd c.args.target c.in-Some.key (row g v) (within g v) new (target_names g v ∙ c.in-Some-find.is ∙ same) (w.kernel-is ∙ sym c.kernel.view_is))
    ]
