use Rattle.std.proofs.Common.{◌≡◌, sym, subst, ◌∙◌}
use Rattle.std.specs.Prelude.{IsSome}
use Rattle.pl_desc.specs.Rows.{row_of, lowest_of}
use Rattle.pl_state.specs.Contents.{Contents}
use Rattle.pl_descriptors.specs.Duplicates.{Duplicates}
use Rattle.pl_state.proofs.by_call.Closing.{row_found}
use Rattle.pl_descriptors.proofs.by_call.Duplicating.{on_reply, on_want, dup-closed, dup-does, dup-wants}
use Rattle.pl_state.proofs.Known.{Caller, caller}
use Rattle.pl_descriptors.proofs.descriptors.dup.Given.{Over}
use Rattle.pl_descriptors.proofs.descriptors.dup.Goals.{After-find}
use Rattle.pl_descriptors.proofs.descriptors.dup.Goals as goal
use Rattle.pl_model.specs.Tables.{descriptor_limit}

-- the process that calls, and what its descriptor names
module _ (g : Over) (c : After-find g) where
  abbrev calls : Caller g.row.A.Denot
  calls = caller c.kernel.inside c.kernel.invariant c.args.kernel.now c.kernel.view_is c.args.pid c.requires

  named : row_of calls.descs.tables c.args.pid c.args.fd ≡ c.find.result
  named = row_found calls.descs.tables c.args.pid c.args.fd c.ranges.fd c.find.result c.find.ensures

pub returns-in_default-clause-done : goal.returns-in_default-clause-done
returns-in_default-clause-done g c =
    let w = (goal.at.returns-in_default-clause-done g c).After-find in
    rw (← c.kernel.view_is) (dup-closed (calls g w) c.args.fd (named g w ∙ c.in_default.is))

pub returns-clause-done : goal.returns-clause-done
returns-clause-done g c =
    let w = (goal.at.returns-clause-done g c).After-find in
    let k = c.args.kernel.now in
    let row = named g w ∙ c.in-Some.is in
    on_reply c.duplicate.result
    (λ reply done. rw (← c.kernel.view_is) (dup-does (calls g w) c.args.fd c.in-Some.key row reply c.duplicate.new.kernel
    (subst (λ (z : Contents g.row.A.Denot). Duplicates z c.args.pid c.in-Some.key (lowest_of z.tables (descriptor_limit z.limits) c.args.pid 0) reply c.duplicate.new.kernel) (sym c.kernel.view_is) done)))
    c.duplicate.ensures.done

pub returns-clause-wanted : goal.returns-clause-wanted
returns-clause-wanted g c =
    let w = (goal.at.returns-clause-wanted g c).After-find in
    on_want c.duplicate.result
    (λ some. rw (← c.kernel.view_is) (dup-wants (calls g w) c.args.fd c.in-Some.key (named g w ∙ c.in-Some.is)
    (subst (λ (z : Contents g.row.A.Denot). IsSome (lowest_of z.tables (descriptor_limit z.limits) c.args.pid 0)) (sym c.kernel.view_is) some)))
    c.duplicate.ensures.wanted
