use Rattle.std.proofs.Common.{◌≡◌, Some, sym, ◌∙◌, ap, subst}
use Rattle.std.specs.Prelude.{option_map}
use Rattle.pl_desc.specs.Rows.{row_of}
use Rattle.pl_desc.specs.Descs.{Opened}
use Rattle.pl_state.proofs.by_call.Closing.{row_found, open_here}
use Rattle.pl_model.specs.declared.calls.Call.TheVariants.{GetFl}
use Rattle.pl_model.specs.declared.calls.Step.TheVariants.{Begin}
use Rattle.pl_model.specs.declared.replies.Reply.TheVariants.{Flags}
use Rattle.pl_state.specs.KernelView.{view_of}
use Rattle.pl_state.specs.Makes.{MakesAtKeys}
use Rattle.pl_descriptors.proofs.by_call.Flagging.{get-closed, get-tells}
use Rattle.pl_state.proofs.Known.{Caller, caller}
use Rattle.pl_descriptors.proofs.descriptors.get_fl.Given.{Over}
use Rattle.pl_descriptors.proofs.descriptors.get_fl.Goals.{After-find}
use Rattle.pl_descriptors.proofs.descriptors.get_fl.Goals as goal

-- the process that calls, and what its descriptor names
module _ (g : Over) (c : After-find g) where
  abbrev calls : Caller g.row.A.Denot
  calls = caller c.kernel.inside c.kernel.invariant c.args.kernel.now c.kernel.view_is c.args.pid c.requires

  named : row_of calls.descs.tables c.args.pid c.args.fd ≡ c.find.result
  named = row_found calls.descs.tables c.args.pid c.args.fd c.ranges.fd c.find.result c.find.ensures

pub returns-in_default : goal.returns-in_default
returns-in_default g c =
    let w = (goal.at.returns-in_default g c).After-find in
    rw (← c.kernel.view_is) (get-closed (calls g w) c.args.fd (named g w ∙ c.in_default.is))

pub returns : goal.returns
returns g c =
    let w = (goal.at.returns g c).After-find in
    let k = view_of c.kernel.inside in
    let o = open_here (calls g w).kernel c.args.pid c.args.fd c.in-Some.key (named g w ∙ c.in-Some.is) in
    let mode_said : Some o.0.mode ≡ Some c.mode.result = sym (ap (option_map (λ (x : Opened). x.mode)) o.1) ∙ c.mode.ensures in
    let mode : o.0.mode ≡ c.mode.result = cc in
    let flags_said : Some o.0.flags ≡ Some c.flags.result = sym (ap (option_map (λ (x : Opened). x.flags)) o.1) ∙ c.flags.ensures in
    let flags : o.0.flags ≡ c.flags.result = cc in
    rw (← c.kernel.view_is) (subst (λ f. MakesAtKeys k (Begin c.args.pid (GetFl c.args.fd)) (Flags c.mode.result f) k) flags (subst (λ m. MakesAtKeys k (Begin c.args.pid (GetFl c.args.fd)) (Flags m o.0.flags) k) mode (get-tells (calls g w) c.args.fd c.in-Some.key (named g w ∙ c.in-Some.is) o.0 o.1)))
