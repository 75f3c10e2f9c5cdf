use Rattle.std.proofs.Common.{◌≡◌, ◌∙◌, Some, ap, sym, option_map}
use Rattle.std.specs.Prelude.{bit_and, bit_or}
use Rattle.pl_model.specs.declared.flags.OpenFlags.{OpenFlags}
use Rattle.pl_model.specs.Flags.{flags_set, direct}
use Rattle.pl_desc.specs.Rows.{at, row_of}
use Rattle.pl_desc.specs.Descs.{Opened}
use Rattle.pl_state.proofs.by_call.Closing.{row_found, open_here}
use Rattle.pl_descriptors.proofs.by_call.Flagging.{set-closed, set-sets, set-sound, set-held}
use Rattle.pl_state.proofs.Known.{Caller, caller}
use Rattle.pl_descriptors.proofs.descriptors.set_fl.Given.{Over}
use Rattle.pl_descriptors.proofs.descriptors.set_fl.Goals.{After-find, After-set_flags}
use Rattle.pl_descriptors.proofs.descriptors.set_fl.Goals as goal

-- the process that calls, and what its descriptor names
module _ (g : Over) (c : After-find g) where
  abbrev calls : Caller g.row.A.Denot
  calls = caller c.kernel.inside c.kernel.invariant c.args.kernel.now c.kernel.view_is c.args.pid c.requires

  named : row_of calls.descs.tables c.args.pid c.args.fd ≡ c.find.result
  named = row_found calls.descs.tables c.args.pid c.args.fd c.ranges.fd c.find.result c.find.ensures

-- the flags that are set are those that the call may set, and DIRECT as it was
module _ (g : Over) (c : After-set_flags g) (o : Opened) (here : at c.kernel.inside.descs.opened c.in-Some.key ≡ Some o) where
  had : c.flags.result ≡ o.flags
  had = (let told : Some o.flags ≡ Some c.flags.result = sym (ap (option_map (λ (x : Opened). x.flags)) here) ∙ c.flags.ensures in cc)

  is_set : c.union-set.result ≡ flags_set o.flags c.args.flags
  is_set = λ i. record {
    0 = (
        c.union-set.ensures tt
        ∙ (λ j. bit_or ((c.intersection-asked.ensures tt ∙ ap (bit_and c.args.flags.0) (c.union-status.ensures tt)) j) ((c.intersection-kept.ensures tt ∙ ap (λ (f : OpenFlags). bit_and f.0 direct) had) j))) i;
  }

pub returns-in_default : goal.returns-in_default
returns-in_default g c =
    let w = (goal.at.returns-in_default g c).After-find in
    rw (← c.kernel.view_is) (set-closed (calls g w) c.args.fd c.args.flags (named g w ∙ c.in_default.is))

pub invariant_of-kernel : goal.invariant_of-kernel
invariant_of-kernel g c =
    let w = (goal.at.invariant_of-kernel g c).After-find in
    let o = open_here (calls g w).kernel c.args.pid c.args.fd c.in-Some.key (named g w ∙ c.in-Some.is) in
    let is = is_set g (goal.at.invariant_of-kernel g c).After-set_flags o.0 o.1 in
    let opened = c.set_flags.ensures.opened in
    let rest = c.set_flags.ensures.rest in (
      set-sound (calls g w) c.args.fd c.args.flags c.in-Some.key (named g w ∙ c.in-Some.is) o.0 o.1 c.union-set.result is c.set_flags.new.self opened rest,
      set-held (calls g w) c.args.fd c.args.flags c.in-Some.key (named g w ∙ c.in-Some.is) o.0 o.1 c.union-set.result is c.set_flags.new.self opened rest c.set_flags.ensures.tidy,
    )

pub returns : goal.returns
returns g c =
    let w = (goal.at.returns g c).After-find in
    let o = open_here (calls g w).kernel c.args.pid c.args.fd c.in-Some.key (named g w ∙ c.in-Some.is) in
    let is = is_set g (goal.at.returns g c).After-set_flags o.0 o.1 in
    rw (← c.kernel.view_is) (set-sets (calls g w) c.args.fd c.args.flags c.in-Some.key (named g w ∙ c.in-Some.is) o.0 o.1 c.union-set.result is c.set_flags.new.self c.set_flags.ensures.opened c.set_flags.ensures.rest)
