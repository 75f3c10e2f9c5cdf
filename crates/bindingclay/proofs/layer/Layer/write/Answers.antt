use Rattle.std.proofs.Common.{◌∙◌, ap, subst, length, rules, w32, SFits, arith}
use Rattle.std.proofs.lemmas.Int.{to_z-of_z}
use Rattle.std.proofs.lemmas.List.{length-take}
use Rattle.pl_model.specs.Numbers.{most_bytes}
use Rattle.pl_model.specs.declared.calls.Call.{Call}
use Rattle.pl_model.specs.declared.calls.Step.TheVariants.{Begin}
use Rattle.bindingclay.specs.Made.{Makes, Moves, Wants, unmoved}
use Rattle.bindingclay.proofs.layer.Layer.write.Goals as goal

pub write_bytes-requires : goal.write_bytes-requires
write_bytes-requires c =
    let few = ap length c.within.ensures ∙ length-take most_bytes c.args.bytes.now in
    omega (arith, few)

pub returns-clause-makes : goal.returns-clause-makes
returns-clause-makes c =
    let fits : SFits w32 c.args.fd = search rules in
    subst (λ l. Makes c.args.self.now.kernel (Begin c.args.pid (Call.Write c.args.fd l)) (unmoved c.write_bytes.result) c.write_bytes.new.self.kernel) c.within.ensures (rw (to_z-of_z w32 c.args.fd fits) at c.write_bytes.ensures.makes)

pub returns-clause-moved : goal.returns-clause-moved
returns-clause-moved c =
    let fits : SFits w32 c.args.fd = search rules in
    subst (λ l. Moves c.args.self.now.kernel (Begin c.args.pid (Call.Write c.args.fd l)) c.write_bytes.result) c.within.ensures (rw (to_z-of_z w32 c.args.fd fits) at c.write_bytes.ensures.moved)

pub returns-clause-wants : goal.returns-clause-wants
returns-clause-wants c =
    let fits : SFits w32 c.args.fd = search rules in
    λ plain. subst (λ l. Wants c.args.self.now.kernel (Begin c.args.pid (Call.Write c.args.fd l)) c.write_bytes.result) c.within.ensures ((rw (to_z-of_z w32 c.args.fd fits) at c.write_bytes.ensures.wants) plain)
