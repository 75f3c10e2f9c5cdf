use Rattle.std.proofs.Common.{refl, rules, w32, SFits}
use Rattle.std.proofs.lemmas.Int.{to_z-of_z}
use Rattle.pl_model.specs.declared.calls.Call.{Call}
use Rattle.pl_model.specs.declared.calls.Step.TheVariants.{Begin}
use Rattle.pl_kernel.proofs.Stepping.{makes, wants}
use Rattle.pl_kernel.proofs.Buffering.{if_some, if_none}
use Rattle.pl_kernel.proofs.kernel.Kernel.refusal_of_write.Goals as goal

pub returns-clause-some : goal.returns-clause-some
returns-clause-some g c =
    let fits : SFits w32 c.args.fd = search rules in
    rw (← c.self.view_is) (if_some c.refusal_of_write.result (λ reply does bytes many. makes c.self.inside.state c.self.inside.state (Begin c.args.pid (Call.Write c.args.fd bytes)) reply (does bytes many)) (rw (to_z-of_z w32 c.args.fd fits) at c.refusal_of_write.ensures.some))

pub returns-clause-none : goal.returns-clause-none
returns-clause-none g c =
    let fits : SFits w32 c.args.fd = search rules in
    rw (← c.self.view_is) (if_none c.refusal_of_write.result (λ may bytes many. wants c.self.inside.state (Begin c.args.pid (Call.Write c.args.fd bytes)) (may bytes many) refl) (rw (to_z-of_z w32 c.args.fd fits) at c.refusal_of_write.ensures.none))
