use Rattle.std.proofs.Common.{MatchOption, subst, sym, ◌∙◌, rules, w32, SFits}
use Rattle.std.proofs.lemmas.Int.{to_z-of_z}
use Rattle.std.specs.Prelude.{⊤}
use Rattle.pl_model.specs.declared.calls.Call.{Call}
use Rattle.pl_model.specs.declared.calls.Step.TheVariants.{Begin}
use Rattle.bindingclay.specs.Made.{Wants}
use Rattle.bindingclay.proofs.layer.Layer.lseek.Goals as goal

pub returns-clause-wants : goal.returns-clause-wants
returns-clause-wants c =
    let fits : SFits w32 c.args.whence = search rules in
    λ plain. subst (λ z. MatchOption z ⊤ (λ whence. Wants c.args.self.now.kernel (Begin c.args.pid (Call.Lseek c.args.fd c.args.offset whence)) c.step.result))
    (sym c.in-Some.is ∙ (rw (to_z-of_z w32 c.args.whence fits) at c.whence_of_number.ensures)) (c.step.ensures.wants plain)
