use Rattle.std.proofs.Common.{◌≡◌, ℤ, None, MatchOption, subst, rules, w32, w64, SFits}
use mir.Val.{to_z, of_z}
use Rattle.std.proofs.lemmas.Int.{to_z-of_z}
use Rattle.std.specs.Prelude.{⊤}
use Rattle.pl_model.specs.declared.calls.Call.{Call}
use Rattle.pl_model.specs.declared.calls.Step.TheVariants.{Begin}
use Rattle.pl_numbers.specs.Places.{whence_of_number}
use Rattle.bindingclay.specs.declared.layer.Layer.{Layer}
use Rattle.bindingclay.specs.Made.{Wants}
use Rattle.bindingclay.proofs.descriptors.bindingclay_lseek.Goals as goal

pub returns-clause-wants : goal.returns-clause-wants
returns-clause-wants c =
    let fd : SFits w32 c.args.fd = search rules in
    let offset : SFits w64 c.args.offset = search rules in
    let whence : SFits w32 c.args.whence = search rules in
    let P : Layer → ℤ → ℤ → ℤ → Type 0 =
    λ z f o w. z.recorder ≡ None → MatchOption (whence_of_number w) ⊤ (λ whence. Wants z.kernel (Begin c.args.pid (Call.Lseek f o whence)) c.lseek.result) in
    let layer = c.layer.result.now in
    subst (λ z. P z c.args.fd c.args.offset c.args.whence) c.layer.ensures
    (subst (λ w. P layer c.args.fd c.args.offset w) (to_z-of_z w32 c.args.whence whence)
    (subst (λ o. P layer c.args.fd o (to_z w32 (of_z w32 c.args.whence))) (to_z-of_z w64 c.args.offset offset)
    (subst (λ f. P layer f (to_z w64 (of_z w64 c.args.offset)) (to_z w32 (of_z w32 c.args.whence))) (to_z-of_z w32 c.args.fd fd) c.lseek.ensures.wants)))
