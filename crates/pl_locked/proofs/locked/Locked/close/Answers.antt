use Rattle.std.proofs.Common.{ℕ, ◌<◌, refl, subst}
use Rattle.pl_locked.specs.Views.{HasCaller, IsLeastMissing}
use Rattle.pl_locked.proofs.locked.Locked.close.Goals as goal

pub finish-requires : goal.finish-requires
finish-requires g c = subst (λ cs. (k : ℕ) → k < g.N.Layer.callers → HasCaller cs k) c.as_slice.ensures.value c.in-None.ensures

pub returns-in-Some-clause-missing : goal.returns-in-Some-clause-missing
returns-in-Some-clause-missing g c = (subst (λ cs. IsLeastMissing g.N.Layer.callers cs c.in-Some.number) c.as_slice.ensures.value c.in-Some.ensures, refl)

pub returns-in-None-clause-here : goal.returns-in-None-clause-here
returns-in-None-clause-here g c = subst (λ cs. (k : ℕ) → k < g.N.Layer.callers → HasCaller cs k) c.as_slice.ensures.value c.in-None.ensures
