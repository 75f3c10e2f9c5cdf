use Rattle.std.proofs.Common.{subst}
use Rattle.pl_kernel.specs.ToldSegments.{TellsNone}
use Rattle.bindingclay.specs.Heap.{InBudget}
use Rattle.bindingclay.specs.declared.layer.Layer.{Layer}
use Rattle.bindingclay.proofs.facts.bindingclay_stats.Goals as goal

pub returns-clause-none : goal.returns-clause-none
returns-clause-none c = subst (λ (z : Layer). TellsNone {A = InBudget} z.kernel c.segments.result.used) c.layer.ensures c.segments.ensures.none
