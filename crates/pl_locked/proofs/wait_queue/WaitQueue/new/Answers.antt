use Rattle.std.proofs.Common.{sym, subst, false, ◌≡◌, List}
use Rattle.std.specs.List.{list_any}
use Rattle.pl_locked.specs.declared.waiting.Waiting.{Waiting}
use Rattle.pl_locked.specs.Waking.{waits}
use Rattle.pl_locked.proofs.Quiet.{none_waits}
use Rattle.pl_locked.proofs.wait_queue.WaitQueue.new.Goals as goal

pub invariant_of-result : goal.invariant_of-result
invariant_of-result g c = λ _. subst (λ (ws : List Waiting). list_any waits ws ≡ false) (sym c.in_ok-waiting.ensures) (none_waits c.args.callers)
