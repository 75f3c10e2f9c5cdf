use Rattle.pl_locked.proofs.Calls.{none_later, waits_more, waits_sees}
use Rattle.pl_locked.proofs.locked.Locked.call.Goals as goal

pub turns-preserved : goal.turns-preserved
turns-preserved g c =
    (waits_more _ _ _ _ _ _ _ _ c.turns.invariant.0 (rw c.in-Ok-None.field-0-is at c.in-Ok-None.ensures.made), none_later _ _ _ _ c.turns.invariant.1 c.turn.ensures.helped)

pub returns-in-Ok-Some-clause-helped : goal.returns-in-Ok-Some-clause-helped
returns-in-Ok-Some-clause-helped g c = none_later _ _ _ _ c.turns.invariant.1 c.turn.ensures.helped

pub returns-in-Err-turn-clause-fault : goal.returns-in-Err-turn-clause-fault
returns-in-Err-turn-clause-fault g c = (waits_sees _ _ _ _ _ _ _ _ c.turns.invariant.0 c.in-Err-turn.ensures.unmade.0, c.in-Err-turn.ensures.unmade.1)
