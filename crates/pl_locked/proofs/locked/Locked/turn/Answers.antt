use Rattle.std.proofs.Common.{◌∙◌}
use Rattle.std.specs.Sync.Mutex.{mutex_guard_value}
use Rattle.pl_locked.specs.Views.{CouldEnd}
use Rattle.pl_locked.proofs.Calls.{gets_on, none_made, none_seen, none_tried}
use Rattle.pl_locked.proofs.locked.Locked.turn.Given.{Over}
use Rattle.pl_locked.proofs.locked.Locked.turn.Goals.{After-make, in-Some, in-None}
use Rattle.pl_locked.proofs.locked.Locked.turn.Goals as goal

-- the call could end as it was tried
module _ (g : Over) (c : After-make g) where
  could : CouldEnd {A = g.row.A.Denot} g.N.Layer.limits g.N.Layer.max_steps (mutex_guard_value c.match-look.desk).journal c.args.number
  could = elim c.match-look.branch [ in-Some w ↦ rw w.desk-is w.in-Some.ensures.helped | in-None w ↦ rw w.desk-is w.sleep-desk.ensures ]

pub returns-in-Err-clause-helped : goal.returns-in-Err-clause-helped
returns-in-Err-clause-helped g c = none_made _ _ _ (c.in-Err.ensures.unmade.0.made ∙ c.look.ensures.sees.made)

pub returns-in-Ok-Parked-default-clause-helped : goal.returns-in-Ok-Parked-default-clause-helped
returns-in-Ok-Parked-default-clause-helped g c =
    none_seen _ _ _ _ c.look.ensures.sees.made (none_tried _ _ _ _ _ _ _ c.in-Ok-Parked-default.ensures.made c.in-Ok-Parked-default.ensures.behind (gets_on _ _ _ _ _ (could g (goal.at.returns-in-Ok-Parked-default-clause-helped g c).After-make) c.in-Ok-Parked-default.ensures.behind c.in-Ok-Parked-default.ensures.made.knows))

pub returns-in-Ok-clause-helped : goal.returns-in-Ok-clause-helped
returns-in-Ok-clause-helped g c = none_seen _ _ _ _ c.look.ensures.sees.made (none_tried _ _ _ _ _ _ _ c.in-Ok.ensures.made c.in-Ok.ensures.behind (gets_on _ _ _ _ _ (could g (goal.at.returns-in-Ok-clause-helped g c).After-make) c.in-Ok.ensures.behind c.in-Ok.ensures.made.knows))
