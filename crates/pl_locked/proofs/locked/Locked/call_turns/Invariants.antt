use Rattle.std.proofs.Common.{◌≡◌, length}
use Rattle.pl_locked.specs.Views.{UsesTurns, WaitsIn}
use Rattle.pl_locked.proofs.locked.Locked.call_turns.Given as goal

-- the call waits after so many turns, and the caller knows how many steps it has seen
abbrev pub invariant-loop-turn : goal.invariant-loop-turn
invariant-loop-turn g l = record {
  waits : WaitsIn l.turn g.N.Layer.limits g.N.Layer.max_steps l.fn.pid l.fn.call l.number l.fn.me l.me;
  turns : UsesTurns l.turn g.N.Layer.limits g.N.Layer.max_steps l.fn.pid l.fn.call l.number l.fn.me l.me;
  seen : l.seen ≡ length l.me.seen;
}
