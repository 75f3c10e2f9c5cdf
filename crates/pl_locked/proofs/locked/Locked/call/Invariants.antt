use Rattle.pl_locked.specs.Views.{NoneInVain, Waits}
use Rattle.pl_locked.proofs.locked.Locked.call.Given as goal

-- the call waits, and no try was in vain
abbrev pub invariant-turns : goal.invariant-turns
invariant-turns g l =
    Waits g.N.Layer.limits g.N.Layer.max_steps l.fn.pid l.fn.call l.number l.fn.me l.me
    × NoneInVain g.N.Layer.limits l.fn.me l.me
