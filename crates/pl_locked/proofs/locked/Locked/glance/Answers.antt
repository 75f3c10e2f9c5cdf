use Rattle.std.proofs.Common.{◌∙◌}
use Rattle.pl_locked.proofs.Subs.{sub_later}
use Rattle.pl_locked.proofs.locked.Locked.glance.Goals as goal

pub invariant_of-me : goal.invariant_of-me
invariant_of-me g c =
    let inv = c.me.invariant in
    let me = c.me.inside in
    (inv.0, inv.1, inv.2, c.look.ensures.same ∙ inv.3, sub_later me.number me.made me.eye.seen c.look.new.eye.seen inv.4 c.look.ensures.earlier, inv.5)
