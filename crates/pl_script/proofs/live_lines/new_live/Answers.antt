use Rattle.std.proofs.Common.{refl}
use Rattle.pl_script.proofs.LiveSteps.{new_run}
use Rattle.pl_script.proofs.live_lines.new_live.Goals as goal

pub returns : goal.returns
returns g c = (new_run c.args.limits _ c.new.ensures c.new-2.ensures.bytes c.new-3.ensures.items refl refl refl refl, c.new-2.ensures.bytes)
