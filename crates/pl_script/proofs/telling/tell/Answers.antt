use Rattle.std.proofs.Common.{[], refl, sym, append-nil}
use Rattle.std.specs.Prelude.{Ok, Err}
use Rattle.pl_script.proofs.LiveSteps.{flushed_so}
use Rattle.pl_script.proofs.telling.tell.Goals as goal

pub returns-in-Ok-clause-talk : goal.returns-in-Ok-clause-talk
returns-in-Ok-clause-talk g c = λ first t said. flushed_so first _ _ _ (c.in_ok-write_each.ensures.talk first t said) (Ok tt) c.in-Ok.ensures.side

pub returns-in-Err-clause-talk : goal.returns-in-Err-clause-talk
returns-in-Err-clause-talk g c = λ first t said. (refl, (c.args.bytes.now, [], sym (append-nil c.args.bytes.now), flushed_so first _ _ _ (c.in_ok-write_each.ensures.talk first t said) (Err tt) c.in-Err.ensures.side))
