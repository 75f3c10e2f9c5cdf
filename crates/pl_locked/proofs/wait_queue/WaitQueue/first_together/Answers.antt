use Rattle.std.proofs.Common.{List, get_or, ap, sym, ◌∙◌}
use Rattle.pl_locked.specs.declared.waiting.Waiting.{Waiting}
use Rattle.pl_locked.specs.Waking.{Notes}
use Rattle.pl_locked.proofs.Sleeping.{first_at, first_none}
use Rattle.pl_locked.proofs.wait_queue.WaitQueue.first_together.Goals as goal

pub returns : goal.returns
returns g c =
    let waiting = ap (λ (z : Notes). z.waiting) c.self.view_is in
    let found = sym c.place_together.ensures.place ∙ c.in_ok-place.was in
    c.call_together.ensures ∙ sym (first_at c.args.self.now.waiting c.in_ok-place.place c.index.result.now found (c.index.ensures ∙ ap (λ (ws : List Waiting). get_or ws c.in_ok-place.place c.index.result.now) waiting))

pub returns-in_err-place : goal.returns-in_err-place
returns-in_err-place g c = c.from_residual.ensures ∙ sym (first_none c.args.self.now.waiting (sym c.place_together.ensures.place ∙ c.in_err-place.was))
