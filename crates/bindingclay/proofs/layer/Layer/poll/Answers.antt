use Rattle.std.proofs.Common.{◌≡◌}
use Rattle.bindingclay.specs.Heap.{InBudget}
use Rattle.pl_model.specs.declared.calls.Call.{Call}
use Rattle.pl_model.specs.declared.calls.Step.{Step}
use Rattle.pl_model.specs.declared.calls.Step.TheVariants.{Begin}
use Rattle.pl_polls.specs.Entries.{asked, entries_after}
use Rattle.pl_polls.specs.Into.{told}
use Rattle.bindingclay.proofs.Telling.{replied, of_reply}
use Rattle.bindingclay.proofs.layer.Layer.poll.Goals as goal

pub returns-in-Ok-clause-makes : goal.returns-in-Ok-clause-makes
returns-in-Ok-clause-makes c =
    let x : Step InBudget = Begin c.args.pid (Call.Poll (asked c.args.entries.now) c.args.wait) in
    let noted = c.poll_into.new.entries in
    replied c.args.self.now.kernel x c.answer_of_poll.result (told c.in-Ok.reply noted) c.poll_into.new.self c.in-Ok.ensures.made (c.answer_of_poll.ensures noted)

pub returns-in-Ok-clause-entries : goal.returns-in-Ok-clause-entries
returns-in-Ok-clause-entries c =
    let x : Step InBudget = Begin c.args.pid (Call.Poll (asked c.args.entries.now) c.args.wait) in
    let noted = c.poll_into.new.entries in
    of_reply c.args.self.now.kernel x c.answer_of_poll.result (told c.in-Ok.reply noted) c.poll_into.new.self c.in-Ok.ensures.made (λ reply. noted ≡ entries_after c.args.entries.now reply) c.in-Ok.ensures.noted
