use Rattle.std.proofs.Common.{◌∙◌, ap, refl, rules, w32, SFits}
use Rattle.std.proofs.lemmas.Int.{to_z-of_z}
use Rattle.bindingclay.specs.Heap.{InBudget}
use Rattle.pl_model.specs.declared.calls.Call.{Call}
use Rattle.pl_model.specs.declared.calls.Step.{Step}
use Rattle.pl_model.specs.declared.calls.Step.TheVariants.{Begin}
use Rattle.pl_model.specs.declared.replies.Reply.{Reply}
use Rattle.pl_numbers.specs.Answers.{said}
use Rattle.pl_transfers.specs.Waits.{reply_of}
use Rattle.bindingclay.specs.Made.{unmoved}
use Rattle.bindingclay.proofs.Telling.{replied, says_unmoved}
use Rattle.bindingclay.proofs.AsTold.{write_as_told}
use Rattle.bindingclay.proofs.Moving.{moves}
use Rattle.bindingclay.proofs.layer.recorded.write.Goals as goal

pub returns-in-Ok-clause-makes : goal.returns-in-Ok-clause-makes
returns-in-Ok-clause-makes c =
    let fits : SFits w32 c.args.fd = search rules in
    let x : Step InBudget = Begin c.args.pid (Call.Write c.args.fd c.args.bytes.now) in
    let r : Reply InBudget = reply_of c.in-Ok.reply in
    replied c.args.kernel.now x (unmoved c.answer_of_written.result) r c.write_from.new.self (rw (to_z-of_z w32 c.args.fd fits) at c.in-Ok.ensures.made)
    (ap unmoved c.answer_of_written.ensures.rest ∙ says_unmoved (said r) r refl)

pub returns-in-Ok-clause-moved : goal.returns-in-Ok-clause-moved
returns-in-Ok-clause-moved c =
    let fits : SFits w32 c.args.fd = search rules in
    let x : Step InBudget = Begin c.args.pid (Call.Write c.args.fd c.args.bytes.now) in
    let t = c.answer_of_written.ensures in
    let r : Reply InBudget = reply_of c.in-Ok.reply in
    moves c.args.kernel.now x c.answer_of_written.result c.write_from.new.self 0 (λ s stands. refl) (said r) (record { rest = t.rest; value = t.value; others = t.others })
    (λ s order. write_as_told s c.args.pid c.args.fd c.args.bytes.now order) (reply_of c.in-Ok.reply) (rw (to_z-of_z w32 c.args.fd fits) at c.in-Ok.ensures.made) refl
