use Rattle.std.proofs.Common.{◌≡◌, ◌∙◌, length, rules, w32, SFits}
use Rattle.std.proofs.lemmas.Int.{to_z-of_z}
use Rattle.bindingclay.specs.Heap.{InBudget}
use Rattle.pl_model.specs.declared.calls.Call.{Call}
use Rattle.pl_model.specs.declared.calls.Step.{Step}
use Rattle.pl_model.specs.declared.calls.Step.TheVariants.{Begin}
use Rattle.pl_transfers.specs.ReadInto.{told}
use Rattle.bindingclay.specs.Made.{bytes_after}
use Rattle.bindingclay.proofs.Telling.{replied, of_reply, read_says, read_leaves}
use Rattle.bindingclay.proofs.layer.recorded.read.Goals as goal

pub returns-in-Ok-read_into-clause-makes : goal.returns-in-Ok-read_into-clause-makes
returns-in-Ok-read_into-clause-makes c =
    let fits : SFits w32 c.args.fd = search rules in
    let x : Step InBudget = Begin c.args.pid (Call.Read c.args.fd (length c.args.into.now)) in
    let r = c.in-Ok-read_into.reply in
    let into = c.read_into.new.into in
    replied c.args.kernel.now x c.answer_of_read-answer.result (told r into) c.read_into.new.self (rw (to_z-of_z w32 c.args.fd fits) at c.in-Ok-read_into.ensures.made)
    (c.answer_of_read-answer.ensures ∙ read_says r into c.in-Ok-read_into.ensures.within)

pub returns-in-Ok-read_into-clause-bytes : goal.returns-in-Ok-read_into-clause-bytes
returns-in-Ok-read_into-clause-bytes c =
    let fits : SFits w32 c.args.fd = search rules in
    let x : Step InBudget = Begin c.args.pid (Call.Read c.args.fd (length c.args.into.now)) in
    let r = c.in-Ok-read_into.reply in
    let into = c.read_into.new.into in
    of_reply c.args.kernel.now x c.answer_of_read-answer.result (told r into) c.read_into.new.self (rw (to_z-of_z w32 c.args.fd fits) at c.in-Ok-read_into.ensures.made)
    (λ reply. into ≡ bytes_after c.args.into.now reply) (read_leaves r c.args.into.now into c.in-Ok-read_into.ensures.within c.in-Ok-read_into.ensures.rest)
