use Rattle.std.proofs.Common.{◌≡◌, ◌≤◌, ◌∙◌, subst, length, length-take-le, take, rules, w32, SFits, arith}
use Rattle.std.proofs.lemmas.Int.{to_z-of_z}
use Rattle.pl_model.specs.declared.calls.Call.{Call}
use Rattle.pl_model.specs.declared.calls.Step.TheVariants.{Begin}
use Rattle.bindingclay.specs.Made.{Replied, bytes_after}
use Rattle.bindingclay.proofs.Telling.{cut_leaves}
use Rattle.bindingclay.proofs.layer.Layer.read.Goals as goal

pub returns-clause-bytes : goal.returns-clause-bytes
returns-clause-bytes c =
    let fits : SFits w32 c.args.fd = search rules in
    let before = c.args.into.now in
    let count = c.min-count.result in
    let few : count ≤ length before = (let least = c.min-count.ensures in omega arith) in
    let bytes = subst (λ n. Replied c.args.self.now.kernel (Begin c.args.pid (Call.Read c.args.fd n)) c.read_bytes.result (λ reply. c.read_bytes.new.into ≡ bytes_after (take count before) reply))
    (length-take-le count before few ∙ c.min-count.ensures) (rw (to_z-of_z w32 c.args.fd fits) at c.read_bytes.ensures.bytes) in
    λ kind s stands. cut_leaves _ before c.read_bytes.new.into count (bytes kind s stands) c.read_bytes.auto.into
