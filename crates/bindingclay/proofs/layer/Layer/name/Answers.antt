use Rattle.std.proofs.Common.{ap, ◌∙◌, take}
use Rattle.std.proofs.lemmas.List.{take_min}
use Rattle.bindingclay.proofs.layer.Layer.name.Goals as goal

pub returns : goal.returns
returns c =
    c.from_vec.ensures ∙ c.in_ok-from_slice.ensures.items ∙ ap (λ k. take k c.args.bytes.now) c.min-count.ensures ∙ take_min 256 c.args.bytes.now
