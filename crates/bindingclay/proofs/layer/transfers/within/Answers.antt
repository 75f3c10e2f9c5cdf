use Rattle.std.proofs.Common.{sym, arith}
use Rattle.std.proofs.lemmas.List.{take_all}
use Rattle.bindingclay.proofs.layer.transfers.within.Goals as goal

pub returns : goal.returns
returns c = let few = c.if-bytes-gt-MOST_BYTES.false in sym (take_all 16777216 c.args.bytes.now (omega (arith, few)))
