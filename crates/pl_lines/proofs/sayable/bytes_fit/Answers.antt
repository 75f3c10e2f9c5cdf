use Rattle.std.proofs.Common.{arith}
use Rattle.std.proofs.lemmas.List.Elements.{All-from_get_or}
use Rattle.pl_model.specs.Said.{IsByte}
use Rattle.pl_lines.proofs.sayable.bytes_fit.Goals as goal

pub returns : goal.returns
returns c = All-from_get_or IsByte c.args.bytes.now 0 (λ i lt. omega (arith, c.type_inv.bytes i))
