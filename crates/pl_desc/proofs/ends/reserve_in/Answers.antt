use Rattle.std.proofs.Common.{◌≤◌, ◌+◌, ap, ◌∙◌, length, arith}
use Rattle.pl_desc.specs.Ends.{ends_in}
use Rattle.pl_desc.proofs.EndLemmas.{ends-grown}
use Rattle.pl_desc.proofs.ends.reserve_in.Goals as goal

pub returns-clause-kept : goal.returns-clause-kept
returns-clause-kept g c =
    let short : length c.args.list.now.items ≤ c.args.key + 1 = omega (arith, c.args.list.now.ok.0) in
    ap ends_in c.in_ok-resize.ensures.items ∙ ends-grown c.args.list.now.items (c.args.key + 1) _ short
