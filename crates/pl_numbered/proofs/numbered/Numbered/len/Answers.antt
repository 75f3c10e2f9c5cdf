use Rattle.std.proofs.Common.{arith}
use Rattle.pl_numbered.proofs.EntryLemmas.{length-values}
use Rattle.pl_numbered.proofs.numbered.Numbered.len.Goals as goal

pub returns : goal.returns
returns g c =
    let all = length-values c.args.self.now.entries.items in
    let count = c.args.self.now.kept.count in
    let len = c.args.self.now.entries.ok.0 in
    let n = c.len.ensures in
    omega (arith, all, count, len, n)
