use Rattle.std.proofs.Common.{◌≤◌, ◌^◌, arith}
use Rattle.pl_locked.proofs.Tallying.{tallies_none}
use Rattle.pl_locked.proofs.books.Books.new.Goals as goal

pub invariant_of-result : goal.invariant_of-result
invariant_of-result g c =
    let few : g.N.Layer.max_steps ≤ 2 ^ 62 = omega (arith, c.requires.most.0, c.requires.most.2) in
    rw (c.requires.recorded, c.requires.counts) (tallies_none g.N.Layer.callers g.N.Layer.max_steps, c.requires.shares, c.requires.most.0, c.requires.most.1, few, c.requires.spare)
