use Rattle.pl_state.specs.Contents.{core_of}
use Rattle.pl_waiters.specs.Seen.{SameKnown}
use Rattle.pl_kernel.specs.Index.{Knows}
use Rattle.pl_kernel.proofs.asking.drop_ended.Given as goal

-- the index knows what it knew
abbrev pub invariant-loop : goal.invariant-loop
invariant-loop g l = record {
  knows : Knows (core_of l.state) l.waiters;
  known : SameKnown l.initial.waiters l.waiters;
}
