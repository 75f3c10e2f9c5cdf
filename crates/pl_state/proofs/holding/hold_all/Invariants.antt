use Rattle.std.proofs.Common.{◌≡◌, ℕ, ◌+◌, take}
use Rattle.pl_desc.specs.Rows.{count_at}
use Rattle.pl_desc.specs.Descs.{IsTidy}
use Rattle.pl_state.specs.Sound.{times}
use Rattle.pl_state.proofs.holding.hold_all.Given as goal

-- those before this place are held
abbrev pub invariant-loop-place : goal.invariant-loop-place
invariant-loop-place g l = record {
  loose : (key : ℕ) → count_at l.descs.loose key ≡ count_at l.fn.descs.loose key + times (take l.place l.keys) key;
  rest : l.descs ≡ record l.fn.descs { loose = l.descs.loose };
  tidy : IsTidy l.descs;
}
