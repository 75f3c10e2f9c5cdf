use Rattle.std.specs.Prelude.{string_bytes}
use Rattle.pl_lines.proofs.Masks.{ArePut}
use Rattle.pl_lines.proofs.text.push_names.Given as goal

abbrev pub invariant-loop-flag : goal.invariant-loop-flag
invariant-loop-flag g l = ArePut (λ n. g.F.Flags.set_of n.0) (λ n. n.1.now) (g.F.Flags.set_of l.set) l.names (string_bytes l.initial.text) (string_bytes l.text) l.others l.flag-index
