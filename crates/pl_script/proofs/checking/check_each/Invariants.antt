use Rattle.std.proofs.Common.{◌≡◌, length}
use Rattle.std.specs.Prelude.{string_bytes}
use Rattle.pl_model.specs.declared.calls.Limits.{Limits}
use Rattle.pl_model.specs.Numbered.{opening}
use Rattle.pl_model.specs.Script.{lines}
use Rattle.pl_state.specs.Makes.{Stands}
use Rattle.pl_script.specs.Comparing.{text_of}
use Rattle.pl_script.proofs.CheckSteps.{IsUnderCheck}
use Rattle.pl_script.proofs.checking.check_each.Given as goal

abbrev pub invariant-loop-rest : goal.invariant-loop-rest
invariant-loop-rest g l = record {
  underway : (limits : Limits) → Stands l.initial.kernel (opening {A = g.row.A.Denot} limits) → IsUnderCheck {A = g.row.A.Denot} l.all l.script limits (Stands l.kernel) (text_of (string_bytes l.last)) l.out.items l.checked l.number (lines l.rest) (g.T.Sink.contents l.initial.writer) (g.T.Sink.contents l.writer);
  kept : g.T.Sink.has_stopped l.writer ≡ g.T.Sink.has_stopped l.initial.writer;
}

abbrev pub decreases-loop-rest : goal.decreases-loop-rest
decreases-loop-rest g l = length l.rest
