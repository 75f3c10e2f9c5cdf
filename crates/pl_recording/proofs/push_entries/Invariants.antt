use Rattle.std.proofs.Common.{drop}
use Rattle.std.specs.Prelude.{string_bytes}
use Rattle.std.specs.List.{flat_map}
use Rattle.pl_lines.proofs.Pushing.{IsSoFar}
use Rattle.pl_recording.specs.Record.{entry_text, made_in}
use Rattle.pl_recording.proofs.push_entries.Given as goal

abbrev pub invariant-loop-entry : goal.invariant-loop-entry
invariant-loop-entry g l = IsSoFar (flat_map entry_text (made_in l.entries)) (string_bytes l.initial.text) (string_bytes l.text) (flat_map entry_text (made_in (drop l.entry-index l.entries)))
