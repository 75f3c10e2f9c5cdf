use Rattle.std.proofs.Common.{drop, map}
use Rattle.std.specs.Prelude.{string_bytes}
use Rattle.pl_model.specs.Said.{said_entry}
use Rattle.pl_lines.specs.Blanks.{behind_blank}
use Rattle.pl_lines.proofs.Pushing.{IsSoFar}
use Rattle.pl_lines.proofs.said_words.push_entries.Given as goal

abbrev pub invariant-loop-entry : goal.invariant-loop-entry
invariant-loop-entry g l = IsSoFar (behind_blank (map said_entry l.entries)) (string_bytes l.initial.text) (string_bytes l.text) (behind_blank (map said_entry (drop l.entry-index l.entries)))
