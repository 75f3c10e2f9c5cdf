use Rattle.std.proofs.Common.{drop}
use Rattle.std.specs.Prelude.{string_bytes}
use Rattle.std.specs.List.{flat_map}
use Rattle.pl_model.specs.Said.{said_byte}
use Rattle.pl_lines.proofs.Pushing.{IsSoFar}
use Rattle.pl_lines.proofs.said_words.push_name_bytes.Given as goal

abbrev pub invariant-loop-byte : goal.invariant-loop-byte
invariant-loop-byte g l = IsSoFar (flat_map said_byte l.name) (string_bytes l.initial.text) (string_bytes l.text) (flat_map said_byte (drop l.byte-index l.name))
