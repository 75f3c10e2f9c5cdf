use Rattle.std.proofs.Common.{◌∙◌, ap, length}
use Rattle.std.specs.Prelude.{vec_len, nat_lt}
use Rattle.pl_file.specs.Rows.{Chunks}
use Rattle.pl_file.proofs.Chunking.{none-there}
use Rattle.pl_file.proofs.chunks.Chunks.is_empty.Goals as goal

pub returns : goal.returns
returns g c =
    let rows = c.self.inside.rows in
    c.is_empty.ensures ∙ none-there 0 rows.items (vec_len rows) c.self.invariant.chunks rows.ok.0 ∙ ap (λ (v : Chunks). nat_lt (length v.slots) 1) c.self.view_is
