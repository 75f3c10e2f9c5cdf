-- What contracts see of an eye.
use Rattle.std.specs.Prelude.{ℕ, Bool, List}
use Rattle.atomic_table.specs.Seated.{TableId}
use Rattle.pl_model.specs.declared.history.Entry.{Entry}

-- whether it is the recorder's, and the history that it has seen
pub record Sight (A : Type 0) : Type 0 where
  pub recorder : Bool
  pub seen : List (Entry A)

-- What a layer is made on beside its ledger: its history word, and the name of a second ledger, which counts what is handed out of the journal.
pub record Tables : Type 0 where
  pub word : TableId
  pub handed : ℕ
