-- Lists of entries, and counts, that only contracts see.
use Rattle.std.specs.Prelude.{ℕ, ◌+◌, List, [], ◌∷◌, ◌++◌, Option, Some, None}
use Rattle.std.specs.declared.snapshot.Snapshot.{Snapshot}
use Rattle.pl_model.specs.declared.history.Entry.{Entry}
use Rattle.pl_locked.specs.declared.count.Count.{Count}
use Rattle.pl_locked.specs.declared.log.Log.{Log}

-- the entries: none, or those of the list before and one more
abbrev pub entries_of : {A : Type 0} → Option (Snapshot (Log A) × Snapshot (Entry A)) → List (Entry A)
entries_of None = []
entries_of (Some l) = l.0.value ++ l.1.value ∷ []

-- the count: nothing, or one more than before
abbrev pub counted : Option (Snapshot Count) → ℕ
counted None = 0
counted (Some c) = c.value + 1
