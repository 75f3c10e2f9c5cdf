-- The fields of the parked calls, as what they hold.
use Rattle.std.specs.Prelude.{ℕ, Bool}
use Rattle.std.specs.BTreeSet.{BTreeSet}
use Rattle.pl_model.specs.Map.{Map}
use Rattle.pl_parked.specs.declared.call.ParkedCall.{ParkedCall}
use Rattle.pl_parked.specs.declared.opens.WaitingOpen.{WaitingOpen}
use Rattle.pl_parked.specs.declared.parked.Parked.TheInside.{Inside}
use Rattle.pl_parked.specs.Calls.{Calls}
use Rattle.pl_numbered.specs.Rising.{Rise}
use Rattle.pl_numbered.specs.Numbered.{values}
use Rattle.pl_parked.specs.Owned.{ListsAll}
use Rattle.pl_parked.specs.Waiting.{Lists}

abbrev pub view_of : {A : Type 0} → Inside A → Calls A
view_of p = record { calls = values p.calls; next = p.next }

-- the numbers rise and are below the next one; the calls are listed by their processes, and the opens that wait and weren't met are listed
pub record IsSound {A : Type 0} (calls : Map ℕ (ParkedCall A)) (owners : (pid number : ℕ) → Bool) (opens : BTreeSet WaitingOpen) (next : ℕ) : Type 0 where
  pub rise : Rise 0 next calls
  pub owned : ListsAll owners calls
  pub listed : Lists opens calls
