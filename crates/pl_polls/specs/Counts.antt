-- How many masks a poll answers, told before it is made.
use Rattle.std.specs.Prelude.{ℕ, ℤ, Bool, true, not, ◌||◌, nat_lt, List, length, map, Option, if◌then◌else◌}
use Rattle.std.specs.List.{list_any}
use Rattle.std.specs.declared.option.Option.TheVariants.{None, Some}
use Rattle.pl_model.specs.declared.calls.Call.{Call}
use Rattle.pl_model.specs.declared.flags.PollMask.{PollMask}
use Rattle.pl_model.specs.Keys.{Keys}
use Rattle.pl_model.specs.State.{Core, Waiting, described}
use Rattle.pl_model.specs.Begin.{named_by}
use Rattle.pl_model.specs.Poll.{masks, is_ready}
use Rattle.pl_model.specs.Tables.{entry_limit}

-- POSIX.1-2017, poll: a mask for each of so many entries, of which these are found, and none while the poll waits
abbrev pub masks_if_ready : (found : List PollMask) → (may_wait : Bool) → (entries : ℕ) → ℕ
masks_if_ready found may_wait entries = if list_any is_ready found || not may_wait then entries else 0

module _ {A : Type 0} {K : Keys} where
  -- how many masks a poll that begins answers, and none where it has too many entries
  abbrev pub masks_begun : Core A K → ℕ → List (ℤ × PollMask) → Bool → ℕ
  masks_begun s pid entries wait = if nat_lt (entry_limit s.limits) (length entries) then 0 else masks_if_ready (masks s entries (named_by s pid entries)) wait (length entries)

  -- how many the next try of a parked call answers, where it is a poll
  abbrev pub masks_of_try : Core A K → Waiting A K → Call A → ℕ
  masks_of_try s w (Call.Poll entries wait) = masks_if_ready (masks s entries (map (described s) w.kept)) true (length entries)
  masks_of_try s w other = 0

  -- the same of a parked call, if it is there
  abbrev pub masks_again : Core A K → Option (Waiting A K) → ℕ
  masks_again s None = 0
  masks_again s (Some w) = masks_of_try s w w.call
