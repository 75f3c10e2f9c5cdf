-- What is told of processes.
use Rattle.std.specs.Prelude.{◌≡◌, ℕ, zero, suc, ◌+◌, Bool, is_some, if◌then◌else◌, Option}
use Rattle.std.specs.declared.option.Option.TheVariants.{None, Some}
use Rattle.pl_model.specs.Keys.{Keys}
use Rattle.pl_model.specs.Tables.{descriptor_limit}
use Rattle.pl_model.specs.State.{Core, waiting_calls_of}
use Rattle.pl_model.specs.Numbered.{State}
use Rattle.pl_state.specs.Contents.{Contents}
use Rattle.pl_state.specs.Makes.{Stands}
use Rattle.pl_kernel.specs.declared.told_processes.ProcessFacts.{ProcessFacts}

-- how many numbers below one pass a test
unfoldable pub count_below : (ℕ → Bool) → ℕ → ℕ
count_below test zero = 0
count_below test (suc n) = count_below test n + (if test n then 1 else 0)

module _ {A : Type 0} {K : Keys} (c : Core A K) (pid : ℕ) where
  -- POSIX.1-2017, File Descriptor: how many descriptors of a process are open
  abbrev pub open_count_of : ℕ
  open_count_of = count_below (λ fd. is_some (c.rows pid fd)) (descriptor_limit c.limits)

  -- what is told of a process, if it is there
  abbrev pub process_facts_by : Option ProcessFacts
  process_facts_by = if c.processes pid then Some (record { descriptors = open_count_of; waiting_calls = waiting_calls_of c pid }) else None

-- It was told so: for each state for which the kernel stands, it is the flat machine's.
abbrev pub TellsHoldings : {A : Type 0} → Contents A → ℕ → Option ProcessFacts → Type 0
TellsHoldings {A} k pid told = (s : State A) → Stands k s → told ≡ process_facts_by s.core pid
