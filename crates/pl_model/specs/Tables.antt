-- The tables of descriptors, the names, and the processes.
use Rattle.std.specs.Prelude.{ℕ, List, [], ◌-◌, min, max, true, false, not, nat_eq, Option, is_none}
use Rattle.std.specs.declared.option.Option.TheVariants.{None, Some}
use Rattle.std.specs.List.{filter}
use Rattle.std.specs.Ordering.{nat_cmp}
use Rattle.std.specs.Cmp.Lexicographic.{slice_cmp, pointwise}
use Rattle.pl_model.specs.declared.calls.Limits.{Limits}
use Rattle.pl_model.specs.declared.calls.Mode.{Mode}
use Rattle.pl_model.specs.declared.flags.OpenFlags.{OpenFlags}
use Rattle.pl_model.specs.Numbers.{open_max, most_descriptors, most_descriptions, most_processes, first_from}
use Rattle.pl_model.specs.Map.{set_at, put_in_order, without}
use Rattle.pl_model.specs.Keys.{Keys, Node, FileNode}
use Rattle.pl_model.specs.State.{Core, set_row, set_file, set_description}

-- POSIX.1-2017, getrlimit, RLIMIT_NOFILE: how many descriptors a process may have, numbered from 0. That a limit counts as the
-- greatest one where it is above that is our own choice.
abbrev pub descriptor_limit : Limits → ℕ
descriptor_limit limits = min limits.descriptors_max most_descriptors

-- POSIX.1-2017, poll, EINVAL: how many entries a poll may have. That they are as many as a process may have descriptors, and OPEN_MAX where
-- those are fewer, is our own choice.
abbrev pub entry_limit : Limits → ℕ
entry_limit limits = max (descriptor_limit limits) open_max

-- Our own: how many descriptions may be live. A greater limit counts as the greatest one.
abbrev pub description_limit : Limits → ℕ
description_limit limits = min limits.descriptions_max most_descriptions

-- Our own: how many processes there may be, with pids from 1 on. A greater limit counts as the greatest one.
abbrev pub process_limit : Limits → ℕ
process_limit limits = min limits.processes_max most_processes

module _ {A : Type 0} {K : Keys} where
  -- POSIX.1-2017, File Descriptor Allocation: the least free descriptor of the process, from `least` on, within the limit.
  unfoldable pub lowest : Core A K → ℕ → ℕ → Option ℕ
  lowest s pid least = first_from (λ fd. is_none (s.rows pid fd)) (descriptor_limit s.limits - least) least

  -- Our own: the least free pid.
  unfoldable pub lowest_pid : Core A K → Option ℕ
  lowest_pid s = first_from (λ pid. not (s.processes pid)) (process_limit s.limits) 1

  -- the descriptor names the description
  abbrev pub install : Core A K → ℕ → ℕ → K.Description → Core A K
  install s pid fd d = set_row s pid fd (Some d)

  -- POSIX.1-2017, close: the descriptor names nothing.
  abbrev pub close_row : Core A K → ℕ → ℕ → Core A K
  close_row s pid fd = set_row s pid fd None

  -- a new description, under a new key
  abbrev pub describe : Core A K → K.Description → Node K → Mode → OpenFlags → Core A K
  describe s d node mode flags = set_description s d (record { node = node; mode = mode; flags = flags; offset = 0 })

  -- POSIX.1-2017, open, O_CREAT: the name stands for a new regular file, which is empty. Names are in the order of their bytes.
  abbrev pub create_file : Core A K → List ℕ → K.File → Core A K
  create_file s name f = record (set_file s f []) { names = put_in_order (slice_cmp nat_cmp) s.names name (FileNode f) }

  -- POSIX.1-2017, unlink: the name stands for nothing.
  abbrev pub forget_name : Core A K → List ℕ → Core A K
  forget_name s name = record s { names = without (pointwise nat_eq) s.names name }

  -- Our own: a process that starts has no open descriptor.
  abbrev pub start : Core A K → ℕ → Core A K
  start s pid = record s { processes = set_at nat_eq s.processes pid true }

  -- POSIX.1-2017, fork: the child's descriptors name the descriptions that its parent's name.
  abbrev pub fork : Core A K → ℕ → ℕ → Core A K
  fork s pid child = record s { processes = set_at nat_eq s.processes child true; rows = set_at nat_eq s.rows child (s.rows pid) }

  -- there is no such process any more
  abbrev pub end : Core A K → ℕ → Core A K
  end s pid = record s { processes = set_at nat_eq s.processes pid false }

  -- POSIX.1-2017, _exit, Consequences of Process Termination: the descriptors of the process name nothing, its parked calls
  -- are gone, and it ends.
  abbrev pub exit : Core A K → ℕ → Core A K
  exit s pid = end (record s { rows = set_at nat_eq s.rows pid (λ fd. None); parked = filter (λ c. not (nat_eq c.1.pid pid)) s.parked }) pid
