-- Which descriptions are live, and how many ends a pipe has.
use Rattle.std.specs.Prelude.{ℕ, Bool, false, ◌&&◌, List, ◌++◌, Option}
use Rattle.std.specs.declared.option.Option.TheVariants.{None, Some}
use Rattle.std.specs.List.{list_any, filter, filter_map, flat_map}
use Rattle.std.specs.Set.{is_member, distinct_count}
use Rattle.pl_model.specs.declared.calls.Mode.{Mode}
use Rattle.pl_model.specs.Numbers.{numbers_from}
use Rattle.pl_model.specs.Modes.{reads, writes, any_mode}
use Rattle.pl_model.specs.Keys.{Keys, Node, PipeNode, same_node}
use Rattle.pl_model.specs.State.{Core, Description, Waiting}
use Rattle.pl_model.specs.Tables.{descriptor_limit, process_limit}

module _ {K : Keys} where
  -- a description on the node, whose mode passes the test
  abbrev pub is_end : (Mode → Bool) → Node K → Option (Description K) → Bool
  is_end test node None = false
  is_end test node (Some x) = same_node x.node node && test x.mode

module _ {A : Type 0} {K : Keys} where
  -- the pids, in order
  unfoldable pub pids : Core A K → List ℕ
  pids s = filter s.processes (numbers_from (process_limit s.limits) 1)

  -- the descriptions that rows name, and that parked calls name, each as often as it is named
  unfoldable pub in_rows : Core A K → List K.Description
  in_rows s = flat_map (λ pid. filter_map (s.rows pid) (numbers_from (descriptor_limit s.limits) 0)) (pids s)

  unfoldable pub in_parked : Core A K → List K.Description
  in_parked s = flat_map (λ (c : ℕ × Waiting A K). c.1.kept) s.parked

  abbrev pub in_use : Core A K → List K.Description
  in_use s = in_rows s ++ in_parked s

  -- POSIX.1-2017, close: a description lives until the last descriptor that names it is closed. A parked call names the
  -- descriptions that it found open, as a blocked call keeps them on Linux.
  abbrev pub is_live : Core A K → K.Description → Bool
  is_live s d = is_member K.same_description (in_use s) d

  abbrev pub live_count : Core A K → ℕ
  live_count s = distinct_count K.same_description (in_use s)

  -- the live descriptions on the node whose mode passes the test
  abbrev pub live_with : (Mode → Bool) → Core A K → Node K → ℕ
  live_with test s node = distinct_count K.same_description (filter (λ d. is_end test node (s.descriptions d)) (in_use s))

  -- POSIX.1-2017, read and write: a pipe is open for reading, or for writing, by so many descriptions.
  unfoldable pub readers : Core A K → K.Pipe → ℕ
  readers s p = live_with reads s (PipeNode p)

  unfoldable pub writers : Core A K → K.Pipe → ℕ
  writers s p = live_with writes s (PipeNode p)

  -- a live description is on the node
  abbrev pub is_open : Core A K → Node K → Bool
  is_open s node = list_any (λ d. is_end any_mode node (s.descriptions d)) (in_use s)

  abbrev pub has_name : Core A K → Node K → Bool
  has_name s node = list_any (λ e. same_node e.1 node) s.names
