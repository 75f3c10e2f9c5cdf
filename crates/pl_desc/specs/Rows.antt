-- What tables and lists by key have at a place.
use Rattle.std.specs.Prelude.{ℕ, ℤ, pos, negsuc, ◌+◌, ◌-◌, nat_lt, nat_eq, Bool, false, not, ◌&&◌, List, [], length, Option, None, Some, option_map, option_and_then, is_none, is_some, if◌then◌else◌, slice_index_or, slice_set, count_by}
use Rattle.std.specs.List.{sum_by}
use Rattle.pl_model.specs.Numbers.{most_descriptors, first_from}

-- the greatest number of a machine word, which is no key of a list that a machine holds
abbrev pub no_key : ℕ
no_key = 18446744073709551615

-- what a list has at a key
abbrev pub at : {V : Type 0} → List (Option V) → ℕ → Option V
at xs key = slice_index_or xs key None

-- A table: what each descriptor that there may be names, and how many of them, from 0 on, have a row. One that has a row can be opened
-- without memory.
pub record Tabled : Type 0 where
  pub names : List (Option ℕ)
  pub rows : ℕ

-- The tables of the processes 1, 2 and so on, with none where there is no such process. A table has, by descriptor, the
-- key that each names.
abbrev pub Tables : Type 0
Tables = List (Option (List (Option ℕ)))

-- the table of a process
abbrev pub table_of : Tables → ℕ → Option (List (Option ℕ))
table_of tables pid = if nat_lt 0 pid then at tables (pid - 1) else None

-- whether there is such a process
abbrev pub is_pid : Tables → ℕ → Bool
is_pid tables pid = is_some (table_of tables pid)

-- the rows of a table, and none of no table
abbrev pub rows_in : Option (List (Option ℕ)) → List (Option ℕ)
rows_in None = []
rows_in (Some table) = table

-- the keys under the descriptors of a process
abbrev pub rows_of : Tables → ℕ → List (Option ℕ)
rows_of tables pid = rows_in (table_of tables pid)

-- the key under a descriptor of a process
abbrev pub row_at : Tables → ℕ → ℕ → Option ℕ
row_at tables pid fd = at (rows_of tables pid) fd

-- the key that a table has under any whole number; one below 0, or past the greatest limit, has none
abbrev pub row_in : List (Option ℕ) → ℤ → Option ℕ
row_in table (pos fd) = if nat_lt fd most_descriptors then at table fd else None
row_in table (negsuc n) = None

-- that of the table of a process
abbrev pub row_of : Tables → ℕ → ℤ → Option ℕ
row_of tables pid fd = row_in (rows_of tables pid) fd

-- POSIX.1-2017, File Descriptor Allocation: the least free descriptor of a process, from `least` on, which may have so many
abbrev pub lowest_of : Tables → (most pid least : ℕ) → Option ℕ
lowest_of tables most pid least = first_from (λ fd. is_none (row_at tables pid fd)) (most - least) least

-- the least open descriptor of a table, from `least` on
abbrev pub open_from : List (Option ℕ) → (least : ℕ) → Option ℕ
open_from table least = first_from (λ fd. is_some (at table fd)) (length table - least) least

-- the same with the key that it names
abbrev pub next_open : List (Option ℕ) → (least : ℕ) → Option (ℕ × ℕ)
next_open table least = option_and_then (λ fd. option_map (λ key. (fd, key)) (at table fd)) (open_from table least)

-- how many descriptors of a table are open
abbrev pub open_in : List (Option ℕ) → ℕ
open_in table = count_by is_some table

-- the number that a list of them has at a key
abbrev pub count_at : List ℕ → ℕ → ℕ
count_at xs key = slice_index_or xs key 0

-- how many rows a process has, of the numbers of all
abbrev pub rows_at : List ℕ → ℕ → ℕ
rows_at rows pid = if nat_lt 0 pid then count_at rows (pid - 1) else 0

-- the least free pid, where there may be so many processes
abbrev pub free_pid : Tables → (most : ℕ) → Option ℕ
free_pid tables most = first_from (λ pid. not (is_pid tables pid)) most 1

-- the rows with this at a descriptor of a process
abbrev pub with_row : (ℕ → ℕ → Option ℕ) → ℕ → ℕ → Option ℕ → ℕ → ℕ → Option ℕ
with_row rows pid fd d = λ q k. if nat_eq q pid && nat_eq k fd then d else rows q k

-- the rows with nothing at a descriptor, which may be any whole number
abbrev pub without_row : (ℕ → ℕ → Option ℕ) → ℕ → ℤ → ℕ → ℕ → Option ℕ
without_row rows pid (pos fd) = with_row rows pid fd None
without_row rows pid (negsuc n) = rows

-- the rows without one that was taken, if one was
abbrev pub without_taken : (ℕ → ℕ → Option ℕ) → ℕ → Option (ℕ × ℕ) → ℕ → ℕ → Option ℕ
without_taken rows pid None = rows
without_taken rows pid (Some taken) = with_row rows pid taken.0 None

-- the rows with those of one process under another pid
abbrev pub with_rows_of : (ℕ → ℕ → Option ℕ) → ℕ → ℕ → ℕ → ℕ → Option ℕ
with_rows_of rows pid other = λ q k. if nat_eq q other then rows pid k else rows q k

-- whether a row names the key
abbrev pub names : ℕ → Option ℕ → Bool
names key None = false
names key (Some other) = nat_eq other key

-- how many rows of a table name a key
abbrev pub named_in : ℕ → Option (List (Option ℕ)) → ℕ
named_in key table = count_by (names key) (rows_in table)

-- how many rows name a key
unfoldable pub naming : Tables → ℕ → ℕ
naming tables key = sum_by (named_in key) tables

-- the tables with this one under a pid
abbrev pub with_table : Tables → ℕ → Option (List (Option ℕ)) → Tables
with_table tables pid table = slice_set tables (pid - 1) table

-- the numbers with that of one key changed
abbrev pub change_count : ℕ → (ℕ → ℕ) → (ℕ → ℕ) → ℕ → ℕ
change_count key f m = λ q. if nat_eq key q then f (m q) else m q

-- one more hold, and one less
abbrev pub one_more : ℕ → ℕ
one_more n = n + 1

abbrev pub one_less : ℕ → ℕ
one_less n = n - 1

-- the numbers with that of a key one more, where there is a key
abbrev pub more_if : Option ℕ → (ℕ → ℕ) → ℕ → ℕ
more_if None m = m
more_if (Some key) m = change_count key one_more m
