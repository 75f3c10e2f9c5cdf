-- The tables of processes, before and after a change, and how many rows name a key.
use Rattle.std.proofs.Common.{◌≡◌, ◌≢◌, ℕ, zero, suc, ◌+◌, ◌-◌, ◌*◌, ◌<◌, ◌≤◌, Bool, true, false, cond, List, [], ◌∷◌, ◌++◌, Option, Some, None, refl, sym, ◌∙◌, ap, subst, inl, inr, nat_eq, nat_lt, length, replicate, arith, ℤ, pos, negsuc, ⊎_elim}
use Rattle.std.specs.Prelude.{if◌then◌else◌, ◌&&◌, not, is_some, option_map, option_and_then, slice_set, slice_index_or, count_by, IfSome, IfNone}
use Rattle.std.specs.List.{sum_by, All}
use Rattle.std.proofs.Math.Path.{fun_ext}
use Rattle.std.proofs.lemmas.List.{get_or-set_same, get_or-set_other, get_or_default, get_or_past}
use Rattle.std.proofs.lemmas.List.Sums.{sum_by-set, sum_by_push, sum_by-le, get_or-le-sum_by, count_by-le-length}
use Rattle.std.proofs.lemmas.Bool.{eq-eqb, ne_eqb, lt-ltb, cases_lt, false≢true}
use Rattle.std.proofs.lemmas.Option.{same_Some}
use Rattle.std.proofs.lemmas.Bool.Decides.{eqb_tells, nat_tests}
use Rattle.pl_model.specs.Map.{set_at}
use Rattle.pl_model.specs.Numbers.{most_processes, most_descriptors}
use Rattle.pl_desc.proofs.Vacant.{at-push}
use Rattle.pl_desc.specs.Rows.{at, Tables, table_of, is_pid, rows_in, rows_of, row_at, row_of, open_from, next_open, free_pid, with_row, with_table, names, named_in, naming}
use Rattle.pl_desc.specs.declared.limits.DescLimits.{DescLimits}
use Rattle.pl_desc.specs.Descs.{AreLimits}
use Rattle.pl_desc.specs.Ends.{one_if}
use Rattle.pl_desc.proofs.First.{first_is, first_none, first_found, first_fails}
use lib.IntN.{nat_abs}

-- a key with a value is within the list
pub within : {V : Type 0} (xs : List (Option V)) (k : ℕ) → is_some (at xs k) ≡ true → k < length xs
within [] k e = absurd (cc)
within (y ∷ ys) zero e = omega arith
within (y ∷ ys) (suc k) e = let l : k < length ys = within ys k e in omega arith

positive : (n : ℕ) → nat_lt 0 n ≡ true → 0 < n
positive n h = grind (arith, nat_tests)

-- the table of a process is in the list
pub pid_in : (tables : Tables) (pid : ℕ) → is_pid tables pid ≡ true → (0 < pid) × (pid ≤ length tables)
pid_in tables pid h = by (nat_lt 0 pid) refl h
  where
    by : (b : Bool) → nat_lt 0 pid ≡ b → is_some (if b then at tables (pid - 1) else None) ≡ true → (0 < pid) × (pid ≤ length tables)
    by true e h = (let p = positive pid e in let l = within tables (pid - 1) h in (p, omega arith))
    by false e h = absurd (cc)

-- the table of a pid that isn't 0
pub table_at : (tables : Tables) (pid : ℕ) → 0 < pid → table_of tables pid ≡ at tables (pid - 1)
table_at tables pid l = ap (λ b. if b then at tables (pid - 1) else None) (lt-ltb 0 pid l)

-- a function of what a map has with this at a key
pub through : {X Y : Type 0} (f : X → Y) (m : ℕ → X) (k : ℕ) (x : X) → (λ q. f (set_at nat_eq m k x q)) ≡ set_at nat_eq (λ q. f (m q)) k (f x)
through f m k x = fun_ext (λ q. by (nat_eq k q) q)
  where
    by : (b : Bool) (q : ℕ) → f (if b then x else m q) ≡ (if b then f x else f (m q))
    by true q = refl
    by false q = refl

-- one table is changed
module _ (tables : Tables) (pid : ℕ) (table : Option (List (Option ℕ))) (low : 0 < pid) (high : pid ≤ length tables) where
  abbrev changed : Tables
  changed = with_table tables pid table

  pub table-set : table_of changed ≡ set_at nat_eq (table_of tables) pid table
  table-set = fun_ext at_pid
    where
      in_list : pid - 1 < length tables
      in_list = omega arith

      other : (q : ℕ) → q ≢ pid → (b : Bool) → nat_lt 0 q ≡ b → (if b then at changed (q - 1) else None) ≡ (if b then at tables (q - 1) else None)
      other q n true e = let p = positive q e in get_or-set_other tables (pid - 1) (q - 1) table None (λ h. n (omega (arith, h)))
      other q n false e = refl

      at_pid : (q : ℕ) → table_of changed q ≡ set_at nat_eq (table_of tables) pid table q
      at_pid q = elim (eqb_tells pid q) as (λ _. table_of changed q ≡ set_at nat_eq (table_of tables) pid table q) [
        | inl e ↦ ap (table_of changed) (sym e.1) ∙ table_at changed pid low ∙ get_or-set_same tables (pid - 1) table None in_list ∙ sym (ap (λ b. if b then table else table_of tables q) e.0)
        | inr e ↦ other q (λ h. e.1 (sym h)) (nat_lt 0 q) refl ∙ sym (ap (λ b. if b then table else table_of tables q) e.0)
      ]

  pub pids-set : is_pid changed ≡ set_at nat_eq (is_pid tables) pid (is_some table)
  pids-set = ap (λ (m : ℕ → Option (List (Option ℕ))). λ q. is_some (m q)) table-set ∙ through is_some (table_of tables) pid table

  pub rows_of-set : rows_of changed ≡ set_at nat_eq (rows_of tables) pid (rows_in table)
  rows_of-set = ap (λ (m : ℕ → Option (List (Option ℕ))). λ q. rows_in (m q)) table-set ∙ through rows_in (table_of tables) pid table

  pub rows-set : row_at changed ≡ (λ q k. if nat_eq q pid then at (rows_in table) k else row_at tables q k)
  rows-set = ap (λ (m : ℕ → List (Option ℕ)). λ q k. at (m q) k) rows_of-set ∙ fun_ext (λ q. fun_ext (λ k. by q k))
    where
      by : (q k : ℕ) → at (set_at nat_eq (rows_of tables) pid (rows_in table) q) k ≡ (if nat_eq q pid then at (rows_in table) k else row_at tables q k)
      by q k = elim (eqb_tells q pid) as (λ _. at (set_at nat_eq (rows_of tables) pid (rows_in table) q) k ≡ (if nat_eq q pid then at (rows_in table) k else row_at tables q k)) [
        | inl e ↦ ap (λ b. at (if b then rows_in table else rows_of tables q) k) (eq-eqb pid q (sym e.1)) ∙ sym (ap (λ b. if b then at (rows_in table) k else row_at tables q k) e.0)
        | inr e ↦ ap (λ b. at (if b then rows_in table else rows_of tables q) k) (ne_eqb pid q (λ h. e.1 (sym h))) ∙ sym (ap (λ b. if b then at (rows_in table) k else row_at tables q k) e.0)
      ]

  -- a table that has what the process had
  pub rows-same : ((k : ℕ) → at (rows_in table) k ≡ row_at tables pid k) → row_at changed ≡ row_at tables
  rows-same same = rows-set ∙ fun_ext (λ q. fun_ext (λ k. by q k))
    where
      by : (q k : ℕ) → (if nat_eq q pid then at (rows_in table) k else row_at tables q k) ≡ row_at tables q k
      by q k = elim (eqb_tells q pid) as (λ _. (if nat_eq q pid then at (rows_in table) k else row_at tables q k) ≡ row_at tables q k) [
        | inl e ↦ ap (λ b. if b then at (rows_in table) k else row_at tables q k) e.0 ∙ same k ∙ ap (λ p. row_at tables p k) (sym e.1)
        | inr e ↦ ap (λ b. if b then at (rows_in table) k else row_at tables q k) e.0
      ]

  pub naming-set : (key : ℕ) → naming changed key + named_in key (table_of tables pid) ≡ naming tables key + named_in key table
  unfolding naming
  naming-set key =
      ap (λ o. sum_by (named_in key) changed + named_in key o) (table_at tables pid low)
      ∙ sum_by-set (named_in key) tables (pid - 1) table None (omega arith)

  pub wide-set : (width : ℕ) → IfSome table (λ t. length t ≡ width) → ((place : ℕ) → IfSome (at tables place) (λ t. length t ≡ width)) → (place : ℕ) → IfSome (at changed place) (λ t. length t ≡ width)
  wide-set width one wide place = elim (eqb_tells place (pid - 1)) as (λ _. IfSome (at changed place) (λ t. length t ≡ width)) [
    | inl e ↦ subst (λ o. IfSome o (λ t. length t ≡ width)) (sym (ap (at changed) e.1 ∙ get_or-set_same tables (pid - 1) table None (omega arith))) one
    | inr e ↦ subst (λ o. IfSome o (λ t. length t ≡ width)) (sym (get_or-set_other tables (pid - 1) place table None e.1)) (wide place)
  ]

-- one row is changed
module _ (tables : Tables) (pid fd : ℕ) (d : Option ℕ) (process : is_pid tables pid ≡ true) (place : fd < length (rows_of tables pid)) where
  abbrev with_d : Option (List (Option ℕ))
  with_d = Some (slice_set (rows_of tables pid) fd d)

  pub row-pids : is_pid (with_table tables pid with_d) ≡ is_pid tables
  row-pids = let r = pid_in tables pid process in pids-set tables pid with_d r.0 r.1 ∙ fun_ext by
    where
      by : (q : ℕ) → set_at nat_eq (is_pid tables) pid true q ≡ is_pid tables q
      by q = elim (eqb_tells pid q) as (λ _. set_at nat_eq (is_pid tables) pid true q ≡ is_pid tables q) [
        | inl e ↦ ap (λ b. if b then true else is_pid tables q) e.0 ∙ sym process ∙ ap (is_pid tables) e.1
        | inr e ↦ ap (λ b. if b then true else is_pid tables q) e.0
      ]

  pub row-rows : row_at (with_table tables pid with_d) ≡ with_row (row_at tables) pid fd d
  row-rows = let r = pid_in tables pid process in rows-set tables pid with_d r.0 r.1 ∙ fun_ext (λ q. fun_ext (λ k. by q k))
    where
      here : (k : ℕ) → at (slice_set (rows_of tables pid) fd d) k ≡ (if nat_eq k fd then d else row_at tables pid k)
      here k = elim (eqb_tells k fd) as (λ _. at (slice_set (rows_of tables pid) fd d) k ≡ (if nat_eq k fd then d else row_at tables pid k)) [
        | inl e ↦ ap (at (slice_set (rows_of tables pid) fd d)) e.1 ∙ get_or-set_same (rows_of tables pid) fd d None place ∙ sym (ap (λ b. if b then d else row_at tables pid k) e.0)
        | inr e ↦ get_or-set_other (rows_of tables pid) fd k d None e.1 ∙ sym (ap (λ b. if b then d else row_at tables pid k) e.0)
      ]

      by : (q k : ℕ) → (if nat_eq q pid then at (slice_set (rows_of tables pid) fd d) k else row_at tables q k) ≡ with_row (row_at tables) pid fd d q k
      by q k = elim (eqb_tells q pid) as (λ _. (if nat_eq q pid then at (slice_set (rows_of tables pid) fd d) k else row_at tables q k) ≡ with_row (row_at tables) pid fd d q k) [
        | inl e ↦
            ap (λ b. if b then at (slice_set (rows_of tables pid) fd d) k else row_at tables q k) e.0 ∙ here k
            ∙ ap (λ p. if nat_eq k fd then d else row_at tables p k) (sym e.1)
            ∙ sym (ap (λ b. if b && nat_eq k fd then d else row_at tables q k) e.0)
        | inr e ↦
            ap (λ b. if b then at (slice_set (rows_of tables pid) fd d) k else row_at tables q k) e.0
            ∙ sym (ap (λ b. if b && nat_eq k fd then d else row_at tables q k) e.0)
      ]

  pub row-naming : (key : ℕ) → naming (with_table tables pid with_d) key + one_if (names key (row_at tables pid fd)) ≡ naming tables key + one_if (names key d)
  row-naming key =
      let r = pid_in tables pid process in
      let all = naming-set tables pid with_d r.0 r.1 key in
      let one : count_by (names key) (slice_set (rows_of tables pid) fd d) + one_if (names key (row_at tables pid fd)) ≡ count_by (names key) (rows_of tables pid) + one_if (names key d) = sum_by-set (λ o. cond (names key o) 1 0) (rows_of tables pid) fd d None place in
      omega (arith, all, one)

-- no row names a key of an empty table, and a list of tables with none at its end names no more
pub named_in-none : (n key : ℕ) → named_in key (Some (replicate n None)) ≡ 0
named_in-none zero key = refl
named_in-none (suc n) key = named_in-none n key

pub named_in-closed : (key : ℕ) (table : List (Option ℕ)) → ((k : ℕ) → at table k ≡ None) → count_by (names key) table ≡ 0
named_in-closed key [] h = refl
named_in-closed key (x ∷ xs) h = ap (λ o. count_by (names key) (o ∷ xs)) (h 0) ∙ named_in-closed key xs (λ k. h (suc k))

pub naming-push : (tables : Tables) → naming (tables ++ None ∷ []) ≡ naming tables
unfolding naming
naming-push tables = fun_ext (λ key. sum_by_push (named_in key) tables None ∙ (let e : sum_by (named_in key) tables + 0 ≡ sum_by (named_in key) tables = omega arith in e))

pub table-push : (tables : Tables) → table_of (tables ++ None ∷ []) ≡ table_of tables
table-push tables = fun_ext (λ pid. ap (λ o. if nat_lt 0 pid then o else None) (at-push tables (pid - 1)))

pub rows-length : {width : ℕ} (tables : Tables) (pid : ℕ) → is_pid tables pid ≡ true → ((place : ℕ) → IfSome (at tables place) (λ t. length t ≡ width)) → length (rows_of tables pid) ≡ width
rows-length {width} tables pid process wide = by (table_of tables pid) process (subst (λ o. IfSome o (λ t. length t ≡ width)) (sym (table_at tables pid (pid_in tables pid process).0)) (wide (pid - 1)))
  where
    by : (o : Option (List (Option ℕ))) → is_some o ≡ true → IfSome o (λ t. length t ≡ width) → length (rows_in o) ≡ width
    by None s h = absurd (cc)
    by (Some t) s h = h

-- a process with a row is there
pub has_table : (o : Option (List (Option ℕ))) (fd : ℕ) → is_some (at (rows_in o) fd) ≡ true → is_some o ≡ true
has_table None fd s = absurd (cc)
has_table (Some t) fd s = refl

-- a row that names a key is one of those that are counted
pub row-names : (tables : Tables) (pid fd key : ℕ) → row_at tables pid fd ≡ Some key → 0 < naming tables key
unfolding naming
row-names tables pid fd key h =
    let some : is_some (row_at tables pid fd) ≡ true = ap is_some h in
    let process : is_pid tables pid ≡ true = has_table (table_of tables pid) fd some in
    let r = pid_in tables pid process in
    let one : one_if (names key (row_at tables pid fd)) ≤ count_by (names key) (rows_of tables pid) = get_or-le-sum_by (λ o. cond (names key o) 1 0) (rows_of tables pid) fd None (within (rows_of tables pid) fd some) in
    let is_one : one_if (names key (row_at tables pid fd)) ≡ 1 = ap (λ o. one_if (names key o)) h ∙ ap one_if (eq-eqb key key refl) in
    let all : named_in key (at tables (pid - 1)) ≤ sum_by (named_in key) tables = get_or-le-sum_by (named_in key) tables (pid - 1) None (omega (arith, r.0, r.1)) in
    let same : named_in key (at tables (pid - 1)) ≡ count_by (names key) (rows_of tables pid) = ap (named_in key) (sym (table_at tables pid r.0)) in
    omega (arith, one, is_one, all, same)

-- the rows are few
pub naming-few : {limits : DescLimits} (tables : Tables) (key : ℕ) → AreLimits limits → length tables ≤ limits.processes → ((place : ℕ) → IfSome (at tables place) (λ t. length t ≡ limits.descriptors)) → naming tables key ≤ most_processes * most_descriptors
unfolding naming
naming-few {limits} tables key limited few wide =
    let all : sum_by (named_in key) tables ≤ length tables * most_descriptors = sum_by-le (named_in key) most_descriptors tables each in
    omega (arith, all, few, limited.processes)
  where
    by : (o : Option (List (Option ℕ))) → IfSome o (λ t. length t ≡ limits.descriptors) → named_in key o ≤ most_descriptors
    by None h = omega arith
    by (Some t) h = let l = count_by-le-length (names key) t in omega (arith, l, h, limited.descriptors)

    each : All (λ o. named_in key o ≤ most_descriptors) tables
    each k d l = by (slice_index_or tables k d) (subst (λ o. IfSome o (λ t. length t ≡ limits.descriptors)) (get_or_default tables k None d l) (wide k))

-- the least free pid
pid_taken : (tables : Tables) (place : ℕ) → ((q : ℕ) → q < place → is_some (at tables q) ≡ true) → (y : ℕ) → 1 ≤ y → y < place + 1 → not (is_pid tables y) ≡ false
pid_taken tables place taken y low high = ap (λ o. not (is_some o)) (table_at tables y (omega arith)) ∙ ap not (taken (y - 1) (omega arith))

pub pid-first : (tables : Tables) (most place : ℕ) → place < most → at tables place ≡ None → ((q : ℕ) → q < place → is_some (at tables q) ≡ true) → free_pid tables most ≡ Some (place + 1)
pid-first tables most place few free taken =
    let low : 1 ≤ place + 1 = omega arith in
    let e : (place + 1) - 1 ≡ place = omega arith in
    first_is (λ pid. not (is_pid tables pid)) most 1 (place + 1) low (omega arith)
    (ap (λ o. not (is_some o)) (table_at tables (place + 1) (omega arith) ∙ ap (at tables) e ∙ free))
    (λ y l m. pid_taken tables place taken y l m)

pub pid-none : (tables : Tables) (most : ℕ) → ((q : ℕ) → q < most → is_some (at tables q) ≡ true) → free_pid tables most ≡ None
pid-none tables most taken = first_none (λ pid. not (is_pid tables pid)) most 1 (λ y l m. pid_taken tables most taken y l (omega arith))

pub no_table : (o : Option (List (Option ℕ))) → not (is_some o) ≡ true → o ≡ None
no_table None h = refl
no_table (Some t) h = absurd (cc)

pub pid-found : (tables : Tables) (most pid : ℕ) → free_pid tables most ≡ Some pid → (table_of tables pid ≡ None) × (1 ≤ pid) × (pid ≤ most)
pid-found tables most pid h =
    let f = first_found (λ pid. not (is_pid tables pid)) most 1 pid h in
    (no_table (table_of tables pid) f.0, f.1, omega (arith, f.2))

below_open_max : (n : ℕ) → nat_lt n most_descriptors ≡ true → n < most_descriptors
below_open_max n h = grind (arith, nat_tests)

-- a row of any whole number
pub row_of-some : (tables : Tables) (pid key : ℕ) (z : ℤ) → row_of tables pid z ≡ Some key → (nat_abs z < most_descriptors) × (row_at tables pid (nat_abs z) ≡ Some key) × (z ≡ pos (nat_abs z)) × (is_pid tables pid ≡ true)
row_of-some tables pid key (negsuc n) h = absurd (cc)
row_of-some tables pid key (pos n) h = by (nat_lt n most_descriptors) refl h
  where
    by : (b : Bool) → nat_lt n most_descriptors ≡ b → (if b then row_at tables pid n else None) ≡ Some key → (n < most_descriptors) × (row_at tables pid n ≡ Some key) × (pos n ≡ pos n) × (is_pid tables pid ≡ true)
    by true e h = (below_open_max n e, h, refl, has_table (table_of tables pid) n (ap is_some h))
    by false e h = absurd (cc)

-- what is there is not none
pub no_none : (P : Type 0) (o : Option ℕ) (x : ℕ) → o ≡ Some x → IfNone o P
no_none P None x e = absurd (cc)
no_none P (Some y) x e = tt

pub isnt_some : (o : Option ℕ) → is_some o ≡ false → o ≡ None
isnt_some None h = refl
isnt_some (Some x) h = absurd (cc)

pub is_some_value : (o : Option ℕ) → is_some o ≡ true → (x : ℕ) × (o ≡ Some x)
is_some_value None h = absurd (cc)
is_some_value (Some x) h = (x, refl)

-- the first open descriptor from one on, where there is one
pub open-found : (table : List (Option ℕ)) (least fd key : ℕ) → next_open table least ≡ Some (fd, key) → (at table fd ≡ Some key) × (least ≤ fd) × (fd < length table) × ((k : ℕ) → least ≤ k → k < fd → at table k ≡ None)
open-found table least fd key h = by (open_from table least) refl h
  where
    named : (f : ℕ) (o : Option ℕ) → option_map {U = ℕ × ℕ} (λ k. (f, k)) o ≡ Some (fd, key) → (f ≡ fd) × (o ≡ Some key)
    named f None e = absurd (cc)
    named f (Some k) e = let one : (f, k) ≡ (fd, key) = same_Some (f, k) (fd, key) e in (ap (λ t. t.0) one, ap (λ t. Some t.1) one)

    by : (o : Option ℕ) → open_from table least ≡ o → option_and_then (λ f. option_map {U = ℕ × ℕ} (λ k. (f, k)) (at table f)) o ≡ Some (fd, key) → (at table fd ≡ Some key) × (least ≤ fd) × (fd < length table) × ((k : ℕ) → least ≤ k → k < fd → at table k ≡ None)
    by None e n = absurd (cc)
    by (Some f) e n =
        let is = named f (at table f) n in
        let same : f ≡ fd = is.0 in
        let first = first_found (λ k. is_some (at table k)) (length table - least) least fd (e ∙ ap (λ k. Some k) same) in
        (ap (at table) (sym same) ∙ is.1, first.1, within table fd first.0, λ k low high. isnt_some (at table k) (first.3 k low high))

-- and where there is none
pub open-none : (table : List (Option ℕ)) (least : ℕ) → next_open table least ≡ None → (fd : ℕ) → least ≤ fd → at table fd ≡ None
open-none table least h = by (open_from table least) refl h
  where
    unnamed : (f : ℕ) (o : Option ℕ) → option_map {U = ℕ × ℕ} (λ k. (f, k)) o ≡ None → is_some o ≡ false
    unnamed f None e = refl
    unnamed f (Some k) e = absurd (cc)

    by : (o : Option ℕ) → open_from table least ≡ o → option_and_then (λ f. option_map {U = ℕ × ℕ} (λ k. (f, k)) (at table f)) o ≡ None → (fd : ℕ) → least ≤ fd → at table fd ≡ None
    by None e n fd low = ⊎_elim
        (λ l. isnt_some (at table fd) (first_fails (λ k. is_some (at table k)) (length table - least) least e fd low (omega arith)))
        (λ l. get_or_past table fd None l)
        (cases_lt fd (length table))
    by (Some f) e n fd low = absurd (false≢true (sym (unnamed f (at table f) n) ∙ (first_found (λ k. is_some (at table k)) (length table - least) least f e).0))

-- the place of the first that is open, and none where none is
pub open-is : (table : List (Option ℕ)) (least fd key : ℕ) → least ≤ fd → at table fd ≡ Some key → ((k : ℕ) → least ≤ k → k < fd → at table k ≡ None) → next_open table least ≡ Some (fd, key)
open-is table least fd key low is none =
    let some : is_some (at table fd) ≡ true = ap is_some is in
    let inside = within table fd some in
    let first : open_from table least ≡ Some fd =
    first_is (λ k. is_some (at table k)) (length table - least) least fd low (omega (arith, inside, low)) some (λ k l m. ap is_some (none k l m)) in
    ap (option_and_then (λ f. option_map {U = ℕ × ℕ} (λ k. (f, k)) (at table f))) first ∙ ap (option_map {U = ℕ × ℕ} (λ k. (fd, k))) is

pub open-isnt : (table : List (Option ℕ)) (least : ℕ) → ((k : ℕ) → least ≤ k → k < length table → at table k ≡ None) → next_open table least ≡ None
open-isnt table least none =
    ap (option_and_then (λ f. option_map {U = ℕ × ℕ} (λ k. (f, k)) (at table f)))
    (first_none (λ k. is_some (at table k)) (length table - least) least (λ k l m. ap is_some (none k l (omega arith))))
