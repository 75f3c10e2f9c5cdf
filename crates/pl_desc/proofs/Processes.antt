-- The list of the tables, as what they name and how many rows each has.
use Rattle.std.proofs.Common.{zero, suc, [], ◌∷◌, ◌++◌, ◌⊎◌, ◌≡◌, ◌≢◌, get_or, subst, ℕ, ◌+◌, ◌-◌, ◌<◌, take, ◌≤◌, Bool, true, false, List, Option, Some, None, refl, sym, ◌∙◌, ap, inl, inr, length, arith, nat_eq, nat_lt}
use Rattle.std.specs.Prelude.{if◌then◌else◌, is_some, option_map, slice_set}
use Rattle.std.proofs.Math.Path.{fun_ext}
use Rattle.std.proofs.Math.ListN.{get_or-map}
use Rattle.std.proofs.Math.Seq.{map-set_same}
use Rattle.std.proofs.lemmas.List.{map-set, length-map, get_or-set_same, get_or-set_other, get_or_default}
use Rattle.std.proofs.lemmas.Bool.{lt-ltb, eq-eqb, false≢true}
use Rattle.std.proofs.lemmas.Bool.Decides.{eqb_tells, nat_tests}
use Rattle.pl_model.specs.Map.{set_at}
use Rattle.pl_desc.specs.Rows.{at, Tabled, table_of, with_table, rows_at, is_pid, rows_of, count_at}
use Rattle.pl_desc.specs.Rows.{rows_in as rows_or_none}
use Rattle.pl_desc.specs.TablesView.{Processes, rows_if, tables_in, rows_in}
use Rattle.pl_desc.proofs.RowLemmas.{pid_in, table_at}

abbrev pub view-of : List (Option Tabled) → Processes
view-of list = record { tables = tables_in list; rows = rows_in list }

module _ (list : List (Option Tabled)) where
  pub at-tables : (k : ℕ) → at (tables_in list) k ≡ option_map (λ table. table.names) (at list k)
  at-tables k = get_or-map (option_map (λ (table : Tabled). table.names)) list k None

  pub table-if : (pid : ℕ) → table_of (tables_in list) pid ≡ option_map (λ table. table.names) (if nat_lt 0 pid then at list (pid - 1) else None)
  table-if pid = ap (λ o. if nat_lt 0 pid then o else None) (at-tables (pid - 1)) ∙ by (nat_lt 0 pid)
    where
      by : (b : Bool) → (if b then option_map (λ (table : Tabled). table.names) (at list (pid - 1)) else None) ≡ option_map (λ (table : Tabled). table.names) (if b then at list (pid - 1) else None)
      by true = refl
      by false = refl

  pub length-tables : length (tables_in list) ≡ length list
  length-tables = length-map list (option_map (λ (table : Tabled). table.names))

  -- a process gets another table, or none
  pub tables-set : (pid : ℕ) (o : Option Tabled) → tables_in (slice_set list (pid - 1) o) ≡ with_table (tables_in list) pid (option_map (λ table. table.names) o)
  tables-set pid o = map-set (option_map (λ (table : Tabled). table.names)) list (pid - 1) o

  pub rows-are : (pid : ℕ) → rows_at (rows_in list) pid ≡ (if nat_lt 0 pid then rows_if (at list (pid - 1)) else 0)
  rows-are pid = ap (λ n. if nat_lt 0 pid then n else 0) (get_or-map rows_if list (pid - 1) None)

  pub rows-put : (pid : ℕ) (o : Option Tabled) → 0 < pid → pid ≤ length list → rows_at (rows_in (slice_set list (pid - 1) o)) ≡ set_at nat_eq (rows_at (rows_in list)) pid (rows_if o)
  rows-put pid o low high = fun_ext (λ q. ap (λ n. if nat_lt 0 q then n else 0) (get_or-map rows_if (slice_set list (pid - 1) o) (q - 1) None) ∙ by q (nat_lt 0 q) refl ∙ sym (ap (λ n. if nat_eq pid q then rows_if o else n) (rows-are q)))
    where
      by : (q : ℕ) (b : Bool) → nat_lt 0 q ≡ b → (if b then rows_if (at (slice_set list (pid - 1) o) (q - 1)) else 0) ≡ (if nat_eq pid q then rows_if o else (if b then rows_if (at list (q - 1)) else 0))
      by q true e = elim (eqb_tells pid q) as (λ _. rows_if (at (slice_set list (pid - 1) o) (q - 1)) ≡ (if nat_eq pid q then rows_if o else rows_if (at list (q - 1)))) [
        | inl s ↦
            ap (λ k. rows_if (at (slice_set list (pid - 1) o) (k - 1))) (sym s.1) ∙ ap rows_if (get_or-set_same list (pid - 1) o None (omega (arith, low, high)))
            ∙ sym (ap (λ b. if b then rows_if o else rows_if (at list (q - 1))) s.0)
        | inr s ↦
            ap rows_if (get_or-set_other list (pid - 1) (q - 1) o None (let p : 0 < q = grind (arith, e, nat_tests) in λ h. s.1 (omega (arith, h, low, p))))
            ∙ sym (ap (λ b. if b then rows_if o else rows_if (at list (q - 1))) s.0)
      ]
      by q false e = elim (eqb_tells pid q) as (λ _. 0 ≡ (if nat_eq pid q then rows_if o else 0)) [
        | inl s ↦ absurd (let p : q ≡ 0 = grind (arith, e, nat_tests) in omega (arith, s.1, p, low))
        | inr s ↦ sym (ap (λ b. if b then rows_if o else 0) s.0)
      ]

  -- a table keeps its rows
  pub rows-kept : (place : ℕ) (o : Option Tabled) → rows_if o ≡ rows_if (at list place) → rows_in (slice_set list place o) ≡ rows_in list
  rows-kept place o e = map-set_same rows_if list place o None e

  -- a place comes, with no table
  pub tables-push : tables_in (list ++ None ∷ []) ≡ tables_in list ++ None ∷ []
  tables-push = map-push list
    where
      map-push : (xs : List (Option Tabled)) → tables_in (xs ++ None ∷ []) ≡ tables_in xs ++ None ∷ []
      map-push [] = refl
      map-push (x ∷ xs) = ap (λ ys. option_map (λ (table : Tabled). table.names) x ∷ ys) (map-push xs)

  pub rows-push : (q : ℕ) → rows_at (rows_in (list ++ None ∷ [])) q ≡ rows_at (rows_in list) q
  rows-push q = ap (λ n. if nat_lt 0 q then n else 0) (by list (q - 1))
    where
      by : (xs : List (Option Tabled)) (k : ℕ) → count_at (rows_in (xs ++ None ∷ [])) k ≡ count_at (rows_in xs) k
      by [] zero = refl
      by [] (suc k) = refl
      by (x ∷ xs) zero = refl
      by (x ∷ xs) (suc k) = by xs k

  -- a table comes at a place where there is none
  pub rows-added : (pid : ℕ) (table : Tabled) → 0 < pid → pid ≤ length list → is_pid (tables_in list) pid ≡ false → (q : ℕ) → rows_at (rows_in list) q ≤ rows_at (rows_in (slice_set list (pid - 1) (Some table))) q
  rows-added pid table low high free q = subst (λ n. rows_at (rows_in list) q ≤ n) (sym (ap (λ f. f q) (rows-put pid (Some table) low high))) (by (eqb_tells pid q))
    where
      none : rows_at (rows_in list) pid ≡ 0
      none = rows-are pid ∙ ap (λ b. if b then rows_if (at list (pid - 1)) else 0) (lt-ltb 0 pid low) ∙ of (at list (pid - 1)) (sym (ap is_some (table_at (tables_in list) pid low ∙ at-tables (pid - 1))) ∙ free)
        where
          of : (o : Option Tabled) → is_some (option_map (λ (table : Tabled). table.names) o) ≡ false → rows_if o ≡ 0
          of None h = refl
          of (Some table) h = absurd (false≢true (sym h))

      by : ((nat_eq pid q ≡ true) × (pid ≡ q)) ⊎ ((nat_eq pid q ≡ false) × (pid ≢ q)) → rows_at (rows_in list) q ≤ set_at nat_eq (rows_at (rows_in list)) pid table.rows q
      by (inl e) = subst (λ b. rows_at (rows_in list) q ≤ (if b then table.rows else rows_at (rows_in list) q)) (sym e.0) (omega (arith, ap (rows_at (rows_in list)) (sym e.1), none))
      by (inr e) = subst (λ b. rows_at (rows_in list) q ≤ (if b then table.rows else rows_at (rows_in list) q)) (sym e.0) (omega arith)

-- a list without its last place, which has no table
pub cut-last : (xs : List (Option Tabled)) (row : ℕ) → length xs ≡ row + 1 → at xs row ≡ None → xs ≡ take row xs ++ None ∷ []
cut-last [] row long free = absurd (omega (arith, long))
cut-last (x ∷ []) zero long free = ap (λ o. o ∷ []) free
cut-last (x ∷ y ∷ ys) zero long free = absurd (omega (arith, long))
cut-last (x ∷ xs) (suc row) long free = ap (λ ys. x ∷ ys) (cut-last xs row (omega (arith, long)) free)

-- the table of a process that is there
module _ (list : List (Option Tabled)) (pid : ℕ) (process : is_pid (tables_in list) pid ≡ true) where
  here : (0 < pid) × (pid ≤ length list)
  here = let r = pid_in (tables_in list) pid process in (r.0, omega (arith, r.1, length-tables list))

  pub place-here : pid - 1 < length list
  place-here = let r = here in omega (arith, r.0, r.1)

  pub table-here : table_of (tables_in list) pid ≡ option_map (λ table. table.names) (at list (pid - 1))
  table-here = table_at (tables_in list) pid here.0 ∙ at-tables list (pid - 1)

  -- what stands at its place, whatever stood for no place
  pub stands : (d : Option Tabled) → d ≡ get_or list (pid - 1) d → d ≡ at list (pid - 1)
  stands d is = is ∙ get_or_default list (pid - 1) d None place-here

  pub isnt-none : at list (pid - 1) ≡ None → ⊥
  isnt-none none = by (sym process ∙ ap is_some (table-here ∙ ap (option_map (λ (table : Tabled). table.names)) none))
    where
      by : true ≡ false → ⊥
      by e = false≢true (sym e)

  module _ (old : Tabled) (was : at list (pid - 1) ≡ Some old) where
    pub rows-here : rows_of (tables_in list) pid ≡ old.names
    rows-here = ap rows_or_none (table-here ∙ ap (option_map (λ (table : Tabled). table.names)) was)

    -- a row of it is changed
    pub view-put : (new : Tabled) (fd : ℕ) (d : Option ℕ) → new ≡ record old { names = slice_set old.names fd d }
        → view-of (slice_set list (pid - 1) (Some new)) ≡ record (view-of list) { tables = with_table (tables_in list) pid (Some (slice_set (rows_of (tables_in list) pid) fd d)) }
    view-put new fd d is = λ i. record {
      tables = (tables-set list pid (Some new) ∙ ap (λ names. with_table (tables_in list) pid (Some names)) (ap (λ t. t.names) is ∙ ap (λ names. slice_set names fd d) (sym rows-here))) i;
      rows = rows-kept list (pid - 1) (Some new) (ap (λ t. t.rows) is ∙ sym (ap rows_if was)) i;
    }

    -- it gets rows, or gives some back
    pub names-kept : (new : Tabled) → new.names ≡ old.names → tables_in (slice_set list (pid - 1) (Some new)) ≡ tables_in list
    names-kept new is = map-set_same (option_map (λ (table : Tabled). table.names)) list (pid - 1) (Some new) None (ap (λ names. Some names) is ∙ sym (ap (option_map (λ (table : Tabled). table.names)) was))

    pub rows-was : rows_at (rows_in list) pid ≡ old.rows
    rows-was = rows-are list pid ∙ ap (λ b. if b then rows_if (at list (pid - 1)) else 0) (lt-ltb 0 pid here.0) ∙ ap rows_if was

    pub rows-now : (new : Tabled) → rows_at (rows_in (slice_set list (pid - 1) (Some new))) ≡ set_at nat_eq (rows_at (rows_in list)) pid new.rows
    rows-now new = rows-put list pid (Some new) here.0 here.1

    pub rows-more : (new : Tabled) → old.rows ≤ new.rows → (q : ℕ) → rows_at (rows_in list) q ≤ rows_at (rows_in (slice_set list (pid - 1) (Some new))) q
    rows-more new more q = subst (λ n. rows_at (rows_in list) q ≤ n) (sym (ap (λ f. f q) (rows-now new))) (elim (eqb_tells pid q) as (λ _. rows_at (rows_in list) q ≤ set_at nat_eq (rows_at (rows_in list)) pid new.rows q) [
      | inl e ↦
          subst (λ b. rows_at (rows_in list) q ≤ (if b then new.rows else rows_at (rows_in list) q)) (sym e.0)
          (omega (arith, more, ap (rows_at (rows_in list)) (sym e.1), rows-was))
      | inr e ↦ subst (λ b. rows_at (rows_in list) q ≤ (if b then new.rows else rows_at (rows_in list) q)) (sym e.0) (omega arith)
    ])

    pub rows-here-now : (new : Tabled) → rows_at (rows_in (slice_set list (pid - 1) (Some new))) pid ≡ new.rows
    rows-here-now new = ap (λ f. f pid) (rows-now new) ∙ ap (λ b. if b then new.rows else rows_at (rows_in list) pid) (eq-eqb pid pid refl)
