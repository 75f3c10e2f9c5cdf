-- A first process, and holds of one description, from tables with nothing in them on.
use Rattle.std.proofs.Common.{◌≡◌, ℕ, ◌+◌, ◌-◌, ◌<◌, Bool, true, false, Option, Some, None, [], refl, sym, ◌∙◌, ap, subst, nat_eq, nat_lt, arith}
use Rattle.std.specs.Prelude.{if◌then◌else◌, ◌^◌}
use Rattle.std.proofs.lemmas.Bool.{eq-eqb}
use Rattle.pl_model.specs.Map.{set_at}
use Rattle.pl_desc.specs.Descs.{Descs, live_count}
use Rattle.pl_desc.specs.Rows.{Tables, is_pid, row_at, rows_in, at, count_at, change_count, one_more, one_less, more_if}

-- a process that was started is there, where the tables stay
pub is_there : (tables left : Tables) (was : ℕ → Bool) (pid : ℕ) → is_pid tables ≡ set_at nat_eq was pid true → left ≡ tables → is_pid left pid ≡ true
is_there tables left was pid pids same = ap (λ ts. is_pid ts pid) same ∙ (λ i. pids i pid) ∙ ap (λ b. if b then true else was pid) (eq-eqb pid pid refl)

-- where there is no process there is no row
pub no_row : (pid fd : ℕ) → row_at [] pid fd ≡ None
no_row pid fd = by (nat_lt 0 pid)
  where
    by : (b : Bool) → at (rows_in (if b then at [] (pid - 1) else None)) fd ≡ None
    by true = refl
    by false = refl

-- a hold that is taken first, and then given up, leaves few
pub few_holds : (key : ℕ) (none held left : ℕ → ℕ) → none ≡ count_at [] → held ≡ change_count key one_more none → left ≡ change_count key one_less held → (q : ℕ) → left q < 2 ^ 100
few_holds key none held left is more less q =
    let same : left q ≡ 0 = (λ i. (less ∙ ap (λ m. change_count key one_less m) (more ∙ ap (λ m. change_count key one_more m) is)) i q) ∙ by (nat_eq key q) in
    subst (λ n. n < 2 ^ 100) (sym same) (omega arith)
  where
    by : (b : Bool) → (if b then (if b then 0 + 1 else 0) - 1 else (if b then 0 + 1 else 0)) ≡ 0
    by true = refl
    by false = refl

-- the key that got a hold more has one
pub has_hold : (was now : ℕ → ℕ) (named : Option ℕ) (key : ℕ) → now ≡ more_if named was → named ≡ Some key → 0 < now key
has_hold was now named key more is =
    let all : now key ≡ was key + 1 = (λ i. (more ∙ ap (λ o. more_if o was) is) i key) ∙ ap (λ b. if b then was key + 1 else was key) (eq-eqb key key refl) in
    omega (arith, all)

-- nothing is open
pub none_live : live_count [] ≡ 0
unfolding live_count
none_live = refl

-- room that is made twice, and a description that is opened, leave the tables
pub same_tables : (start first second opened : Descs) → first ≡ record start { room = first.room } → second ≡ record first { room = second.room }
    → opened ≡ record second { opened = opened.opened; loose = opened.loose; room = opened.room } → opened.tables ≡ start.tables
same_tables start first second opened one two three = ap (λ d. d.tables) three ∙ ap (λ d. d.tables) two ∙ ap (λ d. d.tables) one
