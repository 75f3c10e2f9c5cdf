-- Who holds a description, and that it is live exactly where something does.
use Rattle.std.proofs.Common.{◌≡◌, ℕ, suc, ◌+◌, ◌-◌, ◌<◌, ◌≤◌, Bool, true, false, not, cond, List, [], ◌∷◌, ◌++◌, length, Option, Some, None, IfSome, refl, sym, ◌∙◌, ap, subst, inl, inr, nat_eq, nat_lt, arith}
use Rattle.std.proofs.Math.Path.{fun_ext}
use Rattle.std.specs.Prelude.{◌||◌, ◌*◌, is_some}
use Rattle.std.specs.List.{sum_by, list_any}
use Rattle.std.specs.Set.{is_member}
use Rattle.std.proofs.lemmas.Bool.{eq-eqb, ne_eqb}
use Rattle.std.proofs.lemmas.Bool.Decides.{eqb_tells}
use Rattle.std.proofs.lemmas.List.Sums.{sum_by-cons, sum_by_push}
use Rattle.pl_model.specs.Map.{Map, get, put, without}
use Rattle.pl_model.specs.State.{Core}
use Rattle.pl_model.specs.Live.{in_rows, is_live}
use Rattle.pl_model.specs.Numbered.{numbers}
use Rattle.pl_model.proofs.settling.Members.{both_ways}
use Rattle.pl_model.proofs.settling.WhoIsLive.{Row, row_found, row_member}
use Rattle.pl_model.proofs.settling.Parking.{live-is}
use Rattle.pl_model.proofs.settling.Parking.{keeps as machine_keeps}
use Rattle.pl_model.proofs.Counting.{positive, above, is_zero, some_sum, some_counted}
use Rattle.pl_parked.specs.declared.call.ParkedCall.{ParkedCall}
use Rattle.pl_numbered.specs.Rising.{Rise}
use Rattle.pl_desc.specs.Rows.{change_count, one_more, one_less, at, Tables, table_of, is_pid, rows_in, rows_of, row_at, names, named_in, naming}
use Rattle.pl_desc.proofs.RowLemmas.{within, table_at, pid_in, has_table, rows-length, row-names}
use Rattle.pl_state.specs.Contents.{parked_of, desc_limits}
use Rattle.pl_state.specs.Sound.{IsWaiting, most_kept, times, keeping}
use Rattle.pl_desc.specs.declared.limits.DescLimits.{DescLimits}
use Rattle.pl_model.specs.Tables.{process_limit, descriptor_limit}

-- a number that is one more and then one less, and one more is not 0
pub one_more_less : (key : ℕ) (m : ℕ → ℕ) → change_count key one_less (change_count key one_more m) ≡ m
one_more_less key m = fun_ext (λ q. by (nat_eq key q) (m q))
  where
    by : (b : Bool) (n : ℕ) → cond b (cond b (n + 1) n - 1) (cond b (n + 1) n) ≡ n
    by true n = omega arith
    by false n = refl

pub more_positive : (m n : ℕ → ℕ) (key : ℕ) → n ≡ change_count key one_more m → 0 < n key
more_positive m n key e = let r : n key ≡ m key + 1 = (λ i. e i key) ∙ ap (λ b. cond b (m key + 1) (m key)) (eq-eqb key key refl) in omega (arith, r)

-- A key that rows name has a row.
row_named : (key : ℕ) (rows : List (Option ℕ)) → list_any (names key) rows ≡ true → (fd : ℕ) × (at rows fd ≡ Some key)
row_named key [] h = absurd (cc)
row_named key (None ∷ rows) h = (let r = row_named key rows h in (suc r.0, r.1))
row_named key (Some d ∷ rows) h = elim (eqb_tells d key) as (λ _. (fd : ℕ) × (at (Some d ∷ rows) fd ≡ Some key)) [
  | inl t ↦ (0, ap (λ z. Some z) t.1)
  | inr t ↦ (let r = row_named key rows (sym (ap (λ b. b || list_any (names key) rows) t.0) ∙ h) in (suc r.0, r.1))
]

table_named : (key : ℕ) (tables : Tables) → 0 < sum_by (named_in key) tables → (place : ℕ) × (0 < named_in key (at tables place))
table_named key [] h = absurd (omega (arith, h))
table_named key (table ∷ tables) h = by (nat_lt 0 (named_in key table)) refl (table_named key tables)
  where
    all : sum_by (named_in key) (table ∷ tables) ≡ named_in key table + sum_by (named_in key) tables
    all = sum_by-cons (named_in key) table tables

    by : (b : Bool) → nat_lt 0 (named_in key table) ≡ b → (0 < sum_by (named_in key) tables → (place : ℕ) × (0 < named_in key (at tables place))) → (place : ℕ) × (0 < named_in key (at (table ∷ tables) place))
    by true t rest = (0, positive _ t)
    by false t rest = (let r = rest (omega (arith, h, all, is_zero _ t)) in (suc r.0, r.1))

pub naming_row : (tables : Tables) (key : ℕ) → 0 < naming tables key → (pid : ℕ) × (fd : ℕ) × (row_at tables pid fd ≡ Some key)
unfolding naming
naming_row tables key h =
    let t = table_named key tables h in
    let r = row_named key (rows_in (at tables t.0)) (sym (some_counted (names key) (rows_in (at tables t.0))) ∙ above _ t.1) in
    let pid : ℕ = t.0 + 1 in
    let place : pid - 1 ≡ t.0 = omega arith in
    (pid, r.0, ap (λ o. at (rows_in o) r.0) (table_at tables pid (omega arith) ∙ ap (at tables) place) ∙ r.1)

nat_eq_flip : (d : ℕ) (xs : List ℕ) → is_member nat_eq xs d ≡ list_any (λ y. nat_eq y d) xs
nat_eq_flip d xs = ap (λ t. list_any t xs) (fun_ext (λ y. both d y))
  where
    both : (a b : ℕ) → nat_eq a b ≡ nat_eq b a
    both a b = elim (eqb_tells a b) as (λ _. nat_eq a b ≡ nat_eq b a) [
      | inl t ↦ t.0 ∙ sym (eq-eqb b a (sym t.1))
      | inr t ↦ t.0 ∙ sym (ne_eqb b a (λ e. t.1 (sym e)))
    ]

-- a key stands once in a list of it alone, and in no list more often than the list is long
pub times_one : (key d : ℕ) → times (key ∷ []) d ≡ cond (nat_eq key d) 1 0
times_one key d = by (nat_eq key d)
  where
    by : (b : Bool) → 0 + cond b 1 0 ≡ cond b 1 0
    by true = refl
    by false = refl

pub times-cons : (key : ℕ) (keys : List ℕ) (d : ℕ) → times (key ∷ keys) d ≡ cond (nat_eq key d) 1 0 + times keys d
times-cons key keys d = sum_by-cons (λ k. cond (nat_eq k d) 1 0) key keys

abbrev by_test : Bool → ℕ
by_test b = cond b 1 0

-- a key of a list stands in it
pub times_member : (keys : List ℕ) (d : ℕ) → is_member nat_eq keys d ≡ true → 1 ≤ times keys d
times_member [] d h = absurd (cc)
times_member (key ∷ keys) d h = elim (eqb_tells d key) as (λ _. 1 ≤ times (key ∷ keys) d) [
  | inl e ↦ (let all = times-cons key keys d in let one : by_test (nat_eq key d) ≡ by_test true = ap (λ (b : Bool). by_test b) (eq-eqb key d (sym e.1)) in omega (arith, all, one))
  | inr e ↦ (let all = times-cons key keys d in let rest = times_member keys d (sym (ap (λ b. b || is_member nat_eq keys d) e.0) ∙ h) in omega (arith, all, rest))
]

pub times_most : (keys : List ℕ) (d : ℕ) → times keys d ≤ length keys
times_most [] d = omega arith
times_most (key ∷ keys) d = let all = times-cons key keys d in let rest = times_most keys d in omega (arith, all, rest, one (nat_eq key d))
  where
    one : (b : Bool) → cond b 1 0 ≤ 1
    one true = omega arith
    one false = omega arith

-- one hold more is that of a list of one key
pub held_once : (key : ℕ) (m n : ℕ → ℕ) → n ≡ change_count key one_more m → (q : ℕ) → n q ≡ m q + times (key ∷ []) q
held_once key m n is q = (λ i. is i q) ∙ by (nat_eq key q) (m q) ∙ ap (λ z. m q + z) (sym (times_one key q))
  where
    by : (b : Bool) (n : ℕ) → cond b (n + 1) n ≡ n + cond b 1 0
    by true n = omega arith
    by false n = omega arith

-- The calls that keep a key, through each change of them.
module _ {A : Type 0} where
  pub keeping-cons : (n : ℕ) (c : ParkedCall A) (calls : Map ℕ (ParkedCall A)) (d : ℕ) → keeping ((n, c) ∷ calls) d ≡ times c.kept d + keeping calls d
  keeping-cons n c calls d = sum_by-cons (λ (e : ℕ × ParkedCall A). times e.1.kept d) (n, c) calls

  pub keeping_more : (calls : Map ℕ (ParkedCall A)) (n : ℕ) (c : ParkedCall A) (d : ℕ) → keeping (calls ++ (n, c) ∷ []) d ≡ keeping calls d + times c.kept d
  keeping_more calls n c d = sum_by_push (λ (e : ℕ × ParkedCall A). times e.1.kept d) calls (n, c)

  -- another list is kept in place of one
  pub keeping_put : (calls : Map ℕ (ParkedCall A)) (n : ℕ) (was now : ParkedCall A) (d : ℕ) → get nat_eq calls n ≡ Some was → keeping (put nat_eq calls n now) d + times was.kept d ≡ keeping calls d + times now.kept d
  keeping_put [] n was now d here = absurd (cc)
  keeping_put (e ∷ es) n was now d here = by (nat_eq e.0 n) here (keeping_put es n was now d)
    where
      all : keeping (e ∷ es) d ≡ times e.1.kept d + keeping es d
      all = keeping-cons e.0 e.1 es d

      by : (b : Bool) → cond b (Some e.1) (get nat_eq es n) ≡ Some was → (get nat_eq es n ≡ Some was → keeping (put nat_eq es n now) d + times was.kept d ≡ keeping es d + times now.kept d) →
          keeping (cond b ((n, now) ∷ es) (e ∷ put nat_eq es n now)) d + times was.kept d ≡ keeping (e ∷ es) d + times now.kept d
      by true h rest = (
          let is : e.1 ≡ was = cc in
          let one : times e.1.kept d ≡ times was.kept d = ap (λ z. times z.kept d) is in
          let new : keeping ((n, now) ∷ es) d ≡ times now.kept d + keeping es d = keeping-cons n now es d in
          omega (arith, all, one, new))
      by false h rest = (
          let new : keeping (e ∷ put nat_eq es n now) d ≡ times e.1.kept d + keeping (put nat_eq es n now) d = keeping-cons e.0 e.1 (put nat_eq es n now) d in
          omega (arith, all, new, rest h))

  without_low : (low next n : ℕ) (es : Map ℕ (ParkedCall A)) → Rise low next es → n < low → without nat_eq es n ≡ es
  without_low low next n [] r l = refl
  without_low low next n (e ∷ es) r l =
      ap (λ b. cond (not b) (e ∷ without nat_eq es n) (without nat_eq es n)) (ne_eqb n e.0 (λ s. absurd (omega (arith, r.0, l, s))))
      ∙ ap (λ ys. e ∷ ys) (without_low (e.0 + 1) next n es r.1 (omega (arith, r.0, l)))

  pub keeping_without : (low next n : ℕ) (calls : Map ℕ (ParkedCall A)) (c : ParkedCall A) (d : ℕ) → Rise low next calls → get nat_eq calls n ≡ Some c → keeping (without nat_eq calls n) d + times c.kept d ≡ keeping calls d
  keeping_without low next n [] c d r h = absurd (cc)
  keeping_without low next n (e ∷ es) c d r h = elim (eqb_tells e.0 n) as (λ _. keeping (without nat_eq (e ∷ es) n) d + times c.kept d ≡ keeping (e ∷ es) d) [
    | inl t ↦
        let is : Some e.1 ≡ Some c = sym (ap (λ b. cond b (Some e.1) (get nat_eq es n)) t.0) ∙ h in
        let same : e.1 ≡ c = cc in
        let gone : without nat_eq (e ∷ es) n ≡ es =
        ap (λ b. cond (not b) (e ∷ without nat_eq es n) (without nat_eq es n)) (eq-eqb n e.0 (sym t.1)) ∙ without_low (e.0 + 1) next n es r.1 (omega (arith, t.1)) in
        let all : keeping (e ∷ es) d ≡ times e.1.kept d + keeping es d = keeping-cons e.0 e.1 es d in
        let left : keeping (without nat_eq (e ∷ es) n) d ≡ keeping es d = ap (λ ys. keeping ys d) gone in
        let one : times e.1.kept d ≡ times c.kept d = ap (λ z. times z.kept d) same in
        omega (arith, all, left, one)
    | inr t ↦
        let stays : without nat_eq (e ∷ es) n ≡ e ∷ without nat_eq es n = ap (λ b. cond (not b) (e ∷ without nat_eq es n) (without nat_eq es n)) (ne_eqb n e.0 (λ s. t.1 (sym s))) in
        let rest : keeping (without nat_eq es n) d + times c.kept d ≡ keeping es d = keeping_without (e.0 + 1) next n es c d r.1 (sym (ap (λ b. cond b (Some e.1) (get nat_eq es n)) t.0) ∙ h) in
        let all : keeping (e ∷ es) d ≡ times e.1.kept d + keeping es d = keeping-cons e.0 e.1 es d in
        let left : keeping (without nat_eq (e ∷ es) n) d ≡ times e.1.kept d + keeping (without nat_eq es n) d = ap (λ ys. keeping ys d) stays ∙ keeping-cons e.0 e.1 (without nat_eq es n) d in
        omega (arith, all, left, rest)
  ]

  pub absent_low : (low next n : ℕ) (es : Map ℕ (ParkedCall A)) → Rise low next es → n < low → get nat_eq es n ≡ None
  absent_low low next n [] r l = refl
  absent_low low next n (e ∷ es) r l =
      ap (λ b. cond b (Some e.1) (get nat_eq es n)) (ne_eqb e.0 n (λ s. absurd (omega (arith, r.0, l, s)))) ∙ absent_low (e.0 + 1) next n es r.1 (omega (arith, r.0, l))

  -- parked calls keep a key no more often than each may, of as many as there are numbers below the next
  pub keeping_few : (low next : ℕ) (es : Map ℕ (ParkedCall A)) (d : ℕ) → Rise low next es → ((n : ℕ) → IfSome (get nat_eq es n) (IsWaiting A)) → keeping es d + most_kept * low ≤ most_kept * next
  keeping_few low next [] d r w = omega (arith, r)
  keeping_few low next (e ∷ es) d r w =
      let all : keeping (e ∷ es) d ≡ times e.1.kept d + keeping es d = keeping-cons e.0 e.1 es d in
      let rest : keeping es d + most_kept * (e.0 + 1) ≤ most_kept * next = keeping_few (e.0 + 1) next es d r.1 others in
      let one = times_most e.1.kept d in
      omega (arith, all, rest, one, waits.few, r.0)
    where
      waits : IsWaiting A e.1
      waits = subst (λ o. IfSome o (IsWaiting A)) (ap (λ b. cond b (Some e.1) (get nat_eq es e.0)) (eq-eqb e.0 e.0 refl)) (w e.0)

      others : (n : ℕ) → IfSome (get nat_eq es n) (IsWaiting A)
      others n = elim (eqb_tells e.0 n) as (λ _. IfSome (get nat_eq es n) (IsWaiting A)) [
        | inl t ↦ subst (λ o. IfSome o (IsWaiting A)) (sym (absent_low (e.0 + 1) next n es r.1 (omega (arith, t.1)))) tt
        | inr t ↦ subst (λ o. IfSome o (IsWaiting A)) (ap (λ b. cond b (Some e.1) (get nat_eq es n)) t.0) (w n)
      ]

  keeps-is : (calls : Map ℕ (ParkedCall A)) (d : ℕ) → machine_keeps (parked_of calls) d ≡ nat_lt 0 (keeping calls d)
  keeps-is [] d = refl
  keeps-is (e ∷ es) d =
      (λ i. (nat_eq_flip d e.1.kept ∙ sym (some_counted (λ k. nat_eq k d) e.1.kept)) i || keeps-is es d i)
      ∙ sym (some_sum (times e.1.kept d) (keeping es d)) ∙ ap (nat_lt 0) (sym (keeping-cons e.0 e.1 es d))

-- A core whose rows are those of the tables, and whose parked calls are these.
module _ {A : Type 0} (c : Core A numbers) (tables : Tables) (calls : Map ℕ (ParkedCall A)) (processes : c.processes ≡ is_pid tables) (rows : c.rows ≡ row_at tables) (parked : c.parked ≡ parked_of calls)
    (bounds : DescLimits) (limited : bounds ≡ desc_limits c.limits) (few : length tables ≤ bounds.processes) (wide : (place : ℕ) → IfSome (at tables place) (λ table. length table ≡ bounds.descriptors)) where
  pub row_held : (d : ℕ) → 0 < naming tables d → Row c d
  row_held d h =
      let r = naming_row tables d h in
      let process : is_pid tables r.0 ≡ true = has_table (table_of tables r.0) r.1 (ap is_some r.2) in
      let pid = pid_in tables r.0 process in
      let within_it : r.1 < length (rows_of tables r.0) = within (rows_of tables r.0) r.1 (ap is_some r.2) in
      let size : length (rows_of tables r.0) ≡ bounds.descriptors = rows-length tables r.0 process wide in
      let most : bounds.processes ≡ process_limit c.limits = ap (λ (b : DescLimits). b.processes) limited in
      let width : bounds.descriptors ≡ descriptor_limit c.limits = ap (λ (b : DescLimits). b.descriptors) limited in
      record { pid = r.0; fd = r.1; low = omega (arith, pid.0); high = omega (arith, pid.1, few, most); process = (λ i. processes i r.0) ∙ process; within = omega (arith, within_it, size, width); names = (λ i. rows i r.0 r.1) ∙ r.2 }

  named-is : (d : ℕ) → is_member nat_eq (in_rows c) d ≡ nat_lt 0 (naming tables d)
  named-is d = both_ways (is_member nat_eq (in_rows c) d) (nat_lt 0 (naming tables d))
      (λ h. let r = row_found c d h in above _ (row-names tables r.pid r.fd d (sym (λ i. rows i r.pid r.fd) ∙ r.names)))
      (λ h. row_member c d (row_held d (positive _ h)))

  -- a description is live exactly where a row names it or a call keeps it
  pub lives-is : (d : ℕ) → is_live c d ≡ nat_lt 0 (naming tables d + keeping calls d)
  lives-is d = live-is c d ∙ (λ i. named-is d i || machine_keeps (parked i) d) ∙ ap (λ b. nat_lt 0 (naming tables d) || b) (keeps-is calls d) ∙ sym (some_sum (naming tables d) (keeping calls d))
