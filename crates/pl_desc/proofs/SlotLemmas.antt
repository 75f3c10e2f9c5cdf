-- What is open and what is held, before and after a change.
use Rattle.std.proofs.Common.{◌≡◌, ◌≢◌, ℕ, zero, suc, ◌+◌, ◌-◌, ◌<◌, ◌≤◌, Bool, true, false, cond, List, [], ◌∷◌, Option, Some, None, refl, sym, ◌∙◌, ap, inl, inr, nat_eq, length, drop, arith}
use Rattle.std.specs.Prelude.{if◌then◌else◌, is_some, slice_set, count_by, IsSome, option_map}
use Rattle.std.proofs.Math.Path.{fun_ext}
use Rattle.std.proofs.Math.ListN.{get_or-map}
use Rattle.std.proofs.Math.Seq.{map-set_same}
use Rattle.std.proofs.lemmas.List.{get_or-set_same, get_or-set_other, length-map, ext_get_or, at_drop_more, at_drop_all}
use Rattle.std.proofs.lemmas.List.Sums.{sum_by-cons}
use Rattle.std.proofs.lemmas.Bool.Decides.{eqb_tells}
use Rattle.slab.specs.Slab.{Slab, Updates}
use Rattle.pl_model.specs.Map.{set_at, change_at}
use Rattle.pl_desc.specs.declared.description.Description.{Description}
use Rattle.pl_desc.specs.Rows.{at, Tables, naming, names, count_at, change_count}
use Rattle.pl_desc.specs.Descs.{Opened}
use Rattle.pl_desc.specs.Ends.{one_if}
use Rattle.pl_desc.specs.Slots.{opened_of, opened_in, holders_of, loose_from, held_more, held_once, held_all}
use Rattle.pl_desc.proofs.RowLemmas.{within}

pub at-opened : (slots : List (Option Description)) (q : ℕ) → at (opened_in slots) q ≡ option_map opened_of (at slots q)
at-opened slots q = get_or-map (option_map opened_of) slots q None

-- a description that is there has a slot
pub slot_of : (slots : List (Option Description)) (key : ℕ) → IsSome (at (opened_in slots) key) → is_some (at slots key) ≡ true
slot_of slots key h = by (at slots key) (ap is_some (sym (at-opened slots key)) ∙ h)
  where
    by : (o : Option Description) → is_some (option_map opened_of o) ≡ true → is_some o ≡ true
    by None h = absurd (cc)
    by (Some d) h = refl

-- a map that has this at a key and agrees elsewhere
pub is_set_at : {V : Type 0} (m n : ℕ → V) (k : ℕ) (v : V) → n k ≡ v → ((q : ℕ) → q ≢ k → n q ≡ m q) → n ≡ set_at nat_eq m k v
is_set_at m n k v here there = fun_ext at_q
  where
    at_q : (q : ℕ) → n q ≡ (if nat_eq k q then v else m q)
    at_q q = elim (eqb_tells k q) as (λ _. n q ≡ (if nat_eq k q then v else m q)) [
      | inl e ↦ ap n (sym e.1) ∙ here ∙ ap (λ b. if b then v else m q) (sym e.0)
      | inr e ↦ there q (λ h. e.1 (sym h)) ∙ ap (λ b. if b then v else m q) (sym e.0)
    ]

-- what is open after an update of a slab
pub opened-updates : (old new : Slab Description) (key : ℕ) (slot : Option Description) → Updates old new key slot
    → at (opened_in new.slots) ≡ set_at nat_eq (at (opened_in old.slots)) key (option_map opened_of slot)
opened-updates old new key slot u = is_set_at (at (opened_in old.slots)) (at (opened_in new.slots)) key (option_map opened_of slot)
    (at-opened new.slots key ∙ ap (option_map opened_of) u.changed)
    (λ q n. at-opened new.slots q ∙ ap (option_map opened_of) (u.others q n) ∙ sym (at-opened old.slots q))

-- a count, where one place has changed
module _ {V : Type 0} (p : Option V → Bool) (none : p None ≡ false) where
  abbrev tally : List (Option V) → ℕ
  tally xs = count_by p xs

  tally-cons : (x : Option V) (xs : List (Option V)) → tally (x ∷ xs) ≡ one_if (p x) + tally xs
  tally-cons x xs = sum_by-cons (λ o. cond (p o) 1 0) x xs

  nothing : one_if (p None) ≡ 0
  nothing = ap one_if none

  pub tally-same : (xs ys : List (Option V)) → ((q : ℕ) → at ys q ≡ at xs q) → tally ys ≡ tally xs
  tally-same [] [] h = refl
  tally-same [] (y ∷ ys) h = tally-cons y ys ∙ (
      let a : tally ys ≡ 0 = tally-same [] ys (λ q. h (suc q)) in
      let b : one_if (p y) ≡ 0 = ap (λ o. one_if (p o)) (h 0) ∙ nothing in
      let c : one_if (p y) + tally ys ≡ 0 = omega arith in c)
  tally-same (x ∷ xs) [] h = sym (tally-cons x xs ∙ (
      let a : 0 ≡ tally xs = tally-same xs [] (λ q. h (suc q)) in
      let b : one_if (p x) ≡ 0 = ap (λ o. one_if (p o)) (sym (h 0)) ∙ nothing in
      let c : one_if (p x) + tally xs ≡ 0 = omega arith in c))
  tally-same (x ∷ xs) (y ∷ ys) h = tally-cons y ys ∙ (λ i. one_if (p (h 0 i)) + tally-same xs ys (λ q. h (suc q)) i) ∙ sym (tally-cons x xs)

  pub tally-change : (key : ℕ) (xs ys : List (Option V)) → ((q : ℕ) → q ≢ key → at ys q ≡ at xs q) → tally ys + one_if (p (at xs key)) ≡ tally xs + one_if (p (at ys key))
  tally-change key [] [] h = refl
  tally-change zero [] (y ∷ ys) h =
      let a : tally ys ≡ 0 = tally-same [] ys (λ q. h (suc q) (λ e. absurd (omega (arith, e)))) in
      let b = tally-cons y ys in
      let c = nothing in
      omega arith
  tally-change zero (x ∷ xs) [] h =
      let a : 0 ≡ tally xs = tally-same xs [] (λ q. h (suc q) (λ e. absurd (omega (arith, e)))) in
      let b = tally-cons x xs in
      let c = nothing in
      omega arith
  tally-change zero (x ∷ xs) (y ∷ ys) h =
      let a : tally ys ≡ tally xs = tally-same xs ys (λ q. h (suc q) (λ e. absurd (omega (arith, e)))) in
      let b = tally-cons x xs in
      let c = tally-cons y ys in
      omega arith
  tally-change (suc key) [] (y ∷ ys) h =
      let a : tally ys + one_if (p None) ≡ 0 + one_if (p (at ys key)) = tally-change key [] ys (λ q n. h (suc q) (λ e. n (omega (arith, e)))) in
      let b : one_if (p y) ≡ one_if (p None) = ap (λ o. one_if (p o)) (h 0 (λ e. absurd (omega (arith, e)))) in
      let c = tally-cons y ys in
      let d = nothing in
      omega arith
  tally-change (suc key) (x ∷ xs) [] h =
      let a : 0 + one_if (p (at xs key)) ≡ tally xs + one_if (p None) = tally-change key xs [] (λ q n. h (suc q) (λ e. n (omega (arith, e)))) in
      let b : one_if (p None) ≡ one_if (p x) = ap (λ o. one_if (p o)) (h 0 (λ e. absurd (omega (arith, e)))) in
      let c = tally-cons x xs in
      let d = nothing in
      omega arith
  tally-change (suc key) (x ∷ xs) (y ∷ ys) h =
      let a : tally ys + one_if (p (at xs key)) ≡ tally xs + one_if (p (at ys key)) = tally-change key xs ys (λ q n. h (suc q) (λ e. n (omega (arith, e)))) in
      let b : one_if (p y) ≡ one_if (p x) = ap (λ o. one_if (p o)) (h 0 (λ e. absurd (omega (arith, e)))) in
      let c = tally-cons x xs in
      let d = tally-cons y ys in
      omega arith

-- a description that was lent out to be written
module _ (slots : List (Option Description)) (key : ℕ) (x y : Description) (was : at slots key ≡ Some x) where
  lent_within : key < length slots
  lent_within = within slots key (ap is_some was)

  pub at-lent : at (slice_set slots key (Some y)) key ≡ Some y
  at-lent = get_or-set_same slots key (Some y) None lent_within

  pub at-lent_other : (q : ℕ) → q ≢ key → at (slice_set slots key (Some y)) q ≡ at slots q
  at-lent_other q n = get_or-set_other slots key q (Some y) None n

  pub opened-lent : opened_of y ≡ opened_of x → opened_in (slice_set slots key (Some y)) ≡ opened_in slots
  opened-lent e = map-set_same (option_map opened_of) slots key (Some y) None (ap (λ o. Some o) e ∙ ap (option_map opened_of) (sym was))

  pub opened-change : (f : Opened → Opened) → opened_of y ≡ f (opened_of x) → at (opened_in (slice_set slots key (Some y))) ≡ change_at key f (at (opened_in slots))
  opened-change f e = fun_ext at_q
    where
      at_q : (q : ℕ) → at (opened_in (slice_set slots key (Some y))) q ≡ change_at key f (at (opened_in slots)) q
      at_q q = elim (eqb_tells key q) as (λ _. at (opened_in (slice_set slots key (Some y))) q ≡ change_at key f (at (opened_in slots)) q) [
        | inl t ↦
            at-opened (slice_set slots key (Some y)) q ∙ ap (λ k. option_map opened_of (at (slice_set slots key (Some y)) k)) (sym t.1) ∙ ap (option_map opened_of) at-lent
            ∙ ap (λ o. Some o) e
            ∙ ap (λ o. option_map f (option_map opened_of o)) (sym was)
            ∙ ap (option_map f) (sym (at-opened slots key) ∙ ap (at (opened_in slots)) t.1)
            ∙ ap (λ b. if b then option_map f (at (opened_in slots) q) else at (opened_in slots) q) (sym t.0)
        | inr t ↦
            at-opened (slice_set slots key (Some y)) q ∙ ap (option_map opened_of) (at-lent_other q (λ h. t.1 (sym h))) ∙ sym (at-opened slots q)
            ∙ ap (λ b. if b then option_map f (at (opened_in slots) q) else at (opened_in slots) q) (sym t.0)
      ]

-- the loose holds of a key
pub loose-from : (k : ℕ) (tables : Tables) (slots : List (Option Description)) (q : ℕ) → count_at (loose_from k tables slots) q ≡ holders_of (at slots q) - naming tables (k + q)
unfolding loose_from
loose-from k tables [] q = let e : 0 ≡ 0 - naming tables (k + q) = omega arith in e
loose-from k tables (slot ∷ slots) zero = ap (λ j. holders_of slot - naming tables j) (let e : k ≡ k + zero = omega arith in e)
loose-from k tables (slot ∷ slots) (suc q) = loose-from (k + 1) tables slots q ∙ ap (λ j. holders_of (at slots q) - naming tables j) (let e : (k + 1) + q ≡ k + suc q = omega arith in e)

pub loose-at : (tables : Tables) (slots : List (Option Description)) (q : ℕ) → count_at (loose_from 0 tables slots) q ≡ holders_of (at slots q) - naming tables q
loose-at tables slots q = loose-from 0 tables slots q ∙ ap (λ j. holders_of (at slots q) - naming tables j) (let e : 0 + q ≡ q = omega arith in e)

pub loose-length : (k : ℕ) (tables : Tables) (slots : List (Option Description)) → length (loose_from k tables slots) ≡ length slots
unfolding loose_from
loose-length k tables [] = refl
loose-length k tables (slot ∷ slots) = ap suc (loose-length (k + 1) tables slots)

-- the same loose holds
pub loose-same : (tables other : Tables) (slots after : List (Option Description)) → length after ≡ length slots
    → ((q : ℕ) → holders_of (at after q) - naming other q ≡ holders_of (at slots q) - naming tables q) → loose_from 0 other after ≡ loose_from 0 tables slots
loose-same tables other slots after same h =
    ext_get_or 0 (loose_from 0 other after) (loose_from 0 tables slots) (loose-length 0 other after ∙ same ∙ sym (loose-length 0 tables slots))
    (λ q l. loose-at other after q ∙ h q ∙ sym (loose-at tables slots q))

-- the loose holds, where those of one key have changed
pub loose-change : (tables other : Tables) (slots after : List (Option Description)) (key : ℕ) (f : ℕ → ℕ)
    → holders_of (at after key) - naming other key ≡ f (holders_of (at slots key) - naming tables key)
    → ((q : ℕ) → q ≢ key → holders_of (at after q) - naming other q ≡ holders_of (at slots q) - naming tables q)
    → count_at (loose_from 0 other after) ≡ change_count key f (count_at (loose_from 0 tables slots))
loose-change tables other slots after key f here there = fun_ext at_q
  where
    mine : count_at (loose_from 0 other after) key ≡ f (count_at (loose_from 0 tables slots) key)
    mine = loose-at other after key ∙ here ∙ ap f (sym (loose-at tables slots key))

    at_q : (q : ℕ) → count_at (loose_from 0 other after) q ≡ change_count key f (count_at (loose_from 0 tables slots)) q
    at_q q = elim (eqb_tells key q) as (λ _. count_at (loose_from 0 other after) q ≡ change_count key f (count_at (loose_from 0 tables slots)) q) [
      | inl e ↦ ap (count_at (loose_from 0 other after)) (sym e.1) ∙ mine ∙ ap (λ k. f (count_at (loose_from 0 tables slots) k)) e.1 ∙ ap (λ b. if b then f (count_at (loose_from 0 tables slots) q) else count_at (loose_from 0 tables slots) q) (sym e.0)
      | inr e ↦ loose-at other after q ∙ there q (λ h. e.1 (sym h)) ∙ sym (loose-at tables slots q) ∙ ap (λ b. if b then f (count_at (loose_from 0 tables slots) q) else count_at (loose_from 0 tables slots) q) (sym e.0)
    ]

-- one holder more
held_same : (o : Option Description) → option_map opened_of (option_map held_more o) ≡ option_map opened_of o
held_same None = refl
held_same (Some d) = refl

held_some : (o : Option Description) → is_some (option_map held_more o) ≡ is_some o
held_some None = refl
held_some (Some d) = refl

held_count : (o : Option Description) → is_some o ≡ true → holders_of (option_map held_more o) ≡ holders_of o + 1
held_count None h = absurd (cc)
held_count (Some d) h = refl

module _ (key : ℕ) (slots : List (Option Description)) where
  pub once-opened : opened_in (held_once key slots) ≡ opened_in slots
  once-opened = map-set_same (option_map opened_of) slots key (option_map held_more (at slots key)) None (held_same (at slots key))

  pub once-some : (q : ℕ) → is_some (at slots q) ≡ true → is_some (at (held_once key slots) q) ≡ true
  once-some q h = elim (eqb_tells q key) as (λ _. is_some (at (held_once key slots) q) ≡ true) [
    | inl e ↦
        ap (λ k. is_some (at (held_once key slots) k)) e.1
        ∙ ap is_some (get_or-set_same slots key (option_map held_more (at slots key)) None (within slots key (ap (λ k. is_some (at slots k)) (sym e.1) ∙ h)))
        ∙ held_some (at slots key) ∙ ap (λ k. is_some (at slots k)) (sym e.1) ∙ h
    | inr e ↦ ap is_some (get_or-set_other slots key q (option_map held_more (at slots key)) None e.1) ∙ h
  ]

  pub once-holders : is_some (at slots key) ≡ true → (q : ℕ) → holders_of (at (held_once key slots) q) ≡ holders_of (at slots q) + one_if (nat_eq key q)
  once-holders h q = elim (eqb_tells key q) as (λ _. holders_of (at (held_once key slots) q) ≡ holders_of (at slots q) + one_if (nat_eq key q)) [
    | inl e ↦
        ap (λ k. holders_of (at (held_once key slots) k)) (sym e.1)
        ∙ ap holders_of (get_or-set_same slots key (option_map held_more (at slots key)) None (within slots key h))
        ∙ held_count (at slots key) h ∙ (λ i. holders_of (at slots (e.1 i)) + one_if (sym e.0 i))
    | inr e ↦
        ap holders_of (get_or-set_other slots key q (option_map held_more (at slots key)) None (λ t. e.1 (sym t)))
        ∙ (let z : one_if (nat_eq key q) ≡ 0 = ap one_if e.0 in let r : holders_of (at slots q) ≡ holders_of (at slots q) + one_if (nat_eq key q) = omega (arith, z) in r)
  ]

-- one holder more of each key that a table names
pub all-opened : (rows : List (Option ℕ)) (slots : List (Option Description)) → opened_in (held_all rows slots) ≡ opened_in slots
unfolding held_all
all-opened [] slots = refl
all-opened (None ∷ rows) slots = all-opened rows slots
all-opened (Some key ∷ rows) slots = all-opened rows (held_once key slots) ∙ once-opened key slots

pub all-holders : (rows : List (Option ℕ)) (slots : List (Option Description)) → ((fd key : ℕ) → at rows fd ≡ Some key → is_some (at slots key) ≡ true)
    → (q : ℕ) → holders_of (at (held_all rows slots) q) ≡ holders_of (at slots q) + count_by (names q) rows
unfolding held_all
all-holders [] slots here q = let e : holders_of (at slots q) ≡ holders_of (at slots q) + 0 = omega arith in e
all-holders (None ∷ rows) slots here q = all-holders rows slots (λ fd. here (suc fd)) q
all-holders (Some key ∷ rows) slots here q =
    let more : holders_of (at (held_all rows (held_once key slots)) q) ≡ holders_of (at (held_once key slots) q) + count_by (names q) rows = all-holders rows (held_once key slots) (λ fd k e. once-some key slots k (here (suc fd) k e)) q in
    let one : holders_of (at (held_once key slots) q) ≡ holders_of (at slots q) + one_if (nat_eq key q) = once-holders key slots (here 0 key refl) q in
    let count : count_by (names q) (Some key ∷ rows) ≡ one_if (nat_eq key q) + count_by (names q) rows = sum_by-cons (λ o. cond (names q o) 1 0) (Some key) rows in
    let all : holders_of (at (held_all rows (held_once key slots)) q) ≡ holders_of (at slots q) + count_by (names q) (Some key ∷ rows) = omega (arith, more, one, count) in
    all

pub all-length : (rows : List (Option ℕ)) (slots : List (Option Description)) → length (held_all rows slots) ≡ length slots
all-length rows slots = sym (length-map (held_all rows slots) (option_map opened_of)) ∙ ap length (all-opened rows slots) ∙ length-map slots (option_map opened_of)

-- no slots
pub loose-none : loose_from 0 [] [] ≡ []
unfolding loose_from
loose-none = refl

-- one row more of a table whose keys are held
pub all-some : (rows : List (Option ℕ)) (slots : List (Option Description)) (fd key : ℕ) (x : Description) → fd < length rows → at rows fd ≡ Some key → at slots key ≡ Some x
    → held_all (drop fd rows) slots ≡ held_all (drop (fd + 1) rows) (slice_set slots key (Some (held_more x)))
unfolding held_all
all-some rows slots fd key x l row was =
    at_drop_more (λ rs. held_all rs slots) rows fd None l
    ∙ ap (λ o. held_all (o ∷ drop (fd + 1) rows) slots) row
    ∙ ap (λ o. held_all (drop (fd + 1) rows) (slice_set slots key (option_map held_more o))) was

-- rows that name nothing are passed over
pub all-none : (rows : List (Option ℕ)) (slots : List (Option Description)) (from to : ℕ) → from ≤ to → to ≤ length rows → ((q : ℕ) → from ≤ q → q < to → at rows q ≡ None) → held_all (drop from rows) slots ≡ held_all (drop to rows) slots
unfolding held_all
all-none rows slots from to low high none = passed (to - from) from (let e : from + (to - from) ≡ to = omega arith in e) (omega arith)
  where
    passed : (n fd : ℕ) → fd + n ≡ to → from ≤ fd → held_all (drop fd rows) slots ≡ held_all (drop to rows) slots
    passed zero fd e l = ap (λ k. held_all (drop k rows) slots) (let s : fd ≡ to = omega arith in s)
    passed (suc n) fd e l =
        at_drop_more (λ rs. held_all rs slots) rows fd None (omega arith)
        ∙ ap (λ o. held_all (o ∷ drop (fd + 1) rows) slots) (none fd l (omega arith))
        ∙ passed n (fd + 1) (let s : (fd + 1) + n ≡ to = omega arith in s) (omega arith)

pub all-end : (rows : List (Option ℕ)) (slots : List (Option Description)) (fd : ℕ) → length rows ≤ fd → held_all (drop fd rows) slots ≡ slots
unfolding held_all
all-end rows slots fd l = at_drop_all (λ rs. held_all rs slots) rows fd l

-- what was there is there, where as much is open
pub kept-some : (slots after : List (Option Description)) → opened_in after ≡ opened_in slots → (key : ℕ) → is_some (at slots key) ≡ true → is_some (at after key) ≡ true
kept-some slots after same key h = slot_of after key (ap (λ os. is_some (at os key)) same ∙ ap is_some (at-opened slots key) ∙ still (at slots key) h)
  where
    still : (o : Option Description) → is_some o ≡ true → is_some (option_map opened_of o) ≡ true
    still None h = absurd (cc)
    still (Some d) h = refl

-- no count rises by more than the one
pub lent-few : (slots : List (Option Description)) (key : ℕ) (x : Description) → at slots key ≡ Some x → (q : ℕ) → holders_of (at (slice_set slots key (Some (held_more x))) q) ≤ holders_of (at slots q) + 1
lent-few slots key x was q = elim (eqb_tells q key) as (λ _. holders_of (at (slice_set slots key (Some (held_more x))) q) ≤ holders_of (at slots q) + 1) [
  | inl e ↦ (
      let a : holders_of (at (slice_set slots key (Some (held_more x))) q) ≡ x.holders + 1 = ap (λ k. holders_of (at (slice_set slots key (Some (held_more x))) k)) e.1 ∙ ap holders_of (at-lent slots key x (held_more x) was) in
      let b : holders_of (at slots q) ≡ x.holders = ap (λ k. holders_of (at slots k)) e.1 ∙ ap holders_of was in
      omega (arith, a, b))
  | inr e ↦ (let a : holders_of (at (slice_set slots key (Some (held_more x))) q) ≡ holders_of (at slots q) = ap holders_of (at-lent_other slots key x (held_more x) was q e.1) in omega (arith, a))
]
