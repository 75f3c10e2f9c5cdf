-- What each change leaves, on the fields.
use Rattle.std.proofs.Common.{◌≡◌, ◌≢◌, ℕ, ◌+◌, ◌-◌, ◌^◌, ◌<◌, ◌≤◌, Bool, true, false, List, Option, Some, None, refl, sym, ◌∙◌, ap, subst, inl, inr, nat_eq, length, arith, replicate}
use Rattle.std.specs.Prelude.{if◌then◌else◌, ◌&&◌, is_some, slice_set, count_by, IfSome, option_map, Result, Ok, Err, is_err, OnOk, OnErr}
use Rattle.std.proofs.Math.Path.{fun_ext}
use Rattle.std.proofs.lemmas.Bool.{eq-eqb, ne_eqb, eqb-true, false≢true}
use Rattle.std.proofs.lemmas.Bool.Decides.{eqb_tells}
use Rattle.std.proofs.lemmas.List.{length-set}
use Rattle.pl_model.specs.declared.calls.Mode.{Mode}
use Rattle.pl_model.specs.declared.node.Node.{Node}
use Rattle.pl_model.specs.Map.{set_at}
use Rattle.pl_model.specs.Modes.{reads, writes}
use Rattle.pl_model.specs.Nodes.{same_node}
use Rattle.pl_desc.specs.declared.description.Description.{Description}
use Rattle.pl_desc.specs.declared.ends.Ends.{Ends}
use Rattle.pl_desc.specs.declared.limits.DescLimits.{DescLimits}
use Rattle.pl_desc.specs.Rows.{at, Tables, table_of, is_pid, rows_in, rows_of, row_at, with_row, with_rows_of, with_table, names, named_in, naming, count_at, change_count, one_more, one_less}
use Rattle.pl_desc.specs.Descs.{Room, last_hold, is_end_on, ends_on, live_count}
use Rattle.pl_desc.specs.Ends.{one_if}
use Rattle.pl_desc.specs.Slots.{opened_of, opened_in, holders_of, loose_from, held_all, IsSound}
use Rattle.pl_desc.proofs.Known.{Known, Starts}
use Rattle.pl_desc.proofs.TableLemmas.{at-free}
use Rattle.pl_desc.proofs.RowLemmas.{within, pid_in, table_at, pids-set, rows-set, rows-same, naming-set, wide-set, row-naming, row-pids, row-rows, named_in-none, named_in-closed, rows-length, naming-few, pid-found}
use Rattle.pl_desc.proofs.SlotLemmas.{slot_of, kept-some, at-opened, at-lent, at-lent_other, opened-lent, loose-at, loose-same, loose-change, all-opened, all-holders, all-length}
use Rattle.pl_desc.proofs.Sound.{live-change, ends-change, sound-tables, sound-slots, is_named, holders-are}

module _ (m : Known) where
  open m use {limits, tables, slots, ends, sound}

  abbrev loose : ℕ → ℕ
  loose = count_at (loose_from 0 tables slots)

  -- what has a loose hold is there
  pub loose-some : (key : ℕ) → 0 < loose key → is_some (at slots key) ≡ true
  loose-some key l = by (at slots key) (let a = loose-at tables slots key in (let r : 0 < holders_of (at slots key) = omega (arith, a, l) in r))
    where
      by : (o : Option Description) → 0 < holders_of o → is_some o ≡ true
      by None l = absurd (omega arith)
      by (Some d) l = refl

  pub loose-within : (key : ℕ) → 0 < loose key → key < length slots
  loose-within key l = within slots key (loose-some key l)

  -- a description that was lent out to be written
  module _ (key : ℕ) (x y : Description) (was : at slots key ≡ Some x) where
    abbrev lent : List (Option Description)
    lent = slice_set slots key (Some y)

    holders_was : holders_of (at slots key) ≡ x.holders
    holders_was = ap holders_of was

    holders_is : holders_of (at lent key) ≡ y.holders
    holders_is = ap holders_of (at-lent slots key x y was)

    -- whether it has one holder
    pub last-is : (room : Room) → last_hold (record { tables = tables; opened = opened_in slots; loose = loose_from 0 tables slots; room = room; limits = limits }) key ≡ nat_eq x.holders 1
    last-is room = ap (λ n. nat_eq n 1) (holders-are tables slots ends sound key ∙ holders_was)

    -- the last hold, where that is a loose one
    pub one-left : 0 < loose key → x.holders ≤ 1 → (x.holders ≡ 1) × (naming tables key ≡ 0)
    one-left l few =
        let a = loose-at tables slots key in
        let b = holders_was in
        (let p : x.holders ≡ 1 = omega arith in let q : naming tables key ≡ 0 = omega arith in (p, q))

    pub fits-lent : loose key < 2 ^ 100 → x.holders + 1 < 2 ^ 128
    fits-lent l =
        let a = loose-at tables slots key in
        let b = naming-few tables key sound.limited sound.few sound.wide in
        let c = holders_was in
        omega arith

    pub sound-lent : opened_of y ≡ opened_of x → naming tables key ≤ y.holders → 1 ≤ y.holders → IsSound limits tables lent ends
    sound-lent same held alive = sound-slots tables slots ends sound lent (opened-lent slots key x y was same) (λ q. all_held q) (λ q. all_alive q)
      where
        all_held : (q : ℕ) → naming tables q ≤ holders_of (at lent q)
        all_held q = elim (eqb_tells q key) as (λ _. naming tables q ≤ holders_of (at lent q)) [
          | inl e ↦ subst (λ k. naming tables k ≤ holders_of (at lent k)) (sym e.1) (subst (λ n. naming tables key ≤ n) (sym holders_is) held)
          | inr e ↦ subst (λ o. naming tables q ≤ holders_of o) (sym (at-lent_other slots key x y was q e.1)) (sound.held q)
        ]

        all_alive : (q : ℕ) → IfSome (at lent q) (λ d. 1 ≤ d.holders)
        all_alive q = elim (eqb_tells q key) as (λ _. IfSome (at lent q) (λ d. 1 ≤ d.holders)) [
          | inl e ↦ subst (λ o. IfSome o (λ d. 1 ≤ d.holders)) (sym (ap (at lent) e.1 ∙ at-lent slots key x y was)) alive
          | inr e ↦ subst (λ o. IfSome o (λ d. 1 ≤ d.holders)) (sym (at-lent_other slots key x y was q e.1)) (sound.alive q)
        ]

    pub loose-lent : (f : ℕ → ℕ) → y.holders - naming tables key ≡ f (x.holders - naming tables key) → count_at (loose_from 0 tables lent) ≡ change_count key f loose
    loose-lent f e = loose-change tables tables slots lent key f
        (ap (λ n. n - naming tables key) holders_is ∙ e ∙ ap (λ n. f (n - naming tables key)) (sym holders_was))
        (λ q n. ap (λ o. holders_of o - naming tables q) (at-lent_other slots key x y was q n))

    -- one more hold, and one less
    pub sound-more : opened_of y ≡ opened_of x → y.holders ≡ x.holders + 1 → IsSound limits tables lent ends
    sound-more same e = (
        let a = sound.held key in
        let b = holders_was in
        sound-lent same (omega (arith, a, b, e)) (omega (arith, e)))

    pub loose-more : y.holders ≡ x.holders + 1 → count_at (loose_from 0 tables lent) ≡ change_count key one_more loose
    loose-more e = loose-lent one_more (
        let a = sound.held key in
        let b = holders_was in
        (let r : y.holders - naming tables key ≡ (x.holders - naming tables key) + 1 = omega (arith, a, b, e) in r))

    pub sound-less : opened_of y ≡ opened_of x → 0 < loose key → y.holders ≡ x.holders - 1 → 1 < x.holders → IsSound limits tables lent ends
    sound-less same l e more = (
        let a = loose-at tables slots key in
        let b = holders_was in
        sound-lent same (omega (arith, a, b, e)) (omega (arith, e)))

    pub loose-less : y.holders ≡ x.holders - 1 → count_at (loose_from 0 tables lent) ≡ change_count key one_less loose
    loose-less e = loose-lent one_less (let r : y.holders - naming tables key ≡ (x.holders - naming tables key) - 1 = omega (arith, e) in r)

    -- what the description says changes, on the same node and in the same mode
    module _ (same : y.holders ≡ x.holders) (node : y.node ≡ x.node) (mode : y.mode ≡ x.mode) where
      others : (q : ℕ) → q ≢ key → at (opened_in lent) q ≡ at (opened_in slots) q
      others q n = at-opened lent q ∙ ap (option_map opened_of) (at-lent_other slots key x y was q n) ∙ sym (at-opened slots q)

      said_was : at (opened_in slots) key ≡ Some (opened_of x)
      said_was = at-opened slots key ∙ ap (option_map opened_of) was

      said_is : at (opened_in lent) key ≡ Some (opened_of y)
      said_is = at-opened lent key ∙ ap (option_map opened_of) (at-lent slots key x y was)

      pub said-live : live_count (opened_in lent) ≡ live_count (opened_in slots)
      said-live =
          let c = live-change key (opened_in slots) (opened_in lent) others in
          let a : one_if (is_some (at (opened_in slots) key)) ≡ 1 = ap (λ o. one_if (is_some o)) said_was in
          let b : one_if (is_some (at (opened_in lent) key)) ≡ 1 = ap (λ o. one_if (is_some o)) said_is in
          (let r : live_count (opened_in lent) ≡ live_count (opened_in slots) = omega (arith, a, b, c) in r)

      pub said-ends : (test : Mode → Bool) → ends_on test (opened_in lent) ≡ ends_on test (opened_in slots)
      said-ends test = fun_ext by
        where
          by : (n : Node) → ends_on test (opened_in lent) n ≡ ends_on test (opened_in slots) n
          by n =
              let c = ends-change key (opened_in slots) (opened_in lent) others test n in
              let a : one_if (is_end_on test n (at (opened_in lent) key)) ≡ one_if (is_end_on test n (at (opened_in slots) key)) = ap (λ o. one_if (is_end_on test n o)) said_is ∙ (λ i. one_if (same_node (node i) n && test (mode i))) ∙ ap (λ o. one_if (is_end_on test n o)) (sym said_was) in
              (let r : ends_on test (opened_in lent) n ≡ ends_on test (opened_in slots) n = omega (arith, a, c) in r)

      pub said-loose : loose_from 0 tables lent ≡ loose_from 0 tables slots
      said-loose = loose-same tables tables slots lent (length-set slots key (Some y)) by
        where
          by : (q : ℕ) → holders_of (at lent q) - naming tables q ≡ holders_of (at slots q) - naming tables q
          by q = elim (eqb_tells q key) as (λ _. holders_of (at lent q) - naming tables q ≡ holders_of (at slots q) - naming tables q) [
            | inl e ↦ ap (λ k. holders_of (at lent k) - naming tables k) e.1 ∙ ap (λ n. n - naming tables key) (holders_is ∙ same ∙ sym holders_was) ∙ ap (λ k. holders_of (at slots k) - naming tables k) (sym e.1)
            | inr e ↦ ap (λ o. holders_of o - naming tables q) (at-lent_other slots key x y was q e.1)
          ]

      pub sound-said : IsSound limits tables lent ends
      sound-said = record {
        limited = sound.limited;
        few = sound.few;
        wide = sound.wide;
        held = λ q. held q;
        alive = λ q. alive q;
        most = subst (λ n. n ≤ limits.descriptions) (sym said-live) sound.most;
        counted = λ n. sound.counted n ∙ (λ i. record { readers = sym (said-ends reads) i n; writers = sym (said-ends writes) i n });
      }
        where
          held : (q : ℕ) → naming tables q ≤ holders_of (at lent q)
          held q = elim (eqb_tells q key) as (λ _. naming tables q ≤ holders_of (at lent q)) [
            | inl e ↦ subst (λ k. naming tables k ≤ holders_of (at lent k)) (sym e.1) (subst (λ n. naming tables key ≤ n) (holders_was ∙ sym same ∙ sym holders_is) (sound.held key))
            | inr e ↦ subst (λ o. naming tables q ≤ holders_of o) (sym (at-lent_other slots key x y was q e.1)) (sound.held q)
          ]

          alive : (q : ℕ) → IfSome (at lent q) (λ d. 1 ≤ d.holders)
          alive q = elim (eqb_tells q key) as (λ _. IfSome (at lent q) (λ d. 1 ≤ d.holders)) [
            | inl e ↦ subst (λ o. IfSome o (λ d. 1 ≤ d.holders)) (sym (ap (at lent) e.1 ∙ at-lent slots key x y was)) (subst (λ n. 1 ≤ n) (sym same) (subst (λ o. IfSome o (λ d. 1 ≤ d.holders)) was (sound.alive key)))
            | inr e ↦ subst (λ o. IfSome o (λ d. 1 ≤ d.holders)) (sym (at-lent_other slots key x y was q e.1)) (sound.alive q)
          ]

  -- a row of a process
  module _ (pid fd : ℕ) (process : is_pid tables pid ≡ true) (place : fd < limits.descriptors) where
    pub in_rows : fd < length (rows_of tables pid)
    in_rows = omega (arith, place, rows-length tables pid process sound.wide)

    -- the row is changed, where no key is named more often than it is held
    module _ (d : Option ℕ) where
      abbrev put : Tables
      put = with_table tables pid (Some (slice_set (rows_of tables pid) fd d))

      pub sound-put : ((key : ℕ) → naming put key ≤ holders_of (at slots key)) → IsSound limits put slots ends
      sound-put held = sound-tables tables slots ends sound put
          (omega (arith, sound.few, length-set tables (pid - 1) (Some (slice_set (rows_of tables pid) fd d))))
          (let r = pid_in tables pid process in wide-set tables pid (Some (slice_set (rows_of tables pid) fd d)) r.0 r.1 limits.descriptors (length-set (rows_of tables pid) fd d ∙ rows-length tables pid process sound.wide) sound.wide)
          held

      pub pids-put : is_pid put ≡ is_pid tables
      pids-put = row-pids tables pid fd d process in_rows

      pub rows-put : row_at put ≡ with_row (row_at tables) pid fd d
      rows-put = row-rows tables pid fd d process in_rows

    -- a free descriptor is let name a key
    module _ (key : ℕ) (free : row_at tables pid fd ≡ None) where
      named_more : (q : ℕ) → naming (put (Some key)) q ≡ naming tables q + one_if (nat_eq key q)
      named_more q =
          let n = row-naming tables pid fd (Some key) process in_rows q in
          let z : one_if (names q (row_at tables pid fd)) ≡ 0 = ap (λ o. one_if (names q o)) free in
          (let r : naming (put (Some key)) q ≡ naming tables q + one_if (nat_eq key q) = omega (arith, n, z) in r)

      named_here : naming (put (Some key)) key ≡ naming tables key + 1
      named_here = named_more key ∙ ap (λ b. naming tables key + one_if b) (eq-eqb key key refl)

      named_there : (q : ℕ) → q ≢ key → naming (put (Some key)) q ≡ naming tables q
      named_there q n = named_more q ∙ ap (λ b. naming tables q + one_if b) (ne_eqb key q (λ h. n (sym h))) ∙ (let r : naming tables q + 0 ≡ naming tables q = omega arith in r)

      pub sound-installed : 0 < loose key → IsSound limits (put (Some key)) slots ends
      sound-installed l = sound-put (Some key) held
        where
          held : (q : ℕ) → naming (put (Some key)) q ≤ holders_of (at slots q)
          held q = elim (eqb_tells q key) as (λ _. naming (put (Some key)) q ≤ holders_of (at slots q)) [
            | inl e ↦ subst (λ k. naming (put (Some key)) k ≤ holders_of (at slots k)) (sym e.1) (omega (arith, named_here, loose-at tables slots key, l))
            | inr e ↦ omega (arith, named_there q e.1, sound.held q)
          ]

      pub loose-installed : count_at (loose_from 0 (put (Some key)) slots) ≡ change_count key one_less loose
      loose-installed = loose-change tables (put (Some key)) slots slots key one_less
          (let e = named_here in (let r : holders_of (at slots key) - naming (put (Some key)) key ≡ (holders_of (at slots key) - naming tables key) - 1 = omega (arith, e) in r))
          (λ q n. ap (λ m. holders_of (at slots q) - m) (named_there q n))

    -- a descriptor that named a key is closed
    module _ (key : ℕ) (was : row_at tables pid fd ≡ Some key) where
      named_less : (q : ℕ) → naming (put None) q + one_if (nat_eq key q) ≡ naming tables q
      named_less q =
          let n = row-naming tables pid fd None process in_rows q in
          let z : one_if (names q (row_at tables pid fd)) ≡ one_if (nat_eq key q) = ap (λ o. one_if (names q o)) was in
          (let r : naming (put None) q + one_if (nat_eq key q) ≡ naming tables q = omega (arith, n, z) in r)

      left_here : naming (put None) key + 1 ≡ naming tables key
      left_here = ap (λ b. naming (put None) key + one_if b) (sym (eq-eqb key key refl)) ∙ named_less key

      left_there : (q : ℕ) → q ≢ key → naming (put None) q ≡ naming tables q
      left_there q n = (let r : naming (put None) q ≡ naming (put None) q + 0 = omega arith in r) ∙ ap (λ b. naming (put None) q + one_if b) (sym (ne_eqb key q (λ h. n (sym h)))) ∙ named_less q

      pub sound-closed : IsSound limits (put None) slots ends
      sound-closed = sound-put None (λ q. let a = named_less q in let b = sound.held q in omega arith)

      pub loose-closed : count_at (loose_from 0 (put None) slots) ≡ change_count key one_more loose
      loose-closed = loose-change tables (put None) slots slots key one_more
          (let a = left_here in let b = sound.held key in (let r : holders_of (at slots key) - naming (put None) key ≡ (holders_of (at slots key) - naming tables key) + 1 = omega (arith, a, b) in r))
          (λ q n. ap (λ m. holders_of (at slots q) - m) (left_there q n))

    -- a descriptor that named a key is let name another
    module _ (key other : ℕ) (was : row_at tables pid fd ≡ Some other) (lent : 0 < loose key) where
      named_changed : (q : ℕ) → naming (put (Some key)) q + one_if (nat_eq other q) ≡ naming tables q + one_if (nat_eq key q)
      named_changed q =
          let n = row-naming tables pid fd (Some key) process in_rows q in
          let z : one_if (names q (row_at tables pid fd)) ≡ one_if (nat_eq other q) = ap (λ o. one_if (names q o)) was in
          (let r : naming (put (Some key)) q + one_if (nat_eq other q) ≡ naming tables q + one_if (nat_eq key q) = omega (arith, n, z) in r)

      spare : naming tables key + 1 ≤ holders_of (at slots key)
      spare = let l = loose-at tables slots key in omega (arith, l, lent)

      pub sound-replaced : IsSound limits (put (Some key)) slots ends
      sound-replaced = sound-put (Some key) held
        where
          held : (q : ℕ) → naming (put (Some key)) q ≤ holders_of (at slots q)
          held q = elim (eqb_tells key q) as (λ _. naming (put (Some key)) q ≤ holders_of (at slots q)) [
            | inl e ↦
                let n = named_changed q in
                let one : one_if (nat_eq key q) ≡ 1 = ap one_if e.0 in
                let few : naming tables q + 1 ≤ holders_of (at slots q) = subst (λ k. naming tables k + 1 ≤ holders_of (at slots k)) e.1 spare in
                omega (arith, n, one, few)
            | inr e ↦
                let n = named_changed q in
                let none : one_if (nat_eq key q) ≡ 0 = ap one_if e.0 in
                omega (arith, n, none, sound.held q)
          ]

      pub loose-replaced : count_at (loose_from 0 (put (Some key)) slots) ≡ change_count other one_more (change_count key one_less loose)
      loose-replaced = fun_ext (λ q. loose-at (put (Some key)) slots q ∙ by q (nat_eq other q) refl (nat_eq key q) refl)
        where
          by : (q : ℕ) (a : Bool) → nat_eq other q ≡ a → (b : Bool) → nat_eq key q ≡ b → holders_of (at slots q) - naming (put (Some key)) q ≡ change_count other one_more (change_count key one_less loose) q
          by q a is_a b is_b = left a b (let n = named_changed q in let x : one_if (nat_eq other q) ≡ one_if a = ap one_if is_a in let y : one_if (nat_eq key q) ≡ one_if b = ap one_if is_b in omega (arith, n, x, y)) is_b
              ∙ sym (λ i. if is_a i then one_more (if is_b i then one_less (loose q) else loose q) else (if is_b i then one_less (loose q) else loose q))
            where
              few : nat_eq key q ≡ true → naming tables q + 1 ≤ holders_of (at slots q)
              few e = subst (λ k. naming tables k + 1 ≤ holders_of (at slots k)) (eqb-true key q e) spare

              left : (a b : Bool) → naming (put (Some key)) q + one_if a ≡ naming tables q + one_if b → nat_eq key q ≡ b
                  → holders_of (at slots q) - naming (put (Some key)) q ≡ (if a then one_more (if b then one_less (loose q) else loose q) else (if b then one_less (loose q) else loose q))
              left true true n e = let l = loose-at tables slots q in let f = few e in (let r : holders_of (at slots q) - naming (put (Some key)) q ≡ (loose q - 1) + 1 = omega (arith, n, l, f) in r)
              left true false n e = let l = loose-at tables slots q in let h = sound.held q in (let r : holders_of (at slots q) - naming (put (Some key)) q ≡ loose q + 1 = omega (arith, n, l, h) in r)
              left false true n e = let l = loose-at tables slots q in let f = few e in (let r : holders_of (at slots q) - naming (put (Some key)) q ≡ loose q - 1 = omega (arith, n, l, f) in r)
              left false false n e = let l = loose-at tables slots q in (let r : holders_of (at slots q) - naming (put (Some key)) q ≡ loose q = omega (arith, n, l) in r)

  -- a process with no open descriptor ends
  module _ (pid : ℕ) (process : is_pid tables pid ≡ true) (closed : (fd : ℕ) → row_at tables pid fd ≡ None) where
    abbrev ended : Tables
    ended = with_table tables pid None

    naming-ended : (key : ℕ) → naming ended key ≡ naming tables key
    naming-ended key =
        let r = pid_in tables pid process in
        let a = naming-set tables pid None r.0 r.1 key in
        let b : named_in key (table_of tables pid) ≡ 0 = named_in-closed key (rows_of tables pid) closed in
        let c : named_in key None ≡ 0 = refl in
        (let r : naming ended key ≡ naming tables key = omega (arith, a, b, c) in r)

    pub sound-ended : IsSound limits ended slots ends
    sound-ended = sound-tables tables slots ends sound ended
        (omega (arith, sound.few, length-set tables (pid - 1) None))
        (let r = pid_in tables pid process in wide-set tables pid None r.0 r.1 limits.descriptors tt sound.wide)
        (λ q. let a = naming-ended q in let b = sound.held q in omega arith)

    pub loose-ended : loose_from 0 ended slots ≡ loose_from 0 tables slots
    loose-ended = loose-same tables ended slots slots refl (λ q. ap (λ n. holders_of (at slots q) - n) (naming-ended q))

    pub pids-ended : is_pid ended ≡ set_at nat_eq (is_pid tables) pid false
    pids-ended = let r = pid_in tables pid process in pids-set tables pid None r.0 r.1

    pub rows-ended : row_at ended ≡ row_at tables
    rows-ended = let r = pid_in tables pid process in rows-same tables pid None r.0 r.1 (λ k. sym (closed k))

-- the tables of the same processes, whatever places have none
wide-same : (tables places : Tables) (width : ℕ) → table_of places ≡ table_of tables → ((q : ℕ) → IfSome (at tables q) (λ t. length t ≡ width)) → (q : ℕ) → IfSome (at places q) (λ t. length t ≡ width)
wide-same tables places width same wide q = subst (λ o. IfSome o (λ t. length t ≡ width)) (sym place) (wide q)
  where
    place : at places q ≡ at tables q
    place =
        let l : 0 < q + 1 = omega arith in
        let e : (q + 1) - 1 ≡ q = omega arith in
        ap (at places) (sym e) ∙ sym (table_at places (q + 1) l) ∙ ap (λ m. m (q + 1)) same ∙ table_at tables (q + 1) l ∙ ap (at tables) e

-- the list of the tables loses places that have none
module _ (m : Known) (left : Tables) (few : length left ≤ length m.tables) (same : table_of left ≡ table_of m.tables) (names_same : naming left ≡ naming m.tables) where
  open m use {limits, tables, slots, ends, sound}

  pub sound-left : IsSound limits left slots ends
  sound-left = sound-tables tables slots ends sound left (omega (arith, few, sound.few)) (wide-same tables left limits.descriptors same sound.wide) (λ q. subst (λ f. f q ≤ holders_of (at slots q)) (sym names_same) (sound.held q))

  pub loose-left : loose_from 0 left slots ≡ loose_from 0 tables slots
  loose-left = loose-same tables left slots slots refl (λ q. ap (λ f. holders_of (at slots q) - f q) names_same)

-- what holds where a call didn't fail
pub ok_part : {T E P : Type 0} (r : Result T E) → is_err r ≡ false → OnOk r P → P
ok_part (Ok x) h p = p
ok_part (Err e) h p = absurd (false≢true (sym h))

-- what holds after an error
pub err_part : {T E P : Type 0} (r : Result T E) → is_err r ≡ true → OnErr r P → P
err_part (Ok x) h p = absurd (false≢true h)
err_part (Err e) h p = p

-- a process starts
module _ (m : Known) (s : Starts m) where
  open m use {limits, tables, slots, ends, sound}
  open s use {pid, free, places, same, names_same, few, high, table, wide}

  abbrev started : Tables
  started = with_table places pid (Some table)

  low : 0 < pid
  low = let f = pid-found tables limits.processes pid free in omega (arith, f.1)

  vacant : table_of places pid ≡ None
  vacant = ap (λ m. m pid) same ∙ (pid-found tables limits.processes pid free).0

  pub naming-started : (key : ℕ) → naming started key ≡ naming tables key + count_by (names key) table
  naming-started key =
      let n = naming-set places pid (Some table) low high key in
      let z : named_in key (table_of places pid) ≡ 0 = ap (named_in key) vacant in
      let e : naming places key ≡ naming tables key = ap (λ m. m key) names_same in
      (let r : naming started key ≡ naming tables key + count_by (names key) table = omega (arith, n, z, e) in r)

  few_started : length started ≤ limits.processes
  few_started = omega (arith, few, length-set places (pid - 1) (Some table))

  wide_started : (place : ℕ) → IfSome (at started place) (λ t. length t ≡ limits.descriptors)
  wide_started = wide-set places pid (Some table) low high limits.descriptors wide (wide-same tables places limits.descriptors same sound.wide)

  pub pids-started : is_pid started ≡ set_at nat_eq (is_pid tables) pid true
  pids-started = pids-set places pid (Some table) low high ∙ ap (λ (m : ℕ → Option (List (Option ℕ))). set_at nat_eq (λ q. is_some (m q)) pid true) same

  pub rows-started : row_at started ≡ (λ q k. if nat_eq q pid then at table k else row_at tables q k)
  rows-started = rows-set places pid (Some table) low high ∙ ap (λ (m : ℕ → Option (List (Option ℕ))). λ q k. if nat_eq q pid then at table k else at (rows_in (m q)) k) same

  -- with no open descriptor
  module _ (empty : table ≡ replicate limits.descriptors None) where
    naming_same : (key : ℕ) → naming started key ≡ naming tables key
    naming_same key =
        let n = naming-started key in
        let z : count_by (names key) table ≡ 0 = ap (count_by (names key)) empty ∙ named_in-none limits.descriptors key in
        (let r : naming started key ≡ naming tables key = omega (arith, n, z) in r)

    pub sound-empty : IsSound limits started slots ends
    sound-empty = sound-tables tables slots ends sound started few_started wide_started (λ key. let a = naming_same key in let b = sound.held key in omega arith)

    pub rows-empty : row_at started ≡ row_at tables
    rows-empty = rows-same places pid (Some table) low high (λ k. ap (λ t. at t k) empty ∙ at-free limits.descriptors k ∙ sym (ap (λ o. at (rows_in o) k) vacant)) ∙ ap (λ (m : ℕ → Option (List (Option ℕ))). λ q k. at (rows_in (m q)) k) same

    pub loose-empty : loose_from 0 started slots ≡ loose_from 0 tables slots
    loose-empty = loose-same tables started slots slots refl (λ q. ap (λ n. holders_of (at slots q) - n) (naming_same q))

  -- with the descriptors of another process
  module _ (other : ℕ) (copied : table ≡ rows_of tables other) where
    abbrev after : List (Option Description)
    after = held_all table slots

    pub keys_there : (fd key : ℕ) → at table fd ≡ Some key → is_some (at slots key) ≡ true
    keys_there fd key h = slot_of slots key (is_named tables slots ends sound other fd key (ap (λ t. at t fd) (sym copied) ∙ h))

    held_after : (key : ℕ) → holders_of (at after key) ≡ holders_of (at slots key) + count_by (names key) table
    held_after = all-holders table slots keys_there

    alive_after : (key : ℕ) → IfSome (at after key) (λ d. 1 ≤ d.holders)
    alive_after key = by (at after key) refl
      where
        was_alive : (o : Option Description) → is_some o ≡ true → IfSome o (λ d. 1 ≤ d.holders) → 1 ≤ holders_of o
        was_alive None s h = absurd (cc)
        was_alive (Some d) s h = h

        by : (o : Option Description) → at after key ≡ o → IfSome o (λ d. 1 ≤ d.holders)
        by None e = tt
        by (Some d) e =
            let was = was_alive (at slots key) (kept-some after slots (sym (all-opened table slots)) key (ap is_some e)) (sound.alive key) in
            let h = held_after key in
            let d_holds : holders_of (at after key) ≡ d.holders = ap holders_of e in
            omega (arith, was, h, d_holds)

    pub sound-copied : IsSound limits started after ends
    sound-copied = sound-tables tables after ends
        (sound-slots tables slots ends sound after (all-opened table slots) (λ key. let a = held_after key in let b = sound.held key in omega arith) alive_after)
        started few_started wide_started (λ key. let a = held_after key in let b = sound.held key in let n = naming-started key in omega arith)

    pub loose-copied : loose_from 0 started after ≡ loose_from 0 tables slots
    loose-copied = loose-same tables started slots after (all-length table slots) (λ q.
        let a = held_after q in
        let n = naming-started q in
        (let r : holders_of (at after q) - naming started q ≡ holders_of (at slots q) - naming tables q = omega (arith, a, n) in r))

    pub rows-copied : row_at started ≡ with_rows_of (row_at tables) other pid
    rows-copied = rows-started ∙ ap (λ (t : List (Option ℕ)). λ q k. if nat_eq q pid then at t k else row_at tables q k) copied

-- no count is near the end of its numbers
pub holders-few : {limits : DescLimits} (tables : Tables) (slots : List (Option Description)) (ends : Node → Ends) → IsSound limits tables slots ends → (key : ℕ) → count_at (loose_from 0 tables slots) key < 2 ^ 100 → holders_of (at slots key) < 2 ^ 127
holders-few tables slots ends sound key l =
    let a = loose-at tables slots key in
    let b = naming-few tables key sound.limited sound.few sound.wide in
    omega arith
