-- What holds of the fields, part by part, through each change.
use Rattle.std.proofs.Common.{◌≡◌, ◌≢◌, ℕ, ◌+◌, ◌-◌, ◌<◌, ◌≤◌, Bool, true, false, cond, List, [], ◌∷◌, Option, Some, None, refl, sym, ◌∙◌, ap, subst, inl, inr, length, arith, ⊎_elim}
use Rattle.std.specs.Prelude.{if◌then◌else◌, ◌&&◌, is_some, count_by, IfSome, option_map}
use Rattle.std.proofs.lemmas.Bool.{cases_lt}
use Rattle.std.proofs.lemmas.Bool.Decides.{eqb_tells}
use Rattle.std.proofs.lemmas.List.Sums.{sum_by-cons, get_or-le-sum_by, sum_by-le-sum_by}
use Rattle.std.proofs.lemmas.List.{get_or_past}
use Rattle.slab.specs.Slab.{Slab, Updates}
use Rattle.pl_model.specs.declared.calls.Mode.{Mode}
use Rattle.pl_model.specs.declared.calls.Mode.TheVariants as mode
use Rattle.pl_model.specs.declared.node.Node.{Node}
use Rattle.pl_model.specs.declared.node.Node.TheVariants.{Pipe, File}
use Rattle.pl_model.specs.Modes.{reads, writes}
use Rattle.pl_model.specs.Nodes.{same_node}
use Rattle.pl_model.proofs.Nodes.{same_node-refl}
use Rattle.pl_desc.specs.declared.description.Description.{Description}
use Rattle.pl_desc.specs.declared.ends.Ends.{Ends}
use Rattle.pl_desc.specs.declared.limits.DescLimits.{DescLimits}
use Rattle.pl_desc.specs.declared.ends.Counts.{Counts}
use Rattle.pl_desc.specs.Rows.{at, Tables, row_at, naming, count_at}
use Rattle.pl_desc.specs.Descs.{Opened, Room, AreLimits, IsTidy, is_end_on, ends_on, live_count}
use Rattle.pl_desc.specs.Ends.{one_if, raised, lowered, change_ends, counted, ends_at, ends_in, no_ends, HasCounts}
use Rattle.pl_desc.specs.Slots.{opened_of, opened_in, holders_of, loose_from, IsSound}
use Rattle.pl_desc.proofs.RowLemmas.{within, row-names}
use Rattle.pl_desc.proofs.SlotLemmas.{at-opened, tally-change, loose-at}

-- as many descriptions are open as there are slots with one
pub live-is : (slots : List (Option Description)) → live_count (opened_in slots) ≡ count_by is_some slots
unfolding live_count
live-is [] = refl
live-is (None ∷ slots) = live-is slots
live-is (Some d ∷ slots) =
    sum_by-cons (λ o. cond (is_some o) 1 0) (Some (opened_of d)) (opened_in slots)
    ∙ ap (λ n. 1 + n) (live-is slots)
    ∙ sym (sum_by-cons (λ o. cond (is_some o) 1 0) (Some d) slots)

-- what is open, where one key has changed
module _ (key : ℕ) (xs ys : List (Option Opened)) (others : (q : ℕ) → q ≢ key → at ys q ≡ at xs q) where
  pub live-change : live_count ys + one_if (is_some (at xs key)) ≡ live_count xs + one_if (is_some (at ys key))
  unfolding live_count
  live-change = tally-change is_some refl key xs ys others

  pub ends-change : (test : Mode → Bool) (node : Node) → ends_on test ys node + one_if (is_end_on test node (at xs key)) ≡ ends_on test xs node + one_if (is_end_on test node (at ys key))
  unfolding ends_on
  ends-change test node = tally-change (is_end_on test node) refl key xs ys others

module _ {limits : DescLimits} (tables : Tables) (slots : List (Option Description)) (ends : Node → Ends) (sound : IsSound limits tables slots ends) where
  -- all holders of a key
  pub holders-are : (key : ℕ) → naming tables key + count_at (loose_from 0 tables slots) key ≡ holders_of (at slots key)
  holders-are key = let a = loose-at tables slots key in let b = sound.held key in (let c : naming tables key + count_at (loose_from 0 tables slots) key ≡ holders_of (at slots key) = omega (arith, a, b) in c)

  opened_some : (o : Option Description) → 0 < holders_of o → is_some (option_map opened_of o) ≡ true
  opened_some None l = absurd (omega arith)
  opened_some (Some d) l = refl

  held_some : (o : Option Description) → IfSome o (λ d. 1 ≤ d.holders) → is_some (option_map opened_of o) ≡ true → 0 < holders_of o
  held_some None a h = absurd (cc)
  held_some (Some d) a h = omega (arith, a)

  held_none : (o : Option Description) → option_map opened_of o ≡ None → holders_of o ≡ 0
  held_none None h = refl
  held_none (Some d) h = absurd (cc)

  -- what has a holder is there
  pub is_open : (key : ℕ) → 0 < holders_of (at slots key) → is_some (at (opened_in slots) key) ≡ true
  is_open key l = ap is_some (at-opened slots key) ∙ opened_some (at slots key) l

  pub is_named : (pid fd key : ℕ) → row_at tables pid fd ≡ Some key → is_some (at (opened_in slots) key) ≡ true
  is_named pid fd key h = is_open key (let a = row-names tables pid fd key h in let b = sound.held key in (let c : 0 < holders_of (at slots key) = omega (arith, a, b) in c))

  pub tidy : (room : Room) → IsTidy (record { tables = tables; opened = opened_in slots; loose = loose_from 0 tables slots; room = room; limits = limits })
  tidy room = record {
    limited = sound.limited;
    few = sound.few;
    wide = sound.wide;
    named = is_named;
    held = λ key h. subst (λ n. 0 < n) (sym (holders-are key)) (held_some (at slots key) (sound.alive key) (sym (ap is_some (at-opened slots key)) ∙ h));
    bare = λ key h. holders-are key ∙ held_none (at slots key) (sym (at-opened slots key) ∙ h);
    most = sound.most;
  }

  -- the tables change
  pub sound-tables : (other : Tables) → length other ≤ limits.processes → ((place : ℕ) → IfSome (at other place) (λ t. length t ≡ limits.descriptors)) → ((key : ℕ) → naming other key ≤ holders_of (at slots key)) → IsSound limits other slots ends
  sound-tables other few wide held = record {
    limited = sound.limited;
    few = few;
    wide = wide;
    held = held;
    alive = sound.alive;
    most = sound.most;
    counted = sound.counted;
  }

  -- the counts change, and tell the same
  pub sound-ends : (other : Node → Ends) → other ≡ ends → IsSound limits tables slots other
  sound-ends other e = subst (IsSound limits tables slots) (sym e) sound

  -- the holders change
  pub sound-slots : (after : List (Option Description)) → opened_in after ≡ opened_in slots → ((key : ℕ) → naming tables key ≤ holders_of (at after key)) → ((key : ℕ) → IfSome (at after key) (λ d. 1 ≤ d.holders)) → IsSound limits tables after ends
  sound-slots after same held alive = record {
    limited = sound.limited;
    few = sound.few;
    wide = sound.wide;
    held = held;
    alive = alive;
    most = subst (λ os. live_count os ≤ limits.descriptions) (sym same) sound.most;
    counted = λ node. sound.counted node ∙ ap (λ os. counted os node) (sym same);
  }

-- the counts of a node, where a description is opened or gone
counts-more : (b : Bool) (mode : Mode) (e : Ends) → (if b then raised mode e else e) ≡ record { readers = e.readers + one_if (b && reads mode); writers = e.writers + one_if (b && writes mode) }
counts-more true mode e = refl
counts-more false mode e = (
    let r : e.readers ≡ e.readers + 0 = omega arith in
    let w : e.writers ≡ e.writers + 0 = omega arith in
    λ i. record { readers = r i; writers = w i })

counts-less : (b : Bool) (mode : Mode) (e : Ends) → (if b then lowered mode e else e) ≡ record { readers = e.readers - one_if (b && reads mode); writers = e.writers - one_if (b && writes mode) }
counts-less true mode e = refl
counts-less false mode e = (
    let r : e.readers ≡ e.readers - 0 = omega arith in
    let w : e.writers ≡ e.writers - 0 = omega arith in
    λ i. record { readers = r i; writers = w i })

-- a description is opened
module _ {limits : DescLimits} (tables : Tables) (old new : Slab Description) (ends other : Node → Ends) (key : ℕ) (d : Description)
    (sound : IsSound limits tables old.slots ends) (updates : Updates old new key (Some d)) (vacant : at old.slots key ≡ None) (one : d.holders ≡ 1) where
  abbrev before : List (Option Opened)
  before = opened_in old.slots

  abbrev after : List (Option Opened)
  after = opened_in new.slots

  others : (q : ℕ) → q ≢ key → at after q ≡ at before q
  others q n = at-opened new.slots q ∙ ap (option_map opened_of) (updates.others q n) ∙ sym (at-opened old.slots q)

  here_before : at before key ≡ None
  here_before = at-opened old.slots key ∙ ap (option_map opened_of) vacant

  here_after : at after key ≡ Some (opened_of d)
  here_after = at-opened new.slots key ∙ ap (option_map opened_of) updates.changed

  pub live-more : live_count after ≡ live_count before + 1
  live-more =
      let c = live-change key before after others in
      let b : one_if (is_some (at before key)) ≡ 0 = ap (λ o. one_if (is_some o)) here_before in
      let a : one_if (is_some (at after key)) ≡ 1 = ap (λ o. one_if (is_some o)) here_after in
      (let r : live_count after ≡ live_count before + 1 = omega (arith, a, b, c) in r)

  ends-more : (test : Mode → Bool) (node : Node) → ends_on test after node ≡ ends_on test before node + one_if (same_node d.node node && test d.mode)
  ends-more test node =
      let c = ends-change key before after others test node in
      let b : one_if (is_end_on test node (at before key)) ≡ 0 = ap (λ o. one_if (is_end_on test node o)) here_before in
      let a : one_if (is_end_on test node (at after key)) ≡ one_if (same_node d.node node && test d.mode) = ap (λ o. one_if (is_end_on test node o)) here_after in
      (let r : ends_on test after node ≡ ends_on test before node + one_if (same_node d.node node && test d.mode) = omega (arith, a, b, c) in r)

  pub sound-opened : live_count before < limits.descriptions → other ≡ change_ends d.node (raised d.mode) ends → IsSound limits tables new.slots other
  sound-opened room e = record {
    limited = sound.limited;
    few = sound.few;
    wide = sound.wide;
    held = held;
    alive = alive;
    most = omega (arith, live-more, room);
    counted = λ node. ap (λ f. f node) e ∙ ap (λ x. if same_node d.node node then raised d.mode x else x) (sound.counted node) ∙ counts-more (same_node d.node node) d.mode (counted before node)
        ∙ (λ i. record { readers = sym (ends-more reads node) i; writers = sym (ends-more writes node) i });
  }
    where
      held : (q : ℕ) → naming tables q ≤ holders_of (at new.slots q)
      held q = elim (eqb_tells q key) as (λ _. naming tables q ≤ holders_of (at new.slots q)) [
        | inl t ↦ (
            let none : holders_of (at old.slots q) ≡ 0 = ap (λ k. holders_of (at old.slots k)) t.1 ∙ ap holders_of vacant in
            let l = sound.held q in
            omega (arith, none, l))
        | inr t ↦ subst (λ o. naming tables q ≤ holders_of o) (sym (updates.others q t.1)) (sound.held q)
      ]

      alive : (q : ℕ) → IfSome (at new.slots q) (λ d. 1 ≤ d.holders)
      alive q = elim (eqb_tells q key) as (λ _. IfSome (at new.slots q) (λ d. 1 ≤ d.holders)) [
        | inl t ↦ subst (λ o. IfSome o (λ d. 1 ≤ d.holders)) (sym (ap (at new.slots) t.1 ∙ updates.changed)) (omega (arith, one))
        | inr t ↦ subst (λ o. IfSome o (λ d. 1 ≤ d.holders)) (sym (updates.others q t.1)) (sound.alive q)
      ]

-- a description is gone
module _ {limits : DescLimits} (tables : Tables) (old new : Slab Description) (ends other : Node → Ends) (key : ℕ) (d : Description)
    (sound : IsSound limits tables old.slots ends) (updates : Updates old new key None) (was : at old.slots key ≡ Some d) (bare : naming tables key ≡ 0) where
  abbrev start : List (Option Opened)
  start = opened_in old.slots

  abbrev left : List (Option Opened)
  left = opened_in new.slots

  rest : (q : ℕ) → q ≢ key → at left q ≡ at start q
  rest q n = at-opened new.slots q ∙ ap (option_map opened_of) (updates.others q n) ∙ sym (at-opened old.slots q)

  here_start : at start key ≡ Some (opened_of d)
  here_start = at-opened old.slots key ∙ ap (option_map opened_of) was

  here_left : at left key ≡ None
  here_left = at-opened new.slots key ∙ ap (option_map opened_of) updates.changed

  pub live-less : live_count left + 1 ≡ live_count start
  live-less =
      let c = live-change key start left rest in
      let b : one_if (is_some (at start key)) ≡ 1 = ap (λ o. one_if (is_some o)) here_start in
      let a : one_if (is_some (at left key)) ≡ 0 = ap (λ o. one_if (is_some o)) here_left in
      (let r : live_count left + 1 ≡ live_count start = omega (arith, a, b, c) in r)

  pub ends-less : (test : Mode → Bool) (node : Node) → ends_on test left node + one_if (same_node d.node node && test d.mode) ≡ ends_on test start node
  ends-less test node =
      let c = ends-change key start left rest test node in
      let b : one_if (is_end_on test node (at start key)) ≡ one_if (same_node d.node node && test d.mode) = ap (λ o. one_if (is_end_on test node o)) here_start in
      let a : one_if (is_end_on test node (at left key)) ≡ 0 = ap (λ o. one_if (is_end_on test node o)) here_left in
      (let r : ends_on test left node + one_if (same_node d.node node && test d.mode) ≡ ends_on test start node = omega (arith, a, b, c) in r)

  ends-left : (test : Mode → Bool) (node : Node) → ends_on test start node - one_if (same_node d.node node && test d.mode) ≡ ends_on test left node
  ends-left test node = let e = ends-less test node in (let r : ends_on test start node - one_if (same_node d.node node && test d.mode) ≡ ends_on test left node = omega (arith, e) in r)

  pub sound-gone : other ≡ change_ends d.node (lowered d.mode) ends → IsSound limits tables new.slots other
  sound-gone e = record {
    limited = sound.limited;
    few = sound.few;
    wide = sound.wide;
    held = held;
    alive = alive;
    most = (let m = sound.most in omega (arith, live-less, m));
    counted = λ node. ap (λ f. f node) e ∙ ap (λ x. if same_node d.node node then lowered d.mode x else x) (sound.counted node) ∙ counts-less (same_node d.node node) d.mode (counted start node)
        ∙ (λ i. record { readers = ends-left reads node i; writers = ends-left writes node i });
  }
    where
      held : (q : ℕ) → naming tables q ≤ holders_of (at new.slots q)
      held q = elim (eqb_tells q key) as (λ _. naming tables q ≤ holders_of (at new.slots q)) [
        | inl t ↦ (let none : naming tables q ≡ 0 = ap (naming tables) t.1 ∙ bare in omega (arith, none))
        | inr t ↦ subst (λ o. naming tables q ≤ holders_of o) (sym (updates.others q t.1)) (sound.held q)
      ]

      alive : (q : ℕ) → IfSome (at new.slots q) (λ d. 1 ≤ d.holders)
      alive q = elim (eqb_tells q key) as (λ _. IfSome (at new.slots q) (λ d. 1 ≤ d.holders)) [
        | inl t ↦ subst (λ o. IfSome o (λ d. 1 ≤ d.holders)) (sym (ap (at new.slots) t.1 ∙ updates.changed)) tt
        | inr t ↦ subst (λ o. IfSome o (λ d. 1 ≤ d.holders)) (sym (updates.others q t.1)) (sound.alive q)
      ]

-- a description that is there is counted on its node
pub counted_there : (opened : List (Option Opened)) (key : ℕ) (o : Opened) → at opened key ≡ Some o → (test : Mode → Bool) → one_if (test o.mode) ≤ ends_on test opened o.node
unfolding ends_on
counted_there opened key o h test =
    let some : is_some (at opened key) ≡ true = ap is_some h in
    let all : one_if (is_end_on test o.node (at opened key)) ≤ count_by (is_end_on test o.node) opened = get_or-le-sum_by (λ x. cond (is_end_on test o.node x) 1 0) opened key None (within opened key some) in
    let one : one_if (is_end_on test o.node (at opened key)) ≡ one_if (test o.mode) = ap (λ x. one_if (is_end_on test o.node x)) h ∙ ap (λ b. one_if (b && test o.mode)) (same_node-refl o.node) in
    omega (arith, all, one)

-- no more descriptions are on a node than are open
pub ends-few : (test : Mode → Bool) (opened : List (Option Opened)) (node : Node) → ends_on test opened node ≤ live_count opened
unfolding ends_on live_count
ends-few test opened node = sum_by-le-sum_by (λ o. cond (is_end_on test node o) 1 0) (λ o. cond (is_some o) 1 0) opened by
  where
    bit : (b : Bool) → cond b 1 0 ≤ 1
    bit true = omega arith
    bit false = omega arith

    by : (o : Option Opened) → cond (is_end_on test node o) 1 0 ≤ cond (is_some o) 1 0
    by None = omega arith
    by (Some x) = bit (same_node x.node node && test x.mode)

-- a key with a count is within the list
placed : (list : List Ends) (key : ℕ) (m : Mode) → one_if (reads m) ≤ (ends_in list key).readers → one_if (writes m) ≤ (ends_in list key).writers → key < length list
placed list key m r w = ⊎_elim (λ l. l) (λ l. absurd (past l m r w)) (cases_lt key (length list))
  where
    past : length list ≤ key → (m : Mode) → one_if (reads m) ≤ (ends_in list key).readers → one_if (writes m) ≤ (ends_in list key).writers → ⊥
    past l mode.Read r w = (let e : (ends_in list key).readers ≡ 0 = ap (λ x. x.readers) (get_or_past list key no_ends l) in omega (arith, e, r))
    past l mode.Write r w = (let e : (ends_in list key).writers ≡ 0 = ap (λ x. x.writers) (get_or_past list key no_ends l) in omega (arith, e, w))
    past l mode.Both r w = (let e : (ends_in list key).readers ≡ 0 = ap (λ x. x.readers) (get_or_past list key no_ends l) in omega (arith, e, r))

-- a node with a count has a place for it
pub has_counts : {A : Type 0} (counts : Counts A) (node : Node) (m : Mode) → one_if (reads m) ≤ (ends_at counts node).readers → one_if (writes m) ≤ (ends_at counts node).writers → HasCounts counts node
has_counts counts (Pipe p) m r w = placed counts.pipes.items p m r w
has_counts counts (File f) m r w = placed counts.files.items f m r w

-- nothing is open
naming-none : (key : ℕ) → naming [] key ≡ 0
unfolding naming
naming-none key = refl

live-none : live_count [] ≡ 0
unfolding live_count
live-none = refl

ends_on-none : (test : Mode → Bool) (node : Node) → ends_on test [] node ≡ 0
unfolding ends_on
ends_on-none test node = refl

pub sound-none : {limits : DescLimits} → AreLimits limits → (ends : Node → Ends) → ((node : Node) → ends node ≡ no_ends) → IsSound limits [] [] ends
sound-none limited ends none = record {
  limited = limited;
  few = omega arith;
  wide = λ place. tt;
  held = λ key. omega (arith, naming-none key);
  alive = λ key. tt;
  most = omega (arith, live-none);
  counted = λ node. none node ∙ (λ i. record { readers = sym (ends_on-none reads node) i; writers = sym (ends_on-none writes node) i });
}
