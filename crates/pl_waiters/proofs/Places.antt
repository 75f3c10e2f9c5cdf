-- Places of nodes that change.
use Rattle.std.proofs.Common.{◌≡◌, ◌≢◌, ℕ, ◌<◌, ◌≤◌, ◌⊎◌, inl, inr, Bool, true, false, Option, List, length, slice_index_or, slice_set, refl, sym, ◌∙◌, ap, cond, max, arith}
use Rattle.std.specs.declared.option.Option.TheVariants.{None, Some}
use Rattle.std.specs.Prelude.{if◌then◌else◌}
use Rattle.std.specs.Cmp.{ranks}
use Rattle.std.specs.Ordering.{nat_cmp, ordering_then, is_eq, MatchOrdering}
use Rattle.std.specs.declared.cmp.Ordering.{Ordering}
use Rattle.std.specs.declared.cmp.Ordering.TheVariants.{Less, Equal, Greater}
use Rattle.std.specs.BTreeMap.{is_at}
use Rattle.std.specs.BTreeSet.{BTreeSet, contains}
use Rattle.std.proofs.lemmas.Bool.{cases_lt, leb-false, lt-leb}
use Rattle.std.proofs.Math.Nat.{le-max_left, le-max_right}
use Rattle.std.proofs.lemmas.Bool.Decides.{eqb_tells}
use Rattle.std.proofs.lemmas.List.{get_or-set_same, get_or-set_other, get_or_past}
use Rattle.pl_waiters.specs.declared.waiter.Waiter.{Waiter}
use Rattle.pl_waiters.specs.declared.queue.Place.{Place}
use Rattle.pl_waiters.specs.Queue.{waiter_order, place_at, may_stand, later, ArePlaced}

-- a place is read after one was set
set-here : (places : List Place) (node : ℕ) (p : Place) → node < length places → place_at (slice_set places node p) node ≡ p
set-here places node p l = get_or-set_same places node p (record { one = None; last = None }) l

-- A place was set: its call is of the node, and after its last queue none of the node stands in the set. Of other nodes no more do.
pub placed : (places : List Place) (more after : BTreeSet Waiter) (node : ℕ) (p : Place) → ArePlaced places more → node < length places → ((w : Waiter) → p.one ≡ Some w → w.node ≡ node)
    → ((key : Waiter) → key.node ≡ node → may_stand p.last key.queue ≡ false → contains waiter_order after key ≡ false)
    → ((key : Waiter) → key.node ≢ node → contains waiter_order more key ≡ false → contains waiter_order after key ≡ false) → ArePlaced (slice_set places node p) after
placed places more after node p kept l own flag others = record { home = home; none = none }
  where
    read : (n : ℕ) → ((n ≡ node) × (place_at (slice_set places node p) n ≡ p)) ⊎ ((n ≢ node) × (place_at (slice_set places node p) n ≡ place_at places n))
    read n = elim (eqb_tells n node) as (λ _. ((n ≡ node) × (place_at (slice_set places node p) n ≡ p)) ⊎ ((n ≢ node) × (place_at (slice_set places node p) n ≡ place_at places n))) [
      | inl t ↦ inl (t.1, ap (place_at (slice_set places node p)) t.1 ∙ set-here places node p l)
      | inr t ↦ inr (t.1, get_or-set_other places node n p (record { one = None; last = None }) t.1)
    ]

    home : (n : ℕ) (w : Waiter) → (place_at (slice_set places node p) n).one ≡ Some w → w.node ≡ n
    home n w is = by (read n)
      where
        by : ((n ≡ node) × (place_at (slice_set places node p) n ≡ p)) ⊎ ((n ≢ node) × (place_at (slice_set places node p) n ≡ place_at places n)) → w.node ≡ n
        by (inl r) = own w (ap (λ (p : Place). p.one) (sym r.1) ∙ is) ∙ sym r.0
        by (inr r) = kept.home n w (ap (λ (p : Place). p.one) (sym r.1) ∙ is)

    none : (key : Waiter) → may_stand (place_at (slice_set places node p) key.node).last key.queue ≡ false → contains waiter_order after key ≡ false
    none key is = by (read key.node)
      where
        by : ((key.node ≡ node) × (place_at (slice_set places node p) key.node ≡ p)) ⊎ ((key.node ≢ node) × (place_at (slice_set places node p) key.node ≡ place_at places key.node)) → contains waiter_order after key ≡ false
        by (inl r) = flag key r.0 (ap (λ (p : Place). may_stand p.last key.queue) (sym r.1) ∙ is)
        by (inr r) = others key r.0 (kept.none key (ap (λ (p : Place). may_stand p.last key.queue) (sym r.1) ∙ is))

-- a place that has a call, or more, is one of those that there are
pub within : (places : List Place) (node : ℕ) (p : Place) → p ≡ place_at places node → (p ≡ record { one = None; last = None } → ⊥) → node < length places
within places node p is some = by (cases_lt node (length places))
  where
    by : (node < length places) ⊎ (length places ≤ node) → node < length places
    by (inl l) = l
    by (inr past) = absurd (some (is ∙ get_or_past places node (record { one = None; last = None }) past))

-- Further places are empty.
pub grown : (places after : List Place) (more : BTreeSet Waiter) → ArePlaced places more → ((node : ℕ) → place_at after node ≡ place_at places node) → ArePlaced after more
grown places after more kept same = record {
  home = λ node w is. kept.home node w (ap (λ (p : Place). p.one) (sym (same node)) ∙ is);
  none = λ key is. kept.none key (ap (λ (p : Place). may_stand p.last key.queue) (sym (same key.node)) ∙ is);
}

-- the lists of a growth that found memory, and of one that didn't
pub same-place : (places after : List Place) (nodes : ℕ) (is_ok : Bool) → length places < nodes → (is_ok ≡ true → length after ≡ nodes) → (is_ok ≡ false → after ≡ places)
    → ((k : ℕ) (d : Place) → k < nodes → k < length places → slice_index_or after k d ≡ slice_index_or places k d)
    → (is_ok ≡ true → (k : ℕ) (d : Place) → length places ≤ k → k < nodes → slice_index_or after k d ≡ record { one = None; last = None }) → (node : ℕ) → place_at after node ≡ place_at places node
same-place places after nodes false more len still low high node = ap (λ ps. place_at ps node) (still refl)
same-place places after nodes true more len still low high node = by (cases_lt node nodes) (cases_lt node (length places))
  where
    by : (node < nodes) ⊎ (nodes ≤ node) → (node < length places) ⊎ (length places ≤ node) → place_at after node ≡ place_at places node
    by (inl l) (inl h) = low node (record { one = None; last = None }) l h
    by (inl l) (inr h) = high refl node (record { one = None; last = None }) h l ∙ sym (get_or_past places node (record { one = None; last = None }) h)
    by (inr l) (inl h) = absurd (omega (arith, l, h, more))
    by (inr l) (inr h) = get_or_past after node (record { one = None; last = None }) (let e = len refl in omega (arith, e, l)) ∙ sym (get_or_past places node (record { one = None; last = None }) h)

-- fewer calls are in the set
pub fewer : (places : List Place) (more after : BTreeSet Waiter) → ArePlaced places more → ((key : Waiter) → contains waiter_order more key ≡ false → contains waiter_order after key ≡ false) → ArePlaced places after
fewer places more after kept less = record { home = kept.home; none = λ key off. less key (kept.none key off) }

-- a place was set that has the same call
pub same-one : (places : List Place) (node : ℕ) (p : Place) → node < length places → p.one ≡ (place_at places node).one → (n : ℕ) → (place_at (slice_set places node p) n).one ≡ (place_at places n).one
same-one places node p l one n = elim (eqb_tells n node) as (λ _. (place_at (slice_set places node p) n).one ≡ (place_at places n).one) [
  | inl t ↦ ap (λ (p : Place). p.one) (ap (place_at (slice_set places node p)) t.1 ∙ set-here places node p l) ∙ one ∙ ap (λ n. (place_at places n).one) (sym t.1)
  | inr t ↦ ap (λ (p : Place). p.one) (get_or-set_other places node n p (record { one = None; last = None }) t.1)
]

-- at another node no call is this one
pub apart : (call key : Waiter) → key.node ≢ call.node → is_at (waiter_order call) key ≡ false
apart call key away = by (nat_cmp call.node key.node) (ranks call.node key.node)
  where
    by : (o : Ordering) → MatchOrdering o (call.node < key.node) (call.node ≡ key.node) (key.node < call.node) → is_eq (ordering_then o (ordering_then (nat_cmp call.queue key.queue) (nat_cmp call.number key.number))) ≡ false
    by Less m = refl
    by Equal m = absurd (away (sym m))
    by Greater m = refl

-- in a queue after the later one of two, no call stands that stands in one of them
pub after-later : (last : Option ℕ) (queue other : ℕ) → may_stand (Some (later last queue)) other ≡ false → (other ≢ queue) × (may_stand last other ≡ false)
after-later None queue other off = (λ same. (let past = leb-false other queue off in omega (arith, past, same)), refl)
after-later (Some last) queue other off =
    let past = leb-false other (max last queue) off in
    let one = le-max_left last queue in
    let two = le-max_right last queue in
    (λ same. omega (arith, past, two, same), lt-leb other last (omega (arith, past, one)))

-- in another queue no call is this one
pub in-another : (call key : Waiter) → key.queue ≢ call.queue → is_at (waiter_order call) key ≡ false
in-another call key away = by (nat_cmp call.node key.node) (nat_cmp call.queue key.queue) (ranks call.queue key.queue)
  where
    by : (o p : Ordering) → MatchOrdering p (call.queue < key.queue) (call.queue ≡ key.queue) (key.queue < call.queue) → is_eq (ordering_then o (ordering_then p (nat_cmp call.number key.number))) ≡ false
    by Less p m = refl
    by Greater p m = refl
    by Equal Less m = refl
    by Equal Equal m = absurd (away (sym m))
    by Equal Greater m = refl

pub off-or-off : (t b : Bool) → b ≡ false → cond t false b ≡ false
off-or-off true b h = refl
off-or-off false b h = h

-- what a condition leaves that doesn't hold
pub otherwise : (b : Bool) (x y z : List Place) → z ≡ (if b then x else y) → b ≡ false → z ≡ y
otherwise true x y z is off = absurd (cc)
otherwise false x y z is off = is
