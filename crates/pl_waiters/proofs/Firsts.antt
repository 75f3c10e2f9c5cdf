-- The first call of a node, among the one that has its place and those in the set.
use Rattle.std.proofs.Common.{◌≡◌, ◌≢◌, ℕ, ◌⊎◌, inl, inr, ⊎_elim, Bool, true, false, Option, refl, sym, ◌∙◌, ap, subst, nat_eq, List, arith}
use Rattle.std.specs.Prelude.{◌||◌, ◌&&◌, IfSome, IfNone, if◌then◌else◌}
use Rattle.std.specs.declared.option.Option.TheVariants.{None, Some}
use Rattle.std.specs.Ordering.{is_gt}
use Rattle.std.specs.BTreeSet.{BTreeSet, contains}
use Rattle.std.proofs.lemmas.Bool.{eq-eqb, eqb-true}
use Rattle.pl_waiters.specs.declared.waiter.Waiter.{Waiter}
use Rattle.pl_waiters.specs.declared.queue.Place.{Place}
use Rattle.pl_waiters.specs.Queue.{waiter_order, is_waiter, IsBehind, earlier_of, on_from, at_node, place_at, is_one, ArePlaced}
use Rattle.pl_waiters.proofs.InOrder.{in-order, other-way, behind-then}

-- It is the first of some calls, or there is none.
pub record IsFirstOf (of : Waiter → Type 0) (o : Option Waiter) : Type 0 where
  pub some : IfSome o of
  pub first : IfSome o (λ k. (other : Waiter) → of other → IsBehind k other)
  pub none : IfNone o ((other : Waiter) → of other → ⊥)

-- the first of two sorts of calls of a node
pub of-both : (node : ℕ) (P Q : Waiter → Type 0) → ((k : Waiter) → P k → k.node ≡ node) → ((k : Waiter) → Q k → k.node ≡ node) → (a b : Option Waiter) → IsFirstOf P a → IsFirstOf Q b → IsFirstOf (λ k. P k ⊎ Q k) (earlier_of a b)
of-both node P Q at_p at_q None None p q = record { some = tt; first = tt; none = λ other h. ⊎_elim (p.none other) (q.none other) h }
of-both node P Q at_p at_q None (Some b) p q = record { some = inr q.some; first = λ other h. ⊎_elim (λ h. absurd (p.none other h)) (q.first other) h; none = tt }
of-both node P Q at_p at_q (Some a) None p q = record { some = inl p.some; first = λ other h. ⊎_elim (p.first other) (λ h. absurd (q.none other h)) h; none = tt }
of-both node P Q at_p at_q (Some a) (Some b) p q = by (is_gt (waiter_order a b)) refl
  where
    same : a.node ≡ b.node
    same = at_p a p.some ∙ sym (at_q b q.some)

    by : (t : Bool) → is_gt (waiter_order a b) ≡ t → IsFirstOf (λ k. P k ⊎ Q k) (Some (if t then b else a))
    by true gt = record {
      some = inr q.some;
      first = λ other h. ⊎_elim (λ h. behind-then b a other (sym same) (at_p a p.some ∙ sym (at_p other h)) (other-way a b same gt) (p.first other h)) (q.first other) h;
      none = tt;
    }
    by false gt = record {
      some = inl p.some;
      first = λ other h. ⊎_elim (p.first other) (λ h. behind-then a b other same (at_q b q.some ∙ sym (at_q other h)) gt (q.first other h)) h;
      none = tt;
    }

pub itself : (w : Waiter) → is_waiter w w ≡ true
itself w = (λ i. eq-eqb w.node w.node refl i && (eq-eqb w.queue w.queue refl i && eq-eqb w.number w.number refl i))

not-behind : (w : Waiter) → IsBehind w w
not-behind w = by (is_gt (waiter_order w w)) refl
  where
    by : (t : Bool) → is_gt (waiter_order w w) ≡ t → t ≡ false
    by false gt = refl
    by true gt = absurd (let no : true ≡ false = sym gt ∙ other-way w w refl gt in cc)

same-call : (w k : Waiter) → is_waiter w k ≡ true → w ≡ k
same-call w k h = by (nat_eq w.node k.node) refl (nat_eq w.queue k.queue) refl (nat_eq w.number k.number) refl h
  where
    by : (a : Bool) → nat_eq w.node k.node ≡ a → (b : Bool) → nat_eq w.queue k.queue ≡ b → (d : Bool) → nat_eq w.number k.number ≡ d → (a && (b && d)) ≡ true → w ≡ k
    by true a true b true d h = (λ i. record { node = eqb-true w.node k.node a i; queue = eqb-true w.queue k.queue b i; number = eqb-true w.number k.number d i })
    by true a true b false d h = absurd (cc)
    by true a false b d e h = absurd (cc)
    by false a b d e f h = absurd (cc)

module _ (places : List Place) (more : BTreeSet Waiter) (kept : ArePlaced places more) (least : Waiter) where
  -- the calls of the node from this one on: the one of its place, and those in the set
  abbrev pub InPlace : Waiter → Type 0
  InPlace k = (k.node ≡ least.node) × IsBehind least k × (is_one (place_at places k.node).one k ≡ true)

  abbrev pub InSet : Waiter → Type 0
  InSet k = (k.node ≡ least.node) × IsBehind least k × (contains waiter_order more k ≡ true)

  pub in-place : IsFirstOf InPlace (on_from (place_at places least.node).one least)
  in-place = by (place_at places least.node).one refl
    where
      at : (k : Waiter) → InPlace k → (w : Waiter) → (place_at places least.node).one ≡ Some w → w ≡ k
      at k h w is = same-call w k (sym (ap (λ o. is_one o k) (ap (λ n. (place_at places n).one) h.0 ∙ is)) ∙ h.2)

      none_of : (place_at places least.node).one ≡ None → (k : Waiter) → InPlace k → ⊥
      none_of is k h = (let no : false ≡ true = sym (ap (λ o. is_one o k) (ap (λ n. (place_at places n).one) h.0 ∙ is)) ∙ h.2 in cc)

      on : (w : Waiter) → (place_at places least.node).one ≡ Some w → (t : Bool) → is_gt (waiter_order least w) ≡ t → IsFirstOf InPlace (if t then None else Some w)
      on w is true gt = record { some = tt; first = tt; none = λ k h. (let no : true ≡ false = sym gt ∙ ap (λ z. is_gt (waiter_order least z)) (at k h w is) ∙ h.1 in cc) }
      on w is false gt =
          let home : w.node ≡ least.node = kept.home least.node w is in
          record {
            some = (home, gt, ap (λ o. is_one o w) (ap (λ n. (place_at places n).one) home ∙ is) ∙ itself w);
            first = λ k h. subst (λ z. IsBehind w z) (at k h w is) (not-behind w);
            none = tt;
          }

      by : (o : Option Waiter) → (place_at places least.node).one ≡ o → IsFirstOf InPlace (on_from o least)
      by None is = record { some = tt; first = tt; none = none_of is }
      by (Some w) is = on w is (is_gt (waiter_order least w)) refl

  pub in-set : (found : Option Waiter) → IfSome found (λ key. (contains waiter_order more key ≡ true) × IsBehind least key)
      → IfSome found (λ key. (other : Waiter) → contains waiter_order more other ≡ true → IsBehind least other → IsBehind key other)
      → IfNone found ((other : Waiter) → IsBehind least other → contains waiter_order more other ≡ false) → IsFirstOf InSet (at_node found least.node)
  in-set None some first none = record { some = tt; first = tt; none = λ k h. (let no : false ≡ true = sym (none k h.1) ∙ h.2 in cc) }
  in-set (Some w) some first none = by (nat_eq w.node least.node) refl
    where
      by : (t : Bool) → nat_eq w.node least.node ≡ t → IsFirstOf InSet (if t then Some w else None)
      by true is = record { some = (eqb-true w.node least.node is, some.1, some.0); first = λ k h. first k h.2 h.1; none = tt }
      by false is = record { some = tt; first = tt; none = λ k h. away (λ e. (let no : true ≡ false = sym (eq-eqb w.node least.node e) ∙ is in cc)) k h }
        where
          away : w.node ≢ least.node → (k : Waiter) → InSet k → ⊥
          away apart k h =
              let up = (in-order least w some.1).0 in
              let down = (in-order w k (first k h.2 h.1)).0 in
              let at = h.0 in
              apart (omega (arith, up, down, at))

  abbrev has : Waiter → Bool
  has k = is_one (place_at places k.node).one k || contains waiter_order more k

  -- what is found of both is found of all
  pub first-of-all : (o : Option Waiter) → IsFirstOf (λ k. InPlace k ⊎ InSet k) o →
      IfSome o (λ key. (key.node ≡ least.node) × (has key ≡ true) × IsBehind least key)
      × IfSome o (λ key. (other : Waiter) → other.node ≡ least.node → has other ≡ true → IsBehind least other → IsBehind key other)
      × IfNone o ((other : Waiter) → other.node ≡ least.node → IsBehind least other → has other ≡ false)
  first-of-all None f = (tt, tt, λ other at behind. none other at behind (is_one (place_at places other.node).one other) refl (contains waiter_order more other) refl)
    where
      none : (other : Waiter) → other.node ≡ least.node → IsBehind least other → (a : Bool) → is_one (place_at places other.node).one other ≡ a → (b : Bool) → contains waiter_order more other ≡ b → (a || b) ≡ false
      none other at behind true a b is = absurd (f.none other (inl (at, behind, a)))
      none other at behind false a true b = absurd (f.none other (inr (at, behind, b)))
      none other at behind false a false b = refl
  first-of-all (Some w) f = (⊎_elim (λ p. (p.0, ap (λ b. b || contains waiter_order more w) p.2, p.1)) (λ q. (q.0, ap (λ b. is_one (place_at places w.node).one w || b) q.2 ∙ last (is_one (place_at places w.node).one w), q.1)) f.some, λ other at h behind. first other at behind (is_one (place_at places other.node).one other) refl (contains waiter_order more other) refl h, tt)
    where
      last : (b : Bool) → (b || true) ≡ true
      last true = refl
      last false = refl

      first : (other : Waiter) → other.node ≡ least.node → IsBehind least other → (a : Bool) → is_one (place_at places other.node).one other ≡ a → (b : Bool) → contains waiter_order more other ≡ b → (a || b) ≡ true → IsBehind w other
      first other at behind true a b is h = f.first other (inl (at, behind, a))
      first other at behind false a true b h = f.first other (inr (at, behind, b))
      first other at behind false a false b h = absurd (cc)
