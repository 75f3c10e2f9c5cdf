-- Calls in queues, in order.
use Rattle.std.proofs.Common.{◌≡◌, ℕ, ◌<◌, ◌≤◌, ◌⊎◌, inl, inr, true, false, refl, sym, ◌∙◌, subst, arith}
use Rattle.std.proofs.lemmas.Bool.{cases_lt, cases_order}
use Rattle.std.specs.Cmp.{ranks}
use Rattle.std.specs.Ordering.{nat_cmp, ordering_then, is_gt, MatchOrdering}
use Rattle.std.specs.declared.cmp.Ordering.{Ordering}
use Rattle.std.specs.declared.cmp.Ordering.TheVariants.{Less, Equal, Greater}
use Rattle.pl_waiters.specs.declared.waiter.Waiter.{Waiter}
use Rattle.pl_waiters.specs.Queue.{waiter_order, IsBehind, IsBefore}

abbrev Ranks : Ordering → ℕ → ℕ → Type 0
Ranks o a b = MatchOrdering o (a < b) (a ≡ b) (b < a)

last : (c d : ℕ) (q : Ordering) → Ranks q c d → is_gt q ≡ false → c ≤ d
last c d Less m h = omega arith
last c d Equal m h = omega arith
last c d Greater m h = absurd (cc)

not_behind : (a b : ℕ) (P : Type 0) (o q : Ordering) → Ranks o a b → (is_gt q ≡ false → P) → is_gt (ordering_then o q) ≡ false → (a ≤ b) × (a ≡ b → P)
not_behind a b P Less q l f h = (omega arith, λ e. absurd (omega (arith, l, e)))
not_behind a b P Equal q l f h = (omega arith, λ e. f h)
not_behind a b P Greater q l f h = absurd (cc)

-- what doesn't stand before another call
pub in-order : (a b : Waiter) → IsBehind a b → (a.node ≤ b.node) × (a.node ≡ b.node → (a.queue ≤ b.queue) × (a.queue ≡ b.queue → a.number ≤ b.number))
in-order a b h =
    not_behind a.node b.node _ (nat_cmp a.node b.node) (ordering_then (nat_cmp a.queue b.queue) (nat_cmp a.number b.number)) (ranks a.node b.node)
    (not_behind a.queue b.queue _ (nat_cmp a.queue b.queue) (nat_cmp a.number b.number) (ranks a.queue b.queue) (last a.number b.number (nat_cmp a.number b.number) (ranks a.number b.number))) h

same-then : (a : ℕ) (o q : Ordering) → Ranks o a a → is_gt q ≡ false → is_gt (ordering_then o q) ≡ false
same-then a Less q l h = refl
same-then a Equal q l h = h
same-then a Greater q l h = absurd (omega (arith, l))

not-greater : (a b : ℕ) (q : Ordering) → Ranks q a b → a ≤ b → is_gt q ≡ false
not-greater a b Less m l = refl
not-greater a b Equal m l = refl
not-greater a b Greater m l = absurd (omega (arith, m, l))

-- A call of the node stands before a place of it, or from it on.
pub behind-or-before : (key : Waiter) (other : Waiter) → key.node ≡ other.node → IsBefore other.queue other.number key ⊎ IsBehind key other
behind-or-before key other same = by (cases_order other.queue key.queue)
  where
    at_node : is_gt (ordering_then (nat_cmp key.queue other.queue) (nat_cmp key.number other.number)) ≡ false → IsBehind key other
    at_node h = subst (λ n. is_gt (ordering_then (nat_cmp key.node n) (ordering_then (nat_cmp key.queue other.queue) (nat_cmp key.number other.number))) ≡ false) same
        (same-then key.node (nat_cmp key.node key.node) (ordering_then (nat_cmp key.queue other.queue) (nat_cmp key.number other.number)) (ranks key.node key.node) h)

    later : (o q : Ordering) → Ranks o key.queue other.queue → key.queue < other.queue → is_gt (ordering_then o q) ≡ false
    later Less q m l = refl
    later Equal q m l = absurd (omega (arith, m, l))
    later Greater q m l = absurd (omega (arith, m, l))

    in_queue : other.queue ≡ key.queue → (other.number < key.number) ⊎ (key.number ≤ other.number) → IsBefore other.queue other.number key ⊎ IsBehind key other
    in_queue e (inl low) = inl (inr (e, low))
    in_queue e (inr up) = inr (at_node (subst (λ q. is_gt (ordering_then (nat_cmp key.queue q) (nat_cmp key.number other.number)) ≡ false) (sym e)
        (same-then key.queue (nat_cmp key.queue key.queue) (nat_cmp key.number other.number) (ranks key.queue key.queue) (not-greater key.number other.number (nat_cmp key.number other.number) (ranks key.number other.number) up))))

    by : (other.queue ≡ key.queue) ⊎ ((other.queue < key.queue) ⊎ (key.queue < other.queue)) → IsBefore other.queue other.number key ⊎ IsBehind key other
    by (inl e) = in_queue e (cases_lt other.number key.number)
    by (inr (inl low)) = inl (inl low)
    by (inr (inr up)) = inr (at_node (later (nat_cmp key.queue other.queue) (nat_cmp key.number other.number) (ranks key.queue other.queue) up))

-- one of two calls of a node doesn't stand before the other
pub other-way : (a b : Waiter) → a.node ≡ b.node → is_gt (waiter_order a b) ≡ true → IsBehind b a
other-way a b same gt = by (behind-or-before b a (sym same)) (behind-or-before a b same)
  where
    by : IsBefore a.queue a.number b ⊎ IsBehind b a → IsBefore b.queue b.number a ⊎ IsBehind a b → IsBehind b a
    by (inr h) o = h
    by (inl h) (inr k) = absurd (let e : true ≡ false = sym gt ∙ k in cc)
    by (inl (inl l)) (inl (inl m)) = absurd (omega (arith, l, m))
    by (inl (inl l)) (inl (inr m)) = absurd (let e = m.0 in omega (arith, l, e))
    by (inl (inr l)) (inl (inl m)) = absurd (let e = l.0 in omega (arith, e, m))
    by (inl (inr l)) (inl (inr m)) = absurd (let x = l.1 in let y = m.1 in omega (arith, x, y))

pub behind-then : (a b d : Waiter) → a.node ≡ b.node → b.node ≡ d.node → IsBehind a b → IsBehind b d → IsBehind a d
behind-then a b d one two h k = by (behind-or-before a d (one ∙ two))
  where
    x : (a.queue ≤ b.queue) × (a.queue ≡ b.queue → a.number ≤ b.number)
    x = (in-order a b h).1 one

    y : (b.queue ≤ d.queue) × (b.queue ≡ d.queue → b.number ≤ d.number)
    y = (in-order b d k).1 two

    by : IsBefore d.queue d.number a ⊎ IsBehind a d → IsBehind a d
    by (inr g) = g
    by (inl (inl l)) = absurd (let u = x.0 in let v = y.0 in omega (arith, l, u, v))
    by (inl (inr l)) =
        let e = l.0 in
        let u = x.0 in
        let v = y.0 in
        let first : a.queue ≡ b.queue = omega (arith, e, u, v) in
        let second : b.queue ≡ d.queue = omega (arith, e, u, v) in
        absurd (let m = l.1 in let p = x.1 first in let q = y.1 second in omega (arith, m, p, q))
