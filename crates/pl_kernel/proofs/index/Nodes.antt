-- What is known of a node as the calls of its queues are asked, in order.
use Rattle.std.proofs.Common.{◌≡◌, ◌≢◌, ℕ, ◌+◌, ◌-◌, ◌*◌, ◌<◌, ◌≤◌, ◌^◌, Bool, true, false, Option, ◌⊎◌, inl, inr, ⊎_elim, refl, sym, ◌∙◌, ap, subst, nat_eq, arith}
use Rattle.std.specs.Prelude.{IsSome, IfSome, min, if◌then◌else◌}
use Rattle.std.specs.declared.option.Option.TheVariants.{None, Some}
use Rattle.std.proofs.lemmas.Bool.{cases_lt}
use Rattle.pl_model.specs.Map.{get}
use Rattle.pl_model.specs.State.{Core}
use Rattle.pl_model.specs.Numbered.{numbers}
use Rattle.pl_kernel.specs.Progress.{is_ready}
use Rattle.pl_kernel.specs.declared.asking.Found.{Found}
use Rattle.pl_kernel.specs.declared.asking.Found.TheVariants.{Gone, Stuck, Ready}
use Rattle.pl_waiters.specs.declared.waiter.Waiter.{Waiter}
use Rattle.pl_waiters.specs.declared.waiters.Waiters.{Waiters}
use Rattle.pl_waiters.specs.Queue.{waiter, IsBehind, IsBefore}
use Rattle.pl_waiters.specs.Seen.{stands}
use Rattle.pl_kernel.specs.Queues.{others, answers_to}
use Rattle.pl_kernel.specs.Asking.{AreUnderstood, Prunes, Covers, IsDone, IsPast, lesser_of, number_if, answered_to}
use Rattle.pl_kernel.specs.Index.{is_open}
use Rattle.pl_kernel.proofs.index.Opening.{open-parked}
use Rattle.pl_waiters.proofs.InOrder.{in-order, behind-or-before}

-- The calls of the node that stand before the place are done: none can make progress that is below what was found.
pub record AreAsked {A : Type 0} (c : Core A numbers) (old now : Waiters A) (node from : ℕ) (key : Waiter) (found : Option ℕ) : Type 0 where
  pub prunes : Prunes c old now
  pub some : IfSome found (λ n. (from ≤ n) × (is_ready c n ≡ true))
  pub at : key.node ≡ node
  pub done : (q n : ℕ) → from ≤ n → n < 2 ^ 64 → IsBefore q n key → stands old (waiter node q n) ≡ true → is_open c (waiter node q n) ≡ true → (m : ℕ) × (found ≡ Some m) × (m ≤ n)

-- the lesser one is at most each
pub first-at-most : (a b : Option ℕ) (other : ℕ) → (n : ℕ) × (a ≡ Some n) × (n ≤ other) → (n : ℕ) × (lesser_of a b ≡ Some n) × (n ≤ other)
first-at-most a b other h = subst (λ o. (n : ℕ) × (lesser_of o b ≡ Some n) × (n ≤ other)) (sym h.1) (by b)
  where
    by : (b : Option ℕ) → (n : ℕ) × (lesser_of (Some h.0) b ≡ Some n) × (n ≤ other)
    by None = (h.0, refl, h.2)
    by (Some b) = (min h.0 b, refl, (let l = h.2 in omega (arith, l)))

pub second-at-most : (a b : Option ℕ) (other : ℕ) → (n : ℕ) × (b ≡ Some n) × (n ≤ other) → (n : ℕ) × (lesser_of a b ≡ Some n) × (n ≤ other)
second-at-most a b other h = subst (λ o. (n : ℕ) × (lesser_of a o ≡ Some n) × (n ≤ other)) (sym h.1) (by a)
  where
    by : (a : Option ℕ) → (n : ℕ) × (lesser_of a (Some h.0) ≡ Some n) × (n ≤ other)
    by None = (h.0, refl, h.2)
    by (Some a) = (min a h.0, refl, (let l = h.2 in omega (arith, l)))

-- what holds of two numbers holds of the lesser one
pub both-some : (P : ℕ → Type 0) (a b : Option ℕ) → IfSome a P → IfSome b P → IfSome (lesser_of a b) P
both-some P None b h k = k
both-some P (Some a) None h k = h
both-some P (Some a) (Some b) h k = by (cases_lt a b)
  where
    by : (a < b) ⊎ (b ≤ a) → P (min a b)
    by (inl l) = subst P (let e : a ≡ min a b = omega (arith, l) in e) h
    by (inr l) = subst P (let e : b ≡ min a b = omega (arith, l) in e) k

module _ {A : Type 0} (c : Core A numbers) (a b d : Waiters A) where
  pub prunes-then : Prunes c a b → Prunes c b d → Prunes c a d
  prunes-then p q = record {
    fewer = λ key there. p.fewer key (q.fewer key there);
    kept = λ key some there. q.kept key some (p.kept key some there);
    touched = q.touched ∙ p.touched;
    least_ones = q.least_ones ∙ p.least_ones;
    known = q.known ∙ p.known;
  }

module _ {A : Type 0} (c : Core A numbers) (old now : Waiters A) (node from : ℕ) (key : Waiter) (least : Option ℕ) (inv : AreAsked c old now node from key least) where
  -- a call that is open is done, or stands from the place on
  reached : (q n : ℕ) → from ≤ n → n < 2 ^ 64 → stands old (waiter node q n) ≡ true → is_open c (waiter node q n) ≡ true →
      ((m : ℕ) × (least ≡ Some m) × (m ≤ n)) ⊎ ((stands now (waiter node q n) ≡ true) × IsBehind key (waiter node q n))
  reached q n l fits there ready = by (behind-or-before key (waiter node q n) inv.at)
    where
      by : IsBefore q n key ⊎ IsBehind key (waiter node q n) → ((m : ℕ) × (least ≡ Some m) × (m ≤ n)) ⊎ ((stands now (waiter node q n) ≡ true) × IsBehind key (waiter node q n))
      by (inl before) = inl (inv.done q n l fits before there ready)
      by (inr behind) = inr (inv.prunes.kept (waiter node q n) (subst (λ o. IsSome o) (sym (open-parked c (waiter node q n) ready).1) refl) there, behind)

  -- where nothing stands from the place on, all is done
  pub none-left : ((other : Waiter) → other.node ≡ key.node → IsBehind key other → stands now other ≡ false) → (q : ℕ) → Covers c old node q from least
  none-left none q n l fits there ready = ⊎_elim (λ d. d) (λ s. absurd (let no : false ≡ true = sym (none (waiter node q n) (sym inv.at) s.1) ∙ s.0 in cc)) (reached q n l fits there ready)

  module _ (next : Waiter) (with : next.node ≡ key.node) (first : (other : Waiter) → other.node ≡ key.node → stands now other ≡ true → IsBehind key other → IsBehind next other) where
    same : next.node ≡ node
    same = with ∙ inv.at

    -- what stands before the next one is done
    before-next : (q n : ℕ) → from ≤ n → n < 2 ^ 64 → IsBefore q n next → stands old (waiter node q n) ≡ true → is_open c (waiter node q n) ≡ true → (m : ℕ) × (least ≡ Some m) × (m ≤ n)
    before-next q n l fits before there ready = ⊎_elim (λ d. d) (λ s. absurd (no before (in-order next (waiter node q n) (first (waiter node q n) (sym inv.at) s.0 s.1)))) (reached q n l fits there ready)
      where
        no : IsBefore q n next → (next.node ≤ node) × (next.node ≡ node → (next.queue ≤ q) × (next.queue ≡ q → next.number ≤ n)) → ⊥
        no (inl early) up = (let u = (up.1 same).0 in omega (arith, early, u))
        no (inr at) up = (let e = at.0 in let l = at.1 in let u = (up.1 same).1 (sym e) in omega (arith, l, u))

    -- it goes on at a number of the queue of the next one below which none counts
    pub at-from : next.number < from → AreAsked c old now node from (waiter next.node next.queue from) least
    at-from low = record {
      prunes = inv.prunes;
      some = inv.some;
      at = same;
      done = λ q n l fits before there ready. before-next q n l fits (earlier q n l before) there ready;
    }
      where
        earlier : (q n : ℕ) → from ≤ n → IsBefore q n (waiter next.node next.queue from) → IsBefore q n next
        earlier q n l (inl e) = inl e
        earlier q n l (inr at) = (let e = at.1 in absurd (omega (arith, l, e)))

    -- the next one was asked
    module _ (on : from ≤ next.number) (after : Waiters A) (prunes : Prunes c now after) (there : stands now next ≡ true) (u : AreUnderstood c old) (found : Found)
        (ready : found ≡ Ready → is_open c next ≡ true) (stuck : found ≡ Stuck → IsSome (get nat_eq c.parked next.number) × (is_open c next ≡ false)) (gone : found ≡ Gone → is_open c next ≡ false) where
      abbrev told : Option ℕ
      told = lesser_of least (number_if found next.number)

      was_there : stands old next ≡ true
      was_there = inv.prunes.fewer next there

      its : (f : Found) → found ≡ f → IfSome (number_if f next.number) (λ n. (from ≤ n) × (is_ready c n ≡ true))
      its Ready is = (on, u.sound next was_there (ready is))
      its Stuck is = tt
      its Gone is = tt

      pub told-some : IfSome told (λ n. (from ≤ n) × (is_ready c n ≡ true))
      told-some = both-some (λ n. (from ≤ n) × (is_ready c n ≡ true)) least (number_if found next.number) inv.some (its found refl)

      -- if it can make progress, what was found is no more than its number
      is_it : (f : Found) → found ≡ f → (n : ℕ) → next.number ≤ n → f ≡ Ready → (m : ℕ) × (told ≡ Some m) × (m ≤ n)
      is_it f is n l r = second-at-most least (number_if found next.number) n (next.number, ap (λ f. number_if f next.number) (is ∙ r), l)

      here-on : (q n : ℕ) → q ≡ next.queue → n ≡ next.number → (b : Bool) → is_open c (waiter node q n) ≡ b → is_open c next ≡ b
      here-on q n e f b opens = (λ i. is_open c (waiter (same i) (sym e i) (sym f i))) ∙ opens

      itself : (f : Found) → found ≡ f → is_open c next ≡ true → (m : ℕ) × (told ≡ Some m) × (m ≤ next.number)
      itself Ready is r = is_it Ready is next.number (omega arith) refl
      itself Stuck is r = absurd (let no : false ≡ true = sym (stuck is).1 ∙ r in cc)
      itself Gone is r = absurd (let no : false ≡ true = sym (gone is) ∙ r in cc)

      abbrev Found-below : ℕ → Type 0
      Found-below n = (m : ℕ) × (told ≡ Some m) × (m ≤ n)

      -- what it came to answers for those from it on, up to a queue
      rest : (f : Found) → found ≡ f → (last : ℕ) → answered_to f next.queue ≡ Some last → (q n : ℕ) → next.queue ≤ q → q ≤ last → from ≤ n → n < 2 ^ 64 → stands old (waiter node q n) ≡ true → is_open c (waiter node q n) ≡ true → Found-below n
      rest Gone is last a q n up down l fits t r = absurd (cc)
      rest Ready is last a q n up down l fits t r = by (cases_lt n next.number)
        where
          same_queue : q ≡ next.queue
          same_queue = (let e : next.queue ≡ last = cc in omega (arith, up, down, e))

          by : (n < next.number) ⊎ (next.number ≤ n) → Found-below n
          by (inl early) = first-at-most least (number_if found next.number) n (before-next q n l fits (inr (same_queue, early)) t r)
          by (inr late) = is_it Ready is n late refl
      rest Stuck is last a q n up down l fits t r = at (nat_eq next.queue others) refl a
        where
          at : (b : Bool) → nat_eq next.queue others ≡ b → (if b then None else Some (answers_to next.queue)) ≡ Some last → Found-below n
          at true e h = absurd (cc)
          at false e h = absurd (let no : false ≡ true = sym off ∙ r in cc)
            where
              apart : next.queue ≢ others
              apart s = (let yes : nat_eq next.queue others ≡ true = ap (λ q. nat_eq q others) s in let no : false ≡ true = sym e ∙ yes in cc)

              one : stands old (waiter node next.queue next.number) ≡ true
              one = subst (λ n. stands old (waiter n next.queue next.number) ≡ true) same was_there

              its_last : answers_to next.queue ≡ last
              its_last = cc

              off : is_open c (waiter node q n) ≡ false
              off = u.alike node next.queue q next.number n apart up (omega (arith, down, its_last)) one t (stuck is).0 (subst (λ n. is_open c (waiter n next.queue next.number) ≡ false) same (stuck is).1)

      done-more : (last : Option ℕ) → last ≡ answered_to found next.queue → (q n : ℕ) → from ≤ n → n < 2 ^ 64 → IsDone next last q n → stands old (waiter node q n) ≡ true → is_open c (waiter node q n) ≡ true → Found-below n
      done-more None is q n l fits (inl before) t r = first-at-most least (number_if found next.number) n (before-next q n l fits before t r)
      done-more None is q n l fits (inr at) t r = subst Found-below (sym at.1) (itself found refl (here-on q n at.0 at.1 true r))
      done-more (Some last) is q n l fits (inl before) t r = first-at-most least (number_if found next.number) n (before-next q n l fits before t r)
      done-more (Some last) is q n l fits (inr at) t r = rest found refl last (sym is) q n at.0 at.1 l fits t r

      pub goes-on : (place : Waiter) (last : Option ℕ) → last ≡ answered_to found next.queue → place.node ≡ next.node → IsPast place.queue place.number next last → AreAsked c old after node from place told
      goes-on place last is at past = record {
        prunes = prunes-then c old now after inv.prunes prunes;
        some = told-some;
        at = at ∙ same;
        done = λ q n l fits before t r. done-more last is q n l fits (past q n fits before) t r;
      }

      -- where no place is left behind it, all is done
      pub ends : (last : Option ℕ) → last ≡ answered_to found next.queue → ((q n : ℕ) → q < 2 ^ 64 → n < 2 ^ 64 → IsDone next last q n) → (q : ℕ) → q < 2 ^ 64 → Covers c old node q from told
      ends last is past q low n l fits t r = done-more last is q n l fits (past q n low fits) t r

-- How much is left to ask is less behind a place: there are 2^128 places of a node.
pub less-left : (q n : ℕ) (key : Waiter) → n < 2 ^ 64 → key.queue < 2 ^ 64 → key.number < 2 ^ 64 → IsBefore q n key
    → 340282366920938463463374607431768211456 - (18446744073709551616 * key.queue + key.number) < 340282366920938463463374607431768211456 - (18446744073709551616 * q + n)
less-left q n key fits one two (inl l) = omega (arith, l, fits, one, two)
less-left q n key fits one two (inr e) = (let same = e.0 in let l = e.1 in omega (arith, same, l, fits, one, two))

-- what stands before a call of the node from a place on is behind that place, or at it
pub before-then : (key next after : Waiter) → next.node ≡ key.node → IsBehind key next → IsBefore next.queue next.number after → IsBefore key.queue key.number after
before-then key next after same behind before = by before
  where
    up : (key.queue ≤ next.queue) × (key.queue ≡ next.queue → key.number ≤ next.number)
    up = (in-order key next behind).1 (sym same)

    by : IsBefore next.queue next.number after → IsBefore key.queue key.number after
    by (inl l) = inl (let u = up.0 in omega (arith, u, l))
    by (inr e) = at (cases_lt key.queue next.queue)
      where
        at : (key.queue < next.queue) ⊎ (next.queue ≤ key.queue) → IsBefore key.queue key.number after
        at (inl l) = inl (let same = e.0 in omega (arith, l, same))
        at (inr l) =
            let u = up.0 in
            let eq : key.queue ≡ next.queue = omega (arith, u, l) in
            let n = up.1 eq in
            let m = e.1 in
            inr (eq ∙ e.0, omega (arith, n, m))
