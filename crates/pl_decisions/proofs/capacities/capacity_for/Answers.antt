use Rattle.std.proofs.Common.{◌≡◌, ◌≤◌, ◌<◌, ◌/◌, ℕ, Ok, Err, sym, subst, ap, ◌∙◌, max, cond, nat_lt, ◌||◌, arith, lt-ltb, le-ltb}
use Rattle.std.specs.Int.{IsPowerOfTwo}
use Rattle.pl_model.specs.declared.replies.Errno.TheVariants.{EBUSY, EPERM}
use Rattle.pl_model.specs.Numbers.{least_capacity, most_capacity}
use Rattle.pl_model.specs.Capacity.{rounded_capacity, IsPipeCapacity}
use Rattle.pl_model.proofs.capacities.Rounding.{rounded-is, rounded-capacity}
use Rattle.pl_decisions.specs.Capacities.{capacity_set}
use Rattle.pl_decisions.proofs.capacities.capacity_for.Goals as goal

-- what the size is rounded to
rounds : (size most p : ℕ) → size ≤ most_capacity → most ≡ max size least_capacity → IsPowerOfTwo p → most ≤ p → p / 2 < max 1 most → rounded_capacity size ≡ p
rounds size most p within is power enough half = rounded-is size p within power (omega (arith, is, enough)) (omega (arith, is, half))

-- what is left to decide of a size that isn't too large
sized-is : (size held limit p : ℕ) → size ≤ most_capacity → rounded_capacity size ≡ p → capacity_set size held limit ≡ cond (nat_lt limit p) (Err EPERM) (cond (nat_lt p held) (Err EBUSY) (Ok p))
sized-is size held limit p within is = λ i. cond (le-ltb most_capacity size within i || nat_lt limit (is i)) (Err EPERM) (cond (nat_lt (is i) held) (Err EBUSY) (Ok (is i)))

-- and of one that the limit lets pass
within-is : (size held limit p : ℕ) → size ≤ most_capacity → rounded_capacity size ≡ p → p ≤ limit → capacity_set size held limit ≡ cond (nat_lt p held) (Err EBUSY) (Ok p)
within-is size held limit p within is fits =
    sized-is size held limit p within is ∙ ap (λ b. cond b (Err EPERM) (cond (nat_lt p held) (Err EBUSY) (Ok p))) (le-ltb limit p fits)

pub returns-then-limit-capacity-clause-value : goal.returns-then-limit-capacity-clause-value
returns-then-limit-capacity-clause-value c =
    let p = c.next_power_of_two-capacity in
    let is = rounds c.args.size c.max.result p.result c.if-size-gt-MAX_CAPACITY.false c.max.ensures p.ensures.power p.ensures.lower_bound p.ensures.upper_bound in
    sym (sized-is c.args.size c.args.held c.args.limit p.result c.if-size-gt-MAX_CAPACITY.false is
    ∙ ap (λ b. cond b (Err EPERM) (cond (nat_lt p.result c.args.held) (Err EBUSY) (Ok p.result))) (lt-ltb c.args.limit p.result c.if-limit-capacity.true))

pub returns-then-capacity-held-clause-value : goal.returns-then-capacity-held-clause-value
returns-then-capacity-held-clause-value c =
    let p = c.next_power_of_two-capacity in
    let is = rounds c.args.size c.max.result p.result c.if-size-gt-MAX_CAPACITY.false c.max.ensures p.ensures.power p.ensures.lower_bound p.ensures.upper_bound in
    sym (within-is c.args.size c.args.held c.args.limit p.result c.if-size-gt-MAX_CAPACITY.false is c.if-limit-capacity.false ∙ ap (λ b. cond b (Err EBUSY) (Ok p.result)) (lt-ltb p.result c.args.held c.if-capacity-held.true))

pub returns-clause-value : goal.returns-clause-value
returns-clause-value c =
    let p = c.next_power_of_two-capacity in
    let is = rounds c.args.size c.max.result p.result c.if-size-gt-MAX_CAPACITY.false c.max.ensures p.ensures.power p.ensures.lower_bound p.ensures.upper_bound in
    sym (within-is c.args.size c.args.held c.args.limit p.result c.if-size-gt-MAX_CAPACITY.false is c.if-limit-capacity.false ∙ ap (λ b. cond b (Err EBUSY) (Ok p.result)) (le-ltb p.result c.args.held c.if-capacity-held.false))

pub returns-clause-range : goal.returns-clause-range
returns-clause-range c =
    let p = c.next_power_of_two-capacity in
    let is = rounds c.args.size c.max.result p.result c.if-size-gt-MAX_CAPACITY.false c.max.ensures p.ensures.power p.ensures.lower_bound p.ensures.upper_bound in
    subst IsPipeCapacity is (rounded-capacity c.args.size)
