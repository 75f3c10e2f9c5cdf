use Rattle.std.proofs.Common.{◌⊎◌, sym, ◌∙◌, ap, subst}
use Rattle.pl_waiters.specs.declared.waiter.Waiter.{Waiter}
use Rattle.pl_waiters.specs.declared.queue.Place.{Place}
use Rattle.pl_waiters.specs.Queue.{on_from}
use Rattle.pl_waiters.proofs.Firsts.{IsFirstOf, InPlace, InSet, in-place, in-set, of-both, first-of-all}
use Rattle.pl_waiters.proofs.queue.Queues.first_from.Given.{Over}
use Rattle.pl_waiters.proofs.queue.Queues.first_from.Goals.{After-earlier}
use Rattle.pl_waiters.proofs.queue.Queues.first_from.Goals as goal

-- it is the first of both sorts
module _ (g : Over) (c : After-earlier g) where
  abbrev P : Waiter → Type 0
  P = InPlace c.args.self.now.places.items c.args.self.now.more c.args.self.now.kept c.args.least.now

  abbrev S : Waiter → Type 0
  S = InSet c.args.self.now.places.items c.args.self.now.more c.args.self.now.kept c.args.least.now

  one : IsFirstOf P c.not_before-one.result
  one = subst (IsFirstOf P) (sym (c.not_before-one.ensures ∙ ap (λ (p : Place). on_from p.one c.args.least.now) c.place-place.ensures)) (in-place c.args.self.now.places.items c.args.self.now.more c.args.self.now.kept c.args.least.now)

  further : IsFirstOf S c.of_node.result
  further = subst (IsFirstOf S) (sym c.of_node.ensures)
      (in-set c.args.self.now.places.items c.args.self.now.more c.args.self.now.kept c.args.least.now c.further_from.result c.further_from.ensures.some c.further_from.ensures.first c.further_from.ensures.none)

  both : IsFirstOf (λ k. P k ⊎ S k) c.earlier.result
  both = subst (IsFirstOf (λ k. P k ⊎ S k)) (sym c.earlier.ensures) (of-both c.args.least.now.node P S (λ k h. h.0) (λ k h. h.0) c.not_before-one.result c.of_node.result one further)

pub returns-clause-some : goal.returns-clause-some
returns-clause-some g c = (let w = (goal.at.returns-clause-some g c).After-earlier in (first-of-all c.args.self.now.places.items c.args.self.now.more c.args.self.now.kept c.args.least.now c.earlier.result (both g w)).0)

pub returns-clause-first : goal.returns-clause-first
returns-clause-first g c = (let w = (goal.at.returns-clause-first g c).After-earlier in (first-of-all c.args.self.now.places.items c.args.self.now.more c.args.self.now.kept c.args.least.now c.earlier.result (both g w)).1)

pub returns-clause-none : goal.returns-clause-none
returns-clause-none g c = (let w = (goal.at.returns-clause-none g c).After-earlier in (first-of-all c.args.self.now.places.items c.args.self.now.more c.args.self.now.kept c.args.least.now c.earlier.result (both g w)).2)
