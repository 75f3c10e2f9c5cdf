use Rattle.std.proofs.Common.{◌≡◌, ℕ, ◌+◌, ◌<◌, ◌≤◌, List, [], ◌∷◌, ◌++◌, length, ap, sym, refl, ◌∙◌, subst, arith, length-append}
use Rattle.std.specs.Prelude.{slice_index}
use Rattle.std.proofs.lemmas.Grind.{common_steps}
use Rattle.std.proofs.lemmas.List.{get_or_read}
use mathlib.Core.List.{IsPrefix}
use Rattle.pl_model.specs.declared.history.Entry.{Entry}
use Rattle.pl_model.specs.History.{entry, of, IsLegal}
use Rattle.pl_locked.specs.Journals.{Owes}
use Rattle.pl_locked.specs.Views.{CallerView, IsSub, Kept}
use Rattle.pl_locked.proofs.Subs.{sub_made}
use Rattle.pl_locked.proofs.Tallying.{tally_small}
use Rattle.pl_locked.proofs.Calls.{gains}
use Rattle.pl_locked.proofs.books.Books.step.Given.{Over}
use Rattle.pl_locked.proofs.books.Books.step.Goals.{After-add}
use Rattle.pl_locked.proofs.books.Books.step.Goals as goal

-- the journal before the step, and the entry that comes
module _ (g : Over) (c : After-add g) where
  abbrev A : Type 0
  A = g.row.A.Denot

  abbrev before : List (Entry A)
  before = c.self.inside.recorded.journal

  abbrev k : ℕ
  k = c.me.inside.number

  abbrev now : Entry A
  now = entry k c.index-number.result.now c.args.step c.in_ok-reply.reply

  -- the caller has been shown the journal
  journal-is : before ≡ c.args.self.now.journal
  journal-is = ap (λ (d : Kept A). d.journal) (c.self.view_is ∙ c.show.ensures.same)

  me-is : record { number = k; seen = c.me.inside.eye.seen; made = c.me.inside.made; handed = c.me.inside.handed.amount; glances = c.me.inside.glances } ≡ record c.args.me.now { seen = c.args.self.now.journal }
  me-is = c.me.view_is ∙ c.show.ensures.seen

  k-is : k ≡ c.args.me.now.number
  k-is = ap (λ (v : CallerView A). v.number) me-is

  shown : c.me.inside.eye.seen ≡ before
  shown = ap (λ (v : CallerView A). v.seen) me-is ∙ sym journal-is

  earlier : IsPrefix c.args.me.now.seen before
  earlier = subst (IsPrefix c.args.me.now.seen) (ap (λ (v : CallerView A). v.seen) c.show.ensures.seen ∙ sym journal-is) c.show.ensures.shown.0.earlier

  -- how many entries it has there
  number : c.index-number.result.now ≡ length (of k before)
  number =
      let tallies = c.self.invariant.0 in
      let lt : k < g.N.Layer.callers = c.me.invariant.0 in
      let many : length c.self.inside.counts.items ≡ g.N.Layer.callers = tallies.many in
      get_or_read c.self.inside.counts.items k c.index-number.result.now (omega arith) c.index-number.ensures 0 ∙ tallies.counts k lt

  seen : c.step.new.eye.seen ≡ before ++ now ∷ []
  seen = c.in_ok-reply.ensures.seen ∙ c.in_ok-reply.ensures.kept

  own : IsSub c.step.new.made (of k c.step.new.eye.seen)
  own =
      let was : IsSub c.me.inside.made (of k before) = subst (λ (h : List (Entry A)). IsSub c.me.inside.made (of k h)) shown c.me.invariant.4 in
      subst (λ (h : List (Entry A)). IsSub h (of k c.step.new.eye.seen)) (sym c.in_ok-reply.ensures.made)
      (subst (λ (h : List (Entry A)). IsSub (c.me.inside.made ++ now ∷ []) (of k h)) (sym seen) (sub_made k c.me.inside.made before now refl was))

pub overflow_add-number : goal.overflow_add-number
overflow_add-number g c =
    let k = c.me.inside.number in
    let tallies = c.self.invariant.0 in
    let lt : k < g.N.Layer.callers = c.me.invariant.0 in
    let many : length c.self.inside.counts.items ≡ g.N.Layer.callers = tallies.many in
    let number : c.index-number.result.now ≡ slice_index c.self.inside.counts.items k = get_or_read c.self.inside.counts.items k c.index-number.result.now (omega arith) c.index-number.ensures 0 in
    let small : slice_index c.self.inside.counts.items k ≤ g.N.Layer.max_steps = tally_small _ _ _ _ tallies k lt in
    let most : c.self.inside.most ≡ g.N.Layer.max_steps = c.self.invariant.2 in
    omega arith

pub invariant_of-me-2 : goal.invariant_of-me-2
invariant_of-me-2 g c =
    let w = (goal.at.invariant_of-me-2 g c).After-add in
    let inv = c.me.invariant in
    let made : length c.step.new.made ≡ length (c.me.inside.made ++ now g w ∷ []) = ap length c.in_ok-reply.ensures.made in
    let more : length (c.me.inside.made ++ now g w ∷ []) ≡ length c.me.inside.made + 1 = length-append c.me.inside.made (now g w ∷ []) in
    let was : c.me.inside.share.amount ≡ length c.me.inside.made = inv.2 in
    let is = c.add.ensures.amount in
    (inv.0, c.add.ensures.parts ∙ inv.1, omega arith, c.in_ok-reply.ensures.eye, own g w, inv.5)

pub returns-clause-made : goal.returns-clause-made
returns-clause-made g c =
    let w = (goal.at.returns-clause-made g c).After-add in
    let h = before g w in
    let n = c.index-number.result.now in
    let most : c.self.inside.most ≡ g.N.Layer.max_steps = c.self.invariant.2 in
    let room : length h < g.N.Layer.max_steps = omega (arith, c.len.ensures, c.if-len-self.false) in
    let longer : length (h ++ now g w ∷ []) ≡ length h + 1 = length-append h (now g w ∷ []) in
    let less : length c.step.new.eye.seen ≤ g.N.Layer.max_steps = let s = ap length (seen g w) in omega arith in
    gains g.N.Layer.limits g.N.Layer.max_steps c.args.me.now _ h n c.args.step c.in_ok-reply.reply
    (earlier g w)
    (number g w ∙ ap (λ (j : ℕ). length (of j h)) (k-is g w))
    (seen g w ∙ ap (λ (j : ℕ). h ++ entry j n c.args.step c.in_ok-reply.reply ∷ []) (k-is g w))
    (c.in_ok-reply.ensures.made ∙ (λ i. (me-is g w i).made ++ entry (k-is g w i) n c.args.step c.in_ok-reply.reply ∷ []))
    (k-is g w)
    (ap (λ (v : CallerView (A g w)). v.handed) (me-is g w))
    record { legal = subst (IsLegal g.N.Layer.limits) (sym c.in_ok-reply.ensures.seen) c.in_ok-reply.ensures.legal; room = less; own = own g w }

pub invariant_of-self-2 : goal.invariant_of-self-2
invariant_of-self-2 g c =
    let inv = c.self.invariant in (
      grind (arith, common_steps),
      grind (arith, common_steps),
      inv.2,
      inv.3,
      inv.4,
      subst (λ (n : ℕ). Owes g.N.Layer.callers n c.self.inside.handed.total c.self.inside.spare.parts c.self.inside.spare.amount) (sym c.in_ok-reply.ensures.first) inv.5,
    )
