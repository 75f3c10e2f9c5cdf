use Rattle.std.proofs.Common.{◌≡◌, ◌+◌, List, length, sym, ap, ◌∙◌, subst, arith}
use mathlib.Core.List.{IsPrefix}
use Rattle.pl_model.specs.declared.history.Entry.{Entry}
use Rattle.pl_locked.specs.Journals.{Tallies, Owes}
use Rattle.pl_locked.specs.Views.{CallerView, IsRest, Kept, Knows}
use Rattle.pl_locked.proofs.Rests.{rest_count}
use Rattle.pl_locked.proofs.books.Books.hand_out.Given.{Over}
use Rattle.pl_locked.proofs.books.Books.hand_out.Goals.{After-add}
use Rattle.pl_locked.proofs.books.Books.hand_out.Goals as goal

module _ (g : Over) (c : After-add g) where
  abbrev A : Type 0
  A = g.row.A.Denot

  -- the caller has been shown the journal
  me-is : record { number = c.me.inside.number; seen = c.me.inside.eye.seen; made = c.me.inside.made; handed = c.me.inside.handed.amount; glances = c.me.inside.glances } ≡ c.show.new.me
  me-is = c.me.view_is

  journal-is : c.self.inside.recorded.journal ≡ c.args.self.now.journal
  journal-is = ap (λ (d : Kept A). d.journal) (c.self.view_is ∙ c.show.ensures.same)

  seen : c.me.inside.eye.seen ≡ c.self.inside.recorded.journal
  seen = ap (λ (v : CallerView A). v.seen) (me-is ∙ c.show.ensures.seen) ∙ sym journal-is

  knows : Knows g.N.Layer.limits g.N.Layer.max_steps (record { number = c.me.inside.number; seen = c.me.inside.eye.seen; made = c.me.inside.made; handed = c.me.inside.handed.amount; glances = c.me.inside.glances })
  knows = subst (Knows g.N.Layer.limits g.N.Layer.max_steps) (sym me-is) c.show.ensures.shown.1

  -- what was handed out before and this part are the whole journal
  counted : c.hand_out-part.result.first + length c.hand_out-part.result.journal ≡ length c.self.inside.recorded.journal
  counted = rest_count c.hand_out-part.result.first c.self.inside.recorded.journal c.hand_out-part.result.journal c.hand_out-part.ensures.part

pub invariant_of-self : goal.invariant_of-self
invariant_of-self g c =
    let w = (goal.at.invariant_of-self g c).After-add in
    let inv = c.self.invariant in
    let books = c.self.inside in
    let same : c.hand_out-part.new.self.journal ≡ books.recorded.journal = ap (λ (z : Kept g.row.A.Denot). z.journal) c.hand_out-part.ensures.kept in
    let all : c.hand_out-part.new.self.first ≡ length books.recorded.journal = ap (λ (z : Kept g.row.A.Denot). z.first) c.hand_out-part.ensures.kept in
    let here = counted g w in
    let was : books.handed.total ≡ books.recorded.first = inv.5.counted in (
      subst (λ (h : List (Entry g.row.A.Denot)). Tallies g.N.Layer.callers g.N.Layer.max_steps h books.counts.items) (sym same) inv.0,
      subst (λ (h : List (Entry g.row.A.Denot)). Owes g.N.Layer.callers (length h) books.book.total books.rest.parts books.rest.amount) (sym same) inv.1,
      inv.2,
      inv.3,
      inv.4,
      record {
        counted = omega (arith, all, here, was, c.hand_out-part.ensures.first, c.len.ensures, c.add.ensures.total, c.audit.ensures.total);
        parts = inv.5.parts;
        amount = inv.5.amount;
      },
    )

pub invariant_of-me : goal.invariant_of-me
invariant_of-me g c =
    let inv = c.me.invariant in
    (inv.0, inv.1, inv.2, inv.3, inv.4, c.add.ensures.parts ∙ c.audit.ensures.parts ∙ inv.5)

pub returns-clause-handed : goal.returns-clause-handed
returns-clause-handed g c =
    let w = (goal.at.returns-clause-handed g c).After-add in
    let sees = c.show.ensures.shown.0 in
    let was : c.me.inside.handed.amount ≡ c.args.me.now.handed = ap (λ (v : CallerView g.row.A.Denot). v.handed) (me-is g w) ∙ sees.handed in
    let total : c.self.inside.handed.total ≡ c.self.inside.recorded.first = c.self.invariant.5.counted in
    record {
      number = ap (λ (v : CallerView g.row.A.Denot). v.number) (me-is g w) ∙ sees.number;
      made = ap (λ (v : CallerView g.row.A.Denot). v.made) (me-is g w) ∙ sees.made;
      earlier = subst (IsPrefix c.args.me.now.seen) (sym (ap (λ (v : CallerView g.row.A.Denot). v.seen) (me-is g w))) sees.earlier;
      knows = record { legal = (knows g w).legal; room = (knows g w).room; own = (knows g w).own };
      part = subst (λ (h : List (Entry g.row.A.Denot)). IsRest c.hand_out-part.result.first h c.hand_out-part.result.journal) (sym (seen g w)) c.hand_out-part.ensures.part;
      handed = omega (arith, was, c.len.ensures, c.add.ensures.amount, c.audit.ensures.amount);
      before = omega (arith, was, total, c.audit.ensures.bound, c.hand_out-part.ensures.first);
    }
