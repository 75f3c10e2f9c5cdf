use Rattle.std.proofs.Common.{◌≤◌, List, length, sym, refl, subst}
use mathlib.Core.List.{IsPrefix}
use Rattle.pl_model.specs.declared.history.Entry.{Entry}
use Rattle.pl_model.specs.History.{of, IsLegal}
use Rattle.pl_locked.specs.Views.{IsSub}
use Rattle.pl_locked.proofs.Subs.{sub_later}
use Rattle.pl_locked.proofs.books.Books.show.Given.{Over}
use Rattle.pl_locked.proofs.books.Books.show.Goals.{After-show}
use Rattle.pl_locked.proofs.books.Books.show.Goals as goal

-- what the caller made stands in order among its entries of what it sees
own : (g : Over) (c : After-show g) → IsSub c.me.inside.made (of c.me.inside.number c.show.new.eye.seen)
own g c =
    let me = c.me.inside in
    subst (λ (h : List (Entry g.row.A.Denot)). IsSub me.made (of me.number h)) (sym c.show.ensures.seen) (sub_later me.number me.made me.eye.seen c.self.inside.recorded.journal c.me.invariant.4 c.show.ensures.earlier)

pub invariant_of-me : goal.invariant_of-me
invariant_of-me g c =
    let inv = c.me.invariant in
    (inv.0, inv.1, inv.2, c.show.ensures.recorder, own g (goal.at.invariant_of-me g c).After-show, inv.5)

pub returns-clause-shown : goal.returns-clause-shown
returns-clause-shown g c =
    let k = (goal.at.returns-clause-shown g c).After-show in
    let seen = sym c.show.ensures.seen in
    rw (← c.me.view_is) (
      record { number = refl; made = refl; handed = refl; earlier = subst (IsPrefix c.me.inside.eye.seen) seen c.show.ensures.earlier },
      record {
        legal = subst (IsLegal g.N.Layer.limits) seen c.show.ensures.legal;
        room = subst (λ (h : List (Entry g.row.A.Denot)). length h ≤ g.N.Layer.max_steps) seen c.self.invariant.0.room;
        own = own g k;
      },
    )
