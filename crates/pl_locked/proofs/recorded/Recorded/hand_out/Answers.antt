use Rattle.std.proofs.Common.{rules, ◌≡◌, ◌+◌, [], length, sym, ap, ◌∙◌, subst, arith}
use Rattle.pl_locked.specs.Views.{IsRest, Kept}
use Rattle.pl_locked.proofs.Rests.{rest_count, all_out}
use Rattle.pl_locked.proofs.recorded.Recorded.hand_out.Given.{Over}
use Rattle.pl_locked.proofs.recorded.Recorded.hand_out.Goals.{After-from_vec}
use Rattle.pl_locked.proofs.recorded.Recorded.hand_out.Goals as goal

-- all entries were handed out then
counted : (g : Over) (c : After-from_vec g) → c.self.inside.first + c.len.result ≡ length c.self.inside.recorder.seen
counted g c =
    let long : c.len.result ≡ length c.self.inside.rest.items = search (rules, c.len.ensures) in
    let all = rest_count c.self.inside.first c.self.inside.recorder.seen c.self.inside.rest.items c.self.invariant.3 in
    omega (arith, long, all)

pub invariant_of-self : goal.invariant_of-self
invariant_of-self g c =
    let seen = c.self.inside.recorder.seen in
    let none : c.replace-rest.new.dest.items ≡ [] = ap (λ v. v.items) c.replace-rest.ensures.after ∙ c.new.ensures.items in
    let part = subst (λ r. IsRest (length seen) seen r) (sym none) (all_out seen) in
    (c.self.invariant.0, c.self.invariant.1, c.self.invariant.2, subst (λ n. IsRest n seen c.replace-rest.new.dest.items) (sym (counted g c)) part, c.self.invariant.4)

pub returns-clause-kept : goal.returns-clause-kept
returns-clause-kept g c =
    let same = ap (λ (z : Kept g.row.A.Denot). z.journal) c.self.view_is in
    λ i. record { journal = same i; first = (counted g c ∙ ap length same) i }
