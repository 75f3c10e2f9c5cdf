use Rattle.std.proofs.Common.{◌∙◌, ap, nat_eq}
use Rattle.std.specs.Prelude.{count_by}
use Rattle.pl_numbered.specs.Numbered.{values}
use Rattle.pl_parked.proofs.Counting.{own-count}
use Rattle.pl_parked.proofs.parked.Parked.count_of.Goals as goal

pub returns : goal.returns
returns g c =
    let p = c.self.inside in
    c.count.ensures ∙ own-count c.args.pid p.next (values p.calls) p.owners c.self.invariant.rise (λ n. c.self.invariant.owned c.args.pid n)
    ∙ ap (λ k. count_by (λ e. nat_eq e.1.pid c.args.pid) k.calls) c.self.view_is
