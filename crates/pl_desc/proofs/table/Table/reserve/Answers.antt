use Rattle.std.proofs.Common.{◌∙◌, ap}
use Rattle.pl_desc.proofs.TableSteps.{names-same, table-same}
use Rattle.pl_desc.proofs.table.Table.reserve.Goals as goal

pub returns-clause-same : goal.returns-clause-same
returns-clause-same g c =
    let t = c.self.inside in
    names-same t.keys.items t.most t.free c.self.invariant c.grow.new.keys.items c.grow.ensures.few c.grow.ensures.same ∙ ap (λ t. t.names) c.self.view_is

pub invariant_of-self : goal.invariant_of-self
invariant_of-self g c =
    let t = c.self.inside in
    table-same t.keys.items t.most t.free c.self.invariant c.grow.new.keys.items c.grow.new.free c.grow.ensures.few c.grow.ensures.same c.grow.ensures.vacant
