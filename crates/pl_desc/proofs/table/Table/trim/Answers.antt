use Rattle.std.proofs.Common.{◌≤◌, ◌∙◌, ap, length, arith}
use Rattle.pl_desc.proofs.TableSteps.{names-same, table-same}
use Rattle.pl_desc.proofs.table.Table.trim.Goals as goal

pub returns : goal.returns
returns g c =
    let t = c.self.inside in
    let few : length c.trim.new.keys.items ≤ t.most = omega (arith, c.trim.ensures.fewer, c.self.invariant.few) in
    names-same t.keys.items t.most t.free c.self.invariant c.trim.new.keys.items few c.trim.ensures.same ∙ ap (λ t. t.names) c.self.view_is

pub invariant_of-self-2 : goal.invariant_of-self-2
invariant_of-self-2 g c =
    let t = c.self.inside in
    let few : length c.trim.new.keys.items ≤ t.most = omega (arith, c.trim.ensures.fewer, c.self.invariant.few) in
    table-same t.keys.items t.most t.free c.self.invariant c.trim.new.keys.items c.trim.new.free few c.trim.ensures.same c.trim.ensures.vacant
