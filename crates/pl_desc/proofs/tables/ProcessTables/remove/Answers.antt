use Rattle.std.proofs.Common.{◌-◌, None, ap, ◌∙◌}
use Rattle.pl_desc.specs.Rows.{is_pid, with_table}
use Rattle.pl_desc.proofs.Processes.{place-here, tables-set}
use Rattle.pl_desc.proofs.Vacant.{vacant-put}
use Rattle.pl_desc.proofs.tables.ProcessTables.remove.Goals as goal

pub insert-requires : goal.insert-requires
insert-requires g c = c.self.invariant.places (c.args.pid - 1) (place-here c.self.inside.list.items c.args.pid (ap (λ t. is_pid t.tables c.args.pid) c.self.view_is ∙ c.requires))

pub invariant_of-self : goal.invariant_of-self
invariant_of-self g c =
    let list = c.self.inside.list.items in
    vacant-put list c.self.inside.vacant c.self.invariant (c.args.pid - 1) None c.insert.new.self
    (place-here list c.args.pid (ap (λ t. is_pid t.tables c.args.pid) c.self.view_is ∙ c.requires)) c.insert.ensures.value c.insert.ensures.places

pub returns : goal.returns
returns g c = tables-set c.self.inside.list.items c.args.pid None ∙ ap (λ t. with_table t.tables c.args.pid None) c.self.view_is
