use Rattle.std.proofs.Common.{◌∙◌, ◌-◌, None, ap, sym}
use Rattle.std.specs.Prelude.{option_map, nat_lt, if◌then◌else◌}
use Rattle.pl_desc.specs.Rows.{at, Tabled, table_of}
use Rattle.pl_desc.proofs.Processes.{table-if}
use Rattle.pl_desc.proofs.tables.ProcessTables.get.Goals as goal

pub returns : goal.returns
returns g c =
    ap (option_map (λ (table : Tabled). table.names)) (c.table_in.ensures ∙ ap (λ list. if nat_lt 0 c.args.pid then at list (c.args.pid - 1) else None) c.deref.ensures.value)
    ∙ sym (table-if c.self.inside.list.items c.args.pid) ∙ ap (λ t. table_of t.tables c.args.pid) c.self.view_is
