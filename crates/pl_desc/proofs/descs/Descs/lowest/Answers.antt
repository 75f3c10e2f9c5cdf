use Rattle.std.proofs.Common.{◌≡◌, ◌-◌, ◌∙◌, ap, sym, length, true}
use Rattle.std.specs.Prelude.{is_some, is_none}
use Rattle.pl_model.specs.Numbers.{first_from}
use Rattle.pl_desc.specs.Rows.{at, is_pid, rows_in, rows_of, lowest_of}
use Rattle.pl_desc.proofs.RowLemmas.{rows-length}
use Rattle.pl_desc.proofs.descs.Descs.lowest.Goals as goal

pub returns : goal.returns
returns g c =
    let k = c.self.inside in
    let table = c.in_ok-get.field-0.now.names in
    let rows : table ≡ rows_of k.tables.tables c.args.pid = ap rows_in c.in_ok-get.ensures in
    let process : is_pid k.tables.tables c.args.pid ≡ true = ap is_some (sym c.in_ok-get.ensures) in
    let long : length table ≡ k.limits.descriptors = ap length rows ∙ rows-length k.tables.tables c.args.pid process c.self.invariant.wide in
    c.lowest.ensures
    ∙ (λ i. first_from (λ fd. is_none (at (rows i) fd)) (long i - c.args.least) c.args.least)
    ∙ ap (λ d. lowest_of d.tables d.limits.descriptors c.args.pid c.args.least) c.self.view_is
