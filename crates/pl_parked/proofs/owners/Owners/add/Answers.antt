use Rattle.std.proofs.Common.{sym, ◌∙◌, ap, nat_eq}
use Rattle.std.specs.Prelude.{◌&&◌, ◌||◌}
use Rattle.pl_parked.proofs.Rows.{row-added, row-same, row-under}
use Rattle.pl_parked.proofs.Waiting.{OnOk_then, OnErr_then}
use Rattle.pl_parked.proofs.owners.Owners.add.Goals as goal

pub push-requires : goal.push-requires
push-requires g c =
    row-under c.make_row.new.self.rows.items c.args.pid c.args.number c.index_mut.result.now c.index_mut.result.now c.in_ok-make_row.ensures.row c.index_mut.ensures.value
    c.args.number (λ pid n has. c.requires pid n (sym (c.make_row.ensures.same pid n) ∙ has))

pub returns-clause-ok : goal.returns-clause-ok
returns-clause-ok g c = OnOk_then c.push.result c.push.ensures.ok (λ more other call.
    row-added c.make_row.new.self.rows.items c.args.pid c.args.number c.index_mut.result.now c.push.new.self c.in_ok-make_row.ensures.row c.index_mut.ensures.value more other call
    ∙ ap (λ b. (nat_eq c.args.pid other && nat_eq c.args.number call) || b) (c.make_row.ensures.same other call))

pub returns-clause-err : goal.returns-clause-err
returns-clause-err g c = OnErr_then c.push.result c.push.ensures.err (λ same other call.
    row-same c.make_row.new.self.rows.items c.args.pid c.args.number c.index_mut.result.now c.push.new.self c.in_ok-make_row.ensures.row c.index_mut.ensures.value same other call
    ∙ c.make_row.ensures.same other call)
