use Rattle.std.proofs.Common.{◌≡◌, [], Some, refl, ◌∙◌, ap, arith}
use Rattle.pl_desc.specs.Rows.{is_pid, row_at, count_at}
use Rattle.pl_desc.specs.Descs.{live_count}
use Rattle.pl_layer_checks.proofs.Starting.{is_there, no_row, few_holds, has_hold, none_live, same_tables}
use Rattle.pl_layer_checks.proofs.descs.fork_with_one.Goals as goal

pub reserve_row-requires-clause-process : goal.reserve_row-requires-clause-process
reserve_row-requires-clause-process g c = is_there c.start.new.self.tables c.start.new.self.tables (is_pid c.args.descs.now.tables) c.in_ok-parent.parent c.in_ok-parent.ensures.pids refl

pub reserve_at-requires-clause-process : goal.reserve_at-requires-clause-process
reserve_at-requires-clause-process g c =
    is_there c.start.new.self.tables c.reserve_row.new.self.tables (is_pid c.args.descs.now.tables) c.in_ok-parent.parent c.in_ok-parent.ensures.pids (ap (λ d. d.tables) c.reserve_row.ensures.kept)

pub open_reserved-key-requires-clause-few : goal.open_reserved-key-requires-clause-few
open_reserved-key-requires-clause-few g c =
    let opened : c.reserve_at.new.self.opened ≡ [] = ap (λ d. d.opened) c.reserve_at.ensures.kept ∙ ap (λ d. d.opened) c.reserve_row.ensures.kept ∙ ap (λ d. d.opened) c.start.ensures.rest ∙ ap (λ d. d.opened) c.requires in
    let limit : c.reserve_at.new.self.limits.descriptions ≡ 4096 = ap (λ d. d.limits.descriptions) c.reserve_at.ensures.kept ∙ ap (λ d. d.limits.descriptions) c.reserve_row.ensures.kept ∙ ap (λ d. d.limits.descriptions) c.start.ensures.rest ∙ ap (λ d. d.limits.descriptions) c.requires in
    omega (arith, ap live_count opened ∙ none_live, limit)

pub lowest-requires : goal.lowest-requires
lowest-requires g c =
    is_there c.start.new.self.tables c.open_reserved-key.new.self.tables (is_pid c.args.descs.now.tables) c.in_ok-parent.parent c.in_ok-parent.ensures.pids
    (same_tables c.start.new.self c.reserve_row.new.self c.reserve_at.new.self c.open_reserved-key.new.self c.reserve_row.ensures.kept c.reserve_at.ensures.kept c.open_reserved-key.ensures.rest)

pub install-requires-clause-process : goal.install-requires-clause-process
install-requires-clause-process g c =
    is_there c.start.new.self.tables c.open_reserved-key.new.self.tables (is_pid c.args.descs.now.tables) c.in_ok-parent.parent c.in_ok-parent.ensures.pids
    (same_tables c.start.new.self c.reserve_row.new.self c.reserve_at.new.self c.open_reserved-key.new.self c.reserve_row.ensures.kept c.reserve_at.ensures.kept c.open_reserved-key.ensures.rest)

pub install-requires-clause-free : goal.install-requires-clause-free
install-requires-clause-free g c =
    let pid = c.in_ok-parent.parent in
    ap (λ ts. row_at ts pid 0) (same_tables c.start.new.self c.reserve_row.new.self c.reserve_at.new.self c.open_reserved-key.new.self c.reserve_row.ensures.kept c.reserve_at.ensures.kept c.open_reserved-key.ensures.rest)
    ∙ (λ i. c.in_ok-parent.ensures.rows i pid 0) ∙ ap (λ d. row_at d.tables pid 0) c.requires ∙ no_row pid 0

pub install-requires-clause-held : goal.install-requires-clause-held
install-requires-clause-held g c =
    has_hold (count_at c.reserve_at.new.self.loose) (count_at c.open_reserved-key.new.self.loose) (Some c.open_reserved-key.result) c.open_reserved-key.result c.open_reserved-key.ensures.loose refl

pub copy_at_last-requires-clause-process : goal.copy_at_last-requires-clause-process
copy_at_last-requires-clause-process g c =
    (λ i. c.install.ensures.pids i c.in_ok-parent.parent)
    ∙ is_there c.start.new.self.tables c.open_reserved-key.new.self.tables (is_pid c.args.descs.now.tables) c.in_ok-parent.parent c.in_ok-parent.ensures.pids
    (same_tables c.start.new.self c.reserve_row.new.self c.reserve_at.new.self c.open_reserved-key.new.self c.reserve_row.ensures.kept c.reserve_at.ensures.kept c.open_reserved-key.ensures.rest)

pub copy_at_last-requires-clause-few : goal.copy_at_last-requires-clause-few
copy_at_last-requires-clause-few g c =
    few_holds c.open_reserved-key.result (count_at c.reserve_at.new.self.loose) (count_at c.open_reserved-key.new.self.loose) (count_at c.install.new.self.loose)
    (ap (λ d. count_at d.loose) c.reserve_at.ensures.kept ∙ ap (λ d. count_at d.loose) c.reserve_row.ensures.kept ∙ ap (λ d. count_at d.loose) c.start.ensures.rest ∙ ap (λ d. count_at d.loose) c.requires)
    c.open_reserved-key.ensures.loose c.install.ensures.loose
