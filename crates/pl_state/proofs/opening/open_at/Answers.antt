use Rattle.std.proofs.Common.{◌∙◌, ap}
use Rattle.pl_desc.specs.Rows.{count_at, change_count, one_less}
use Rattle.pl_state.proofs.holders.Holding.{one_more_less, more_positive}
use Rattle.pl_state.proofs.opening.open_at.Goals as goal

pub install-requires-clause-held : goal.install-requires-clause-held
install-requires-clause-held g c = more_positive (count_at c.args.descs.now.loose) (count_at c.open_reserved-key.new.self.loose) c.open_reserved-key.result c.open_reserved-key.ensures.loose

pub returns-clause-loose : goal.returns-clause-loose
returns-clause-loose g c =
    let key = c.open_reserved-key.result in
    c.install.ensures.loose ∙ ap (change_count key one_less) c.open_reserved-key.ensures.loose ∙ one_more_less key (count_at c.args.descs.now.loose)
