use Rattle.pl_desc.specs.Rows.{count_at}
use Rattle.pl_layer_checks.proofs.Starting.{has_hold}
use Rattle.pl_layer_checks.proofs.descs.close.Goals as goal

pub release-requires : goal.release-requires
release-requires g c = has_hold (count_at c.args.descs.now.loose) (count_at c.remove.new.self.loose) c.remove.result c.in_ok-named.named c.remove.ensures.loose c.in_ok-named.ensures.ok_part
