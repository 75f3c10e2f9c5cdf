use Rattle.std.proofs.Common.{◌∙◌, ap, rules}
use Rattle.pl_masks.specs.Levels.{mask_at}
use Rattle.pl_masks.proofs.Bits.{mask-taken}
use Rattle.pl_masks.proofs.masks.cut.Goals as goal

pub returns-clause-same : goal.returns-clause-same
returns-clause-same g c = λ place. ap (λ xs. mask_at xs place) (c.shrink_to_fit.ensures.items ∙ c.truncate.ensures.items) ∙ mask-taken c.args.masks.now.items c.args.places place (λ within. search rules) c.requires
