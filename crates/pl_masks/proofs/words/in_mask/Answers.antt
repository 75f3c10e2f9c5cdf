use Rattle.std.proofs.Common.{arith}
use Rattle.pl_masks.proofs.Bits.{within, none_in, empty, first_in}
use Rattle.pl_masks.proofs.words.in_mask.Goals as goal

pub returns-then-rest-eq0-clause-none : goal.returns-then-rest-eq0-clause-none
returns-then-rest-eq0-clause-none c = none_in c.args.masks.now c.args.from c.mask_at.result c.mask_at.ensures c.if-rest-eq0.true

pub returns-then-rest-eq0-clause-empty : goal.returns-then-rest-eq0-clause-empty
returns-then-rest-eq0-clause-empty c = empty c.args.masks.now c.args.from c.mask_at.result c.mask_at.ensures c.if-rest-eq0.true

pub overflow_add-result : goal.overflow_add-result
overflow_add-result c = let l = within c.args.masks.now c.args.from c.mask_at.result c.mask_at.ensures c.mask_at.type_inv c.if-rest-eq0.false in omega (arith, l)

pub returns-else-rest-eq0-clause-some : goal.returns-else-rest-eq0-clause-some
returns-else-rest-eq0-clause-some c = first_in c.args.masks.now c.args.from c.mask_at.result c.mask_at.ensures c.mask_at.type_inv c.if-rest-eq0.false

pub returns-else-rest-eq0-clause-mask : goal.returns-else-rest-eq0-clause-mask
returns-else-rest-eq0-clause-mask c = let l = within c.args.masks.now c.args.from c.mask_at.result c.mask_at.ensures c.mask_at.type_inv c.if-rest-eq0.false in omega (arith, l)
