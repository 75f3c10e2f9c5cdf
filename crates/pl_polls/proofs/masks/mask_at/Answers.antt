use Rattle.std.proofs.Common.{IsSome, IfSome, sym, ap, subst, ◌∙◌}
use Rattle.std.specs.Prelude.{option_and_then}
use Rattle.pl_model.specs.State.{described}
use Rattle.pl_model.specs.Poll.{mask_at}
use Rattle.pl_desc.specs.Rows.{at}
use Rattle.pl_state.specs.Contents.{core_of}
use Rattle.pl_polls.proofs.by_call.Looking.{mask_is}
use Rattle.pl_polls.proofs.masks.mask_at.Goals as goal

pub returns-in-Some : goal.returns-in-Some
returns-in-Some g c =
    let k = c.args.kernel.now in
    let there : IsSome (at k.opened c.in-Some.key) = subst (λ o. IfSome o (λ d. IsSome (at k.opened d))) c.in-Some.is c.requires in
    mask_is k c.in-Some.key there c.args.asked c.mask_of_key.result c.mask_of_key.ensures ∙ ap (λ o. mask_at (core_of k) (option_and_then (described (core_of k)) o) c.args.asked) (sym c.in-Some.is)
