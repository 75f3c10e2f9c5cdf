use Rattle.std.proofs.Common.{ap, ◌∙◌, sym, subst, rules}
use Rattle.std.proofs.lemmas.Fn.{filter_same}
use Rattle.pl_numbered.specs.Entries.{values_in, AreTidy}
use Rattle.pl_numbered.proofs.Changing.{full-keeps}
use Rattle.pl_numbered.proofs.EntryLemmas.{full-values}
use Rattle.pl_numbered.proofs.numbered.Numbered.close_gaps.Goals as goal

-- the closure passes the full entries
pub invariant_of-self : goal.invariant_of-self
invariant_of-self g c =
    let kept = filter_same _ _ _ (λ x b f' k. search rules) _ _ c.retain.ensures.filtered in
    record { kept = subst (λ es. AreTidy es 0) (sym kept) (full-keeps c.args.self.now.entries.items c.args.self.now.empty c.args.self.now.kept) }

pub returns-then-self-len : goal.returns-then-self-len
returns-then-self-len g c =
    let kept = filter_same _ _ _ (λ x b f' k. search rules) _ _ c.retain.ensures.filtered in
    c.give_back.ensures ∙ ap values_in kept ∙ full-values c.args.self.now.entries.items
