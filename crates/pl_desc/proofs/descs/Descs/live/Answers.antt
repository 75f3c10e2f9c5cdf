use Rattle.std.proofs.Common.{ap, ◌∙◌, sym, subst}
use Rattle.pl_desc.specs.Descs.{IsTidy, live_count}
use Rattle.pl_desc.proofs.Sound.{live-is, tidy}
use Rattle.pl_desc.proofs.descs.Descs.live.Goals as goal

pub returns-clause-value : goal.returns-clause-value
returns-clause-value g c = c.len.ensures ∙ sym (live-is c.self.inside.descriptions.slots) ∙ ap (λ d. live_count d.opened) c.self.view_is

pub returns-clause-tidy : goal.returns-clause-tidy
returns-clause-tidy g c = subst IsTidy c.self.view_is (tidy _ _ _ c.self.invariant _)
