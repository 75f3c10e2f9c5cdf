use Rattle.std.proofs.Common.{[]}
use Rattle.pl_segments.proofs.Shared.{one-held, shared-turned, others-same, held-named}
use Rattle.pl_segments.proofs.sharing.lists_over_one_store.Goals as goal

pub returns-clause-held : goal.returns-clause-held
returns-clause-held c = λ m all p within shared. one-held m m all p [] within shared

pub returns-clause-turned : goal.returns-clause-turned
returns-clause-turned c = λ m n all p ys within shared t. shared-turned m n all p ys within shared t

pub returns-clause-others : goal.returns-clause-others
returns-clause-others c = λ m n all p ys within shared t. others-same m n all p ys within shared t

pub returns-clause-named : goal.returns-clause-named
returns-clause-named c = λ held all good shared. held-named held all good shared
