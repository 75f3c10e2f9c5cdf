use Rattle.std.proofs.Common.{rules}
use Rattle.std.proofs.lemmas.Fn.{always_returns_same}
use Rattle.pl_numbered.proofs.FromNumber.{all_below, found_below, found_above, missed_below, missed_above}
use Rattle.pl_numbered.proofs.entries.count_below.Goals as goal

-- the closure gives an entry's number
pub returns-in-Ok-clause-below : goal.returns-in-Ok-clause-below
returns-in-Ok-clause-below g c = λ next rise. found_below c.args.number next c.args.entries.now rise c.in-Ok.place c.in-Ok.ensures.bound (c.in-Ok.ensures.position (λ e. e.0) (always_returns_same _ _ _ (λ a r f' k. search rules)))

pub returns-in-Ok-clause-above : goal.returns-in-Ok-clause-above
returns-in-Ok-clause-above g c = λ next rise. found_above c.args.number next c.args.entries.now rise c.in-Ok.place (c.in-Ok.ensures.position (λ e. e.0) (always_returns_same _ _ _ (λ a r f' k. search rules)))

pub returns-in-Err-clause-below : goal.returns-in-Err-clause-below
returns-in-Err-clause-below g c = λ next rise. missed_below c.args.number next c.args.entries.now rise c.in-Err.place c.in-Err.ensures.bound (c.in-Err.ensures.position (λ e. e.0) (always_returns_same _ _ _ (λ a r f' k. search rules)))

pub returns-in-Err-clause-above : goal.returns-in-Err-clause-above
returns-in-Err-clause-above g c = λ next rise. missed_above c.args.number next c.args.entries.now rise c.in-Err.place c.in-Err.ensures.bound (c.in-Err.ensures.position (λ e. e.0) (always_returns_same _ _ _ (λ a r f' k. search rules)))

-- all are below the last one, which is below the number
pub returns-then-entries-len-clause-below : goal.returns-then-entries-len-clause-below
returns-then-entries-len-clause-below g c = λ next rise. all_below c.args.number next c.args.entries.now c.index-entries-len.result rise c.if-len-eq0.false c.if-entries-len.true
