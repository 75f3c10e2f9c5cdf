use Rattle.std.proofs.Common.{◌≡◌, ◌∙◌, ap, true, not}
use Rattle.std.specs.Prelude.{is_ok}
use Rattle.std.proofs.lemmas.Result.{err_from_is_err_and}
use Rattle.pl_model.specs.Words.{words}
use Rattle.pl_words.proofs.EntryLemmas.{one_taken, one_passed, one_fails, all_taken, all_wanted}
use Rattle.pl_words.proofs.polls.parse_entries.Goals as goal

pub returns-in_err-entry : goal.returns-in_err-entry
returns-in_err-entry g c =
    let p = err_from_is_err_and c.from_residual.result c.from_residual.ensures.1 in
    rw (p.1, p.2) (one_fails _ _ _ _ c.loop-word.invariant c.in-Some.word.now (words c.in-Some.behind.now) c.in_err-entry.field-0.0 c.in-Some.ensures c.in_err-entry.ensures)

pub loop-word-preserved-then-wants : goal.loop-word-preserved-then-wants
loop-word-preserved-then-wants g c =
    one_passed _ _ _ _ c.loop-word.invariant c.in-Some.word.now _ c.in_ok-entry.entry c.in-Some.ensures c.in_ok-entry.ensures c.if-wants.true

pub loop-word-preserved : goal.loop-word-preserved
loop-word-preserved g c =
    one_taken _ _ _ _ c.loop-word.invariant c.in-Some.word.now _ c.in_ok-entry.entry _ _ c.in-Some.ensures c.in_ok-entry.ensures
    (λ keeps. let kept : is_ok c.push.result ≡ true = c.is_err-wants.ensures.negation ∙ ap not keeps in (c.if-wants.false, rw kept at c.push.ensures.items))

pub returns-then-wants-2 : goal.returns-then-wants-2
returns-then-wants-2 g c = all_wanted _ _ _ _ c.loop-word.invariant c.in_default.ensures c.if-wants-2.true

pub returns : goal.returns
returns g c = rw c.from_vec.ensures (all_taken _ _ _ _ c.loop-word.invariant c.in_default.ensures c.if-wants-2.false)
