use Rattle.std.proofs.Common.{◌≡◌, None, sym, ◌∙◌, rules}
use Rattle.pl_model.specs.Words.{words}
use Rattle.pl_script.specs.Header.{with_limits}
use Rattle.pl_script.proofs.HeaderLemmas.{says_nothing, no_options, lone_option, no_number, no_option, next_option}
use Rattle.pl_script.proofs.header.with_limits.Goals as goal

pub returns-in_err-word-clause-said : goal.returns-in_err-word-clause-said
returns-in_err-word-clause-said c =
    let none : with_limits c.loop-option.set (words c.loop-option.left.now) ≡ None = lone_option _ _ _ _ c.in-Some.ensures c.in_err-word.ensures in
    let refused : c.from_residual.result ≡ None = search rules in
    refused ∙ sym (c.loop-option.invariant.same ∙ none)

pub returns-in_default-parse_u64-clause-said : goal.returns-in_default-parse_u64-clause-said
returns-in_default-parse_u64-clause-said c = sym (c.loop-option.invariant.same ∙ no_number _ _ _ _ c.in-Some.ensures _ _ c.in_ok-word.ensures (says_nothing c.in_default-parse_u64.field-0 _ c.in_default-parse_u64.ensures))

pub returns-in_err-set-clause-said : goal.returns-in_err-set-clause-said
returns-in_err-set-clause-said c =
    let none : with_limits c.loop-option.set (words c.loop-option.left.now) ≡ None = no_option _ _ _ _ c.in-Some.ensures _ _ c.in_ok-word.ensures _ c.in-Ok.ensures (sym c.in_err-set.ensures.said) in
    let refused : c.from_residual-in_err-set.result ≡ None = search rules in
    refused ∙ sym (c.loop-option.invariant.same ∙ none)

pub loop-option-preserved : goal.loop-option-preserved
loop-option-preserved c = record {
  same = c.loop-option.invariant.same ∙ next_option _ _ _ _ c.in-Some.ensures _ _ c.in_ok-word.ensures _ _ c.in-Ok.ensures (sym c.in_ok-set.ensures.said);
  most = c.in_ok-set.ensures.most;
}

pub returns-clause-said : goal.returns-clause-said
returns-clause-said c = sym (c.loop-option.invariant.same ∙ no_options _ _ c.in_default.ensures)
