use Rattle.std.proofs.Common.{◌≡◌, Some, None, sym, rules}
use Rattle.std.specs.Prelude.{position}
use Rattle.std.proofs.lemmas.Result.{err_from_is_err_and}
use Rattle.pl_model.specs.Words.{is_comma}
use Rattle.pl_words.specs.Named.{flag_of}
use Rattle.pl_words.proofs.FlagLemmas.{flags_more, flags_last, fails_more, fails_last}
use Rattle.pl_words.proofs.flags.parse_flags.Goals as goal

pub returns-in_err-bits : goal.returns-in_err-bits
returns-in_err-bits c =
    let p = err_from_is_err_and c.from_residual.result c.from_residual.ensures.1 in
    let found : position is_comma c.loop-comma.rest.now ≡ Some c.in-Some.comma = sym c.in-Some.ensures.place in
    rw (p.1, p.2) (fails_more (flag_of c.args.named) c.loop-comma.bits c.loop-comma.rest.now _ c.loop-comma.invariant c.in_err-bits.field-0.0 c.in-Some.comma found (rw (← c.split_at.ensures.front) c.in_err-bits.ensures))

pub loop-comma-preserved : goal.loop-comma-preserved
loop-comma-preserved c =
    let found : position is_comma c.loop-comma.rest.now ≡ Some c.in-Some.comma = sym c.in-Some.ensures.place in
    flags_more (flag_of c.args.named) c.loop-comma.bits c.loop-comma.rest.now _ c.loop-comma.invariant c.in_ok-bits.field-0 c.in-Some.comma c.split_at-in-Some.result.1.now found
    (rw (← c.split_at.ensures.front) c.in_ok-bits.ensures) c.split_at-in-Some.ensures.back

pub returns-in_err-bits-2 : goal.returns-in_err-bits-2
returns-in_err-bits-2 c =
    let p = err_from_is_err_and c.from_residual-in_err-bits-2.result c.from_residual-in_err-bits-2.ensures.1 in
    let none : position is_comma c.loop-comma.rest.now ≡ None = search rules in
    rw (p.1, p.2) (fails_last (flag_of c.args.named) c.loop-comma.bits c.loop-comma.rest.now _ c.loop-comma.invariant c.in_err-bits-2.field-0.0 none c.in_err-bits-2.ensures)

pub returns : goal.returns
returns c =
    let none : position is_comma c.loop-comma.rest.now ≡ None = search rules in
    flags_last (flag_of c.args.named) c.loop-comma.bits c.loop-comma.rest.now _ c.loop-comma.invariant c.in_ok-bits-2.field-0 none c.in_ok-bits-2.ensures
