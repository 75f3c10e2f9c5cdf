use Rattle.std.proofs.Common.{◌≡◌, Some, None, rules, w32, SFits}
use Rattle.std.specs.Prelude.{position}
use Rattle.std.proofs.lemmas.Int.{to_z-of_z}
use Rattle.std.proofs.lemmas.Result.{err_from_is_err_and}
use Rattle.pl_model.specs.Words.{is_colon}
use Rattle.pl_words.specs.declared.fault.LineFault.TheVariants.{Bad}
use Rattle.pl_words.proofs.EntryLemmas.{no_colon, fd_fails, mask_fails, both_say}
use Rattle.pl_words.proofs.polls.parse_entry.Goals as goal

pub returns-in_err-colon : goal.returns-in_err-colon
returns-in_err-colon c =
    let p = err_from_is_err_and c.from_residual.result c.from_residual.ensures.1 in
    let none : position is_colon c.args.word.now ≡ None = search rules in
    let bad : c.in_err-colon.field-0.0 ≡ Bad = search rules in
    rw (p.1, p.2, bad) (no_colon c.args.word.now none)

pub returns-in_err-fd : goal.returns-in_err-fd
returns-in_err-fd c =
    let p = err_from_is_err_and c.from_residual-in_err-fd.result c.from_residual-in_err-fd.ensures.1 in
    let found : position is_colon c.args.word.now ≡ Some c.in_ok-colon.colon = search rules in
    rw (p.1, p.2) (fd_fails c.args.word.now c.in_ok-colon.colon found c.in_err-fd.field-0.0 (rw (← c.split_at.ensures.front) c.in_err-fd.ensures))

pub returns-in_err-asked : goal.returns-in_err-asked
returns-in_err-asked c =
    let p = err_from_is_err_and c.from_residual-in_err-asked.result c.from_residual-in_err-asked.ensures.1 in
    let found : position is_colon c.args.word.now ≡ Some c.in_ok-colon.colon = search rules in
    rw (p.1, p.2) (mask_fails c.args.word.now c.in_ok-colon.colon found c.in_err-asked.field-0.0 (rw (← c.split_at-2.ensures.back) c.in_err-asked.ensures))

pub returns : goal.returns
returns c =
    let fits : SFits w32 c.in_ok-fd.fd = search rules in
    let found : position is_colon c.args.word.now ≡ Some c.in_ok-colon.colon = search rules in
    rw (to_z-of_z w32 c.in_ok-fd.fd fits) (both_say c.args.word.now c.in_ok-colon.colon found c.in_ok-fd.fd c.in_ok-asked.asked
    (rw (← c.split_at.ensures.front) c.in_ok-fd.ensures) (rw (← c.split_at-2.ensures.back) c.in_ok-asked.ensures))
