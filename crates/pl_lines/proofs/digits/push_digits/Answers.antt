use Rattle.std.proofs.Common.{[], sym, ap, ◌∙◌, refl, take, drop, take-append-drop}
use Rattle.std.proofs.lemmas.List.{append-nil}
use Rattle.std.proofs.lemmas.Result.{err_from_is_err_and}
use Rattle.pl_model.specs.Shown.{hex_text}
use Rattle.pl_lines.proofs.HexText.{hex_text_both}
use Rattle.pl_lines.proofs.Pushing.{stopped, one_more, ended}
use Rattle.pl_lines.proofs.digits.push_digits.Goals as goal

pub loop-rest-init : goal.loop-rest-init
loop-rest-init g c = record { put = []; added = sym (append-nil _); left = refl }

pub returns-in_err-push_few : goal.returns-in_err-push_few
returns-in_err-push_few g c =
    let is = err_from_is_err_and c.from_residual-in_err-push_few.result c.from_residual-in_err-push_few.ensures.1 in
    rw (← c.in_ok-reserve.ensures.bytes) (stopped c.loop-rest.invariant _ is.1 c.push_few.ensures)

pub loop-rest-preserved : goal.loop-rest-preserved
loop-rest-preserved g c =
    let parts = c.split_at.ensures in
    let rest = c.loop-rest.rest.now in
    let both = ap hex_text (sym (take-append-drop 64 rest)) ∙ hex_text_both (take 64 rest) (drop 64 rest) in
    one_more c.loop-rest.invariant _ _ c.in_ok-push_few.was c.push_few.ensures (rw (parts.front, parts.back) both)

pub returns : goal.returns
returns g c = rw (← c.in_ok-reserve.ensures.bytes) (ended c.loop-rest.invariant c.push_few-2.ensures)
