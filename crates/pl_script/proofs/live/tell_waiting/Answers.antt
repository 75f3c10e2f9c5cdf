use Rattle.std.proofs.Common.{refl, sym, ◌∙◌}
use Rattle.std.specs.Prelude.{string_bytes}
use Rattle.std.proofs.lemmas.Result.{err_from_is_err_and}
use Rattle.pl_script.specs.Talk.{telling}
use Rattle.pl_script.proofs.LiveRuns.{told, told_part}
use Rattle.pl_script.proofs.live.tell_waiting.Goals as goal

pub returns-in_err-tell-clause-run : goal.returns-in_err-tell-clause-run
returns-in_err-tell-clause-run g c = λ limits strict first t pending known at.
    let p = err_from_is_err_and c.from_residual.result c.from_residual.ensures.1 in
    let part = c.in_err-tell.ensures.talk first t known in
    rw (p.1, p.2, part.0)
    (_, part.1.3, told_part limits strict c.args.live.now c.args.live.now t pending part.1.0 part.1.1 (string_bytes c.args.live.now.out) (sym c.as_bytes.ensures.value ∙ part.1.2) at, tt)

pub returns-clause-run : goal.returns-clause-run
returns-clause-run g c = λ limits strict first t pending known at. (
  telling (string_bytes c.args.live.now.out) t,
  rw c.as_bytes.ensures.value at (c.in_ok-tell.ensures.talk first t known),
  (told limits strict c.args.live.now _ t pending refl refl refl refl refl refl c.clear.ensures.bytes at, refl, c.clear.ensures.bytes, refl),
)
