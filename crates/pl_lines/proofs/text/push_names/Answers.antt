use Rattle.std.proofs.Common.{sym}
use Rattle.std.proofs.lemmas.Result.{err_from_is_err_and}
use Rattle.pl_lines.proofs.Masks.{no_name_yet, name_put, name_left_out}
use Rattle.pl_lines.proofs.Pushing.{stopped}
use Rattle.pl_lines.proofs.text.push_names.Goals as goal
use Rattle.pl_lines.proofs.text.push_names.Goals.{then-contains+in_ok-push_name, else-contains}

pub loop-flag-init : goal.loop-flag-init
loop-flag-init g c = no_name_yet _ _ (g.F.Flags.set_of c.args.set) c.args.names.now _

pub loop-flag-preserved : goal.loop-flag-preserved
loop-flag-preserved g c = elim c.if-contains.branch [
  | then-contains+in_ok-push_name w ↦ rw (w.text-is, w.others-is) (name_put _ _ (g.F.Flags.set_of c.args.set) c.args.names.now _ _ c.loop-flag.invariant c.loop-flag-test.true c.loop-flag-item.is _ (sym (w.if-contains.ensures c.requires)) w.in_ok-push_name.was w.push_name.ensures)
  | else-contains w ↦ rw (w.text-is, w.others-is) (name_left_out _ _ (g.F.Flags.set_of c.args.set) c.args.names.now _ _ c.loop-flag.invariant c.loop-flag-test.true c.loop-flag-item.is (sym (w.if-contains.ensures c.requires)))
]

pub returns-in_err-push_name : goal.returns-in_err-push_name
returns-in_err-push_name g c =
    let is = err_from_is_err_and c.from_residual.result c.from_residual.ensures.1 in
    stopped c.loop-flag.invariant _ is.1 c.push_name.ensures
