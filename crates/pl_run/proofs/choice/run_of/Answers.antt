use Rattle.pl_run.proofs.Rows.{chosen_holds}
use Rattle.pl_run.proofs.choice.run_of.Goals as goal

pub returns : goal.returns
returns c =
    chosen_holds _ c.get_flag-check.result c.get_flag-all.result c.get_flag-live.result c.get_flag-strict.result c.get_flag-explain.result c.in_ok-limits.limits c.in_ok-memory.memory c.in_ok-file.file _ c.chosen.ensures (
      (c.get_flag-check.ensures.none, c.get_flag-check.ensures.value, c.get_flag-check.ensures.other),
      (c.get_flag-all.ensures.none, c.get_flag-all.ensures.value, c.get_flag-all.ensures.other),
      (c.get_flag-live.ensures.none, c.get_flag-live.ensures.value, c.get_flag-live.ensures.other),
      (c.get_flag-strict.ensures.none, c.get_flag-strict.ensures.value, c.get_flag-strict.ensures.other),
    )
    (c.in_ok-limits.ensures, c.in_ok-memory.ensures, c.in_ok-file.ensures) (c.get_flag-explain.ensures.none, c.get_flag-explain.ensures.value, c.get_flag-explain.ensures.other)
