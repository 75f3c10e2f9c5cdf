use Rattle.pl_script.proofs.live.run_live.Goals as goal

pub returns-clause-run : goal.returns-clause-run
returns-clause-run g c =
    let ran = c.run_live_explained.ensures.run in
    (ran.0, ran.1, ran.2)
