-- The law of every run.
use Rattle.one_caller.proofs.OneRun.{run-one_history}
use Rattle.one_caller.proofs.law.every_run_is_one_history.Goals as goal

pub returns : goal.returns
returns c = λ issuer first last lines answers again legal recorded run.
    run-one_history issuer again first last lines answers legal recorded run
