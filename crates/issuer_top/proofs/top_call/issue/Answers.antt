-- What is done of each command.
use Rattle.issuer_top.proofs.Commands.{runs-alone, runs-clear, runs-export, runs-pin, runs-serve, runs-show, runs-standby}
use Rattle.issuer_top.proofs.top_call.issue.Goals as goal

pub returns : goal.returns
returns g c =
    let does = c.do_task.ensures in
    record {
      serve = runs-serve _ _ _ does;
      show = runs-show _ _ _ does;
      clear = runs-clear _ _ _ does;
      export = runs-export _ _ _ does;
      standby = runs-standby _ _ _ does;
      pin = runs-pin _ _ _ does;
      alone = runs-alone _ _ _ does;
    }
