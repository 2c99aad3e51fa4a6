-- The run stops at the fault of a shard.
use Rattle.issuer_top.proofs.run.Run.not_loaded.Goals as goal

pub returns : goal.returns
returns g c =
    let stopped = c.stop.ensures in
    (stopped.0, rw c.stop_of_load.ensures at stopped.1, stopped.2)
