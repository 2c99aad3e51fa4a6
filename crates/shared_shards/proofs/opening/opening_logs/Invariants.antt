-- The shards open with the logs of the histories that they were loaded with.
use Rattle.shared_shards.specs.Opening.{AreOpeningLogs}
use Rattle.shared_shards.proofs.opening.opening_logs.Given as goal

abbrev pub ghosts-shown : goal.ghosts-shown
ghosts-shown g a = record { may_open = AreOpeningLogs a.issuer.now a.olds.now.value.items a.stores.now.value.items a.shards.now.items }
