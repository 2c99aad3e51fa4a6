-- The list has the recorded ATCs of the shards so far.
use Rattle.issuer_setup.specs.IssuerSetup.{Setup}
use Rattle.host_calls.specs.RecordedCounters.{AreStanding, AreRecordedOf}
use Rattle.host_calls.proofs.recorded.list_recorded.Given as goal

abbrev pub invariant-loop-shard : goal.invariant-loop-shard
invariant-loop-shard g l = (issuer : Setup) → AreStanding {G = g.S.Store} issuer l.shards → AreRecordedOf issuer l.shards l.shard-index l.list.items
