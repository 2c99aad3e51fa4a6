-- The shard stays one of this issuer's.
use Rattle.std.proofs.Common.{◌≡◌}
use Rattle.shard_book.specs.Shards.{number_in, IsUnder}
use Rattle.bench_runs.proofs.replay.ask_all.Given as goal

abbrev pub invariant-loop-card : goal.invariant-loop-card
invariant-loop-card l = record { under : IsUnder l.issuer l.shard; number : number_in l.shard ≡ 0 }
