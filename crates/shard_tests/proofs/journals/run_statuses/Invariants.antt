-- The shard stays one of this issuer's.
use Rattle.std.proofs.Common.{◌≡◌}
use Rattle.shard_book.specs.Shards.{number_in, IsUnder}
use Rattle.shard_tests.proofs.journals.run_statuses.Given as goal

abbrev pub invariant-statuses : goal.invariant-statuses
invariant-statuses l = record { under : IsUnder l.issuer l.shard; number : number_in l.shard ≡ 0 }
