-- Each shard stands for the log that the seat has seen.
use Rattle.std.proofs.Common.{◌≡◌, List, length, sym, subst, arith}
use Rattle.shard_book.specs.declared.shard.Shard.{Shard}
use Rattle.turn_book.specs.declared.logs.Log.{Log}
use Rattle.turn_book.specs.Seats.{view_of}
use Rattle.turn_book.proofs.BeginsAndEnds.{stand-length}
use Rattle.turn_book.proofs.LogLemmas.{heads-length}
use Rattle.shared_shards.specs.declared.locked_shard.LockedShard.{LockedShard}
use Rattle.shared_shards.specs.declared.logs.LogHead.{LogHead}
use Rattle.shared_shards.specs.declared.logs.LogItem.{LogItem}
use Rattle.shared_shards.specs.ShardLogs.{StandsForLog}
use Rattle.shared_shards.specs.ShardSeats.{opening_in, StandForLogs}
use Rattle.shared_shards.proofs.ListLemmas.{stand-each}
use Rattle.shared_shards.proofs.turns.ShardTurns.close.Goals as goal

pub release_all-requires : goal.release_all-requires
release_all-requires g c =
    let held = c.close.result in
    let seen : List (Log LogItem LogHead) = (view_of c.args.seat).seen in
    let opening : List (Log LogItem LogHead) = opening_in c.args.self in
    let long : length held.items ≡ length seen =
    stand-length (λ (held : LockedShard _ g.S.Store) head items. StandsForLog held.shard head items) held.items seen c.close.ensures.values in
    let same : length seen ≡ length opening = heads-length seen opening c.requires.seat.of.heads in
    let few = c.args.self.turns.few in
    omega (arith, held.ok, long, same, few)

pub returns-clause-shards : goal.returns-clause-shards
returns-clause-shards g c =
    subst (λ (shards : List (Shard _ g.S.Store)). StandForLogs shards (view_of c.args.seat).seen) (sym c.release_all.ensures)
    (stand-each c.close.result.items (view_of c.args.seat).seen c.close.ensures.values)
