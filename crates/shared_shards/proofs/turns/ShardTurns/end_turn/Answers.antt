-- The shard stands for the log with what was added.
use Rattle.std.proofs.Common.{sym, subst, ◌∙◌}
use Rattle.turn_book.specs.declared.seat.TurnSeat.{TurnSeat}
use Rattle.turn_book.specs.Seats.{view_of}
use Rattle.shared_shards.specs.declared.locked_shard.LockedShard.{LockedShard}
use Rattle.shared_shards.specs.declared.logs.LogHead.{LogHead}
use Rattle.shared_shards.specs.declared.logs.LogItem.{LogItem}
use Rattle.shared_shards.specs.ShardSeats.{StandsIn}
use Rattle.shard_book.specs.Shards.{faults_in}
use Rattle.shared_shards.specs.Turned.{added_in, item_by, record_by}
use Rattle.shared_shards.proofs.Ending.{room-left, added-is, added-none, stands-with, stands-as_was}
use Rattle.shared_shards.proofs.Standing.{stands-held}
use Rattle.shared_shards.proofs.turns.ShardTurns.end_turn.Goals.{then-adds, else-adds}
use Rattle.shared_shards.proofs.turns.ShardTurns.end_turn.Goals as goal

pub added-requires-clause-room : goal.added-requires-clause-room
added-requires-clause-room g c =
    let called = c.args.called in
    room-left called.shard (view_of c.args.seat.now).seen c.args.number (added_in called) c.requires.stands

pub leave-requires-clause-value : goal.leave-requires-clause-value
leave-requires-clause-value g c =
    let called = c.args.called in
    let view = view_of c.args.seat.now in
    let added = added_in called in
    let held : LockedShard _ _ = record { shard = called.shard } in
    elim c.if-adds.branch [
      | then-adds w ↦
          let is = added-is (record_by called.call called.answer.now) _ (faults_in called.shard) (sym c.adds.ensures ∙ w.if-adds.true) in
          stands-held held (view_of c.if-adds.seat).seen c.args.number
          (subst (λ (seat : TurnSeat LogItem LogHead). StandsIn called.shard (view_of seat).seen c.args.number) (sym w.seat-is)
          (stands-with called.shard view c.args.number added c.requires.stands
          (item_by (record_by called.call called.answer.now) (faults_in called.shard)) (view_of w.added.new.seat) is
          w.added.ensures.view))
      | else-adds w ↦
          let is = added-none added (sym c.adds.ensures ∙ w.if-adds.false) in
          stands-held held (view_of c.if-adds.seat).seen c.args.number
          (subst (λ (seat : TurnSeat LogItem LogHead). StandsIn called.shard (view_of seat).seen c.args.number) (sym w.seat-is)
          (stands-as_was called.shard view c.args.number added c.requires.stands is))
    ]
