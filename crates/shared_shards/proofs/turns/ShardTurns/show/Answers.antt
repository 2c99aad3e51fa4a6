-- The card's row in its shard is shown.
use Rattle.std.proofs.Common.{ap, ◌∙◌}
use Rattle.turn_book.specs.Seats.{view_of}
use Rattle.turn_book.specs.TurnViews.{free}
use Rattle.shared_shards.proofs.Turning.{HasFound, has-found, has-card, turn-shows}
use Rattle.shared_shards.proofs.turns.ShardTurns.show.Given.{Over}
use Rattle.shared_shards.proofs.turns.ShardTurns.show.Goals.{After-enter-held}
use Rattle.shared_shards.proofs.turns.ShardTurns.show.Goals as goal

-- the shard stands for its log when the turn comes
standing : (g : Over) (c : After-enter-held g)
    → HasFound c.args.issuer.now (view_of c.enter-held.new.seat).seen c.shard_of-number.result c.enter-held.result.shard
standing g c = has-found _ _ c.requires.turns _ _ c.enter-held.result c.enter-held.ensures.seat.heads c.enter-held.ensures.value

pub row-requires : goal.row-requires
row-requires g c =
    has-card _ _ _ _ (standing g (goal.at.row-requires g c).After-enter-held) c.args.card c.shard_of-number.ensures.number c.requires.card

pub returns-clause-turn : goal.returns-clause-turn
returns-clause-turn g c =
    turn-shows _ _ _ _ (standing g (goal.at.returns-clause-turn g c).After-enter-held) c.args.card c.shard_of-number.ensures.number c.requires.card
    c.row.result.now c.row.ensures c.view-shown.result c.view-shown.ensures
    (view_of c.args.seat.now) (view_of c.leave.new.seat)
    c.enter-held.ensures.front (c.leave.ensures.view ∙ ap (λ view. free view) c.enter-held.ensures.view)
