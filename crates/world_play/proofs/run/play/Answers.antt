-- There is a player for each card, and what the run comes to is in order.
use Rattle.std.proofs.Common.{◌∙◌, length, ap}
use Rattle.std.proofs.lemmas.List.FromFn.{length-map-range_with_len}
use Rattle.world_play.specs.Play.{new_player}
use Rattle.world_play.proofs.PlayedCounts.{played-order}
use Rattle.world_play.proofs.run.play.Goals as goal

pub play_on-summary-requires-clause-players : goal.play_on-summary-requires-clause-players
play_on-summary-requires-clause-players c = ap length c.in_ok-players.ensures ∙ length-map-range_with_len new_player 0 c.args.cards

pub returns-clause-in_order : goal.returns-clause-in_order
returns-clause-in_order c =
    played-order _ c.args.cards c.args.steps c.args.seed c.requires.cards.0 c.requires.cards.1 c.requires.counters c.play_on-summary.ensures
