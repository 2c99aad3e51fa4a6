-- What the first cards ran is counted.
use Rattle.std.proofs.Common.{◌≡◌, length, take}
use Rattle.std.specs.Prelude.{sum_by}
use Rattle.world_play.proofs.totals.count_ran.Given as goal

abbrev pub invariant-loop-player : goal.invariant-loop-player
invariant-loop-player l = l.total ≡ sum_by (λ player. length player.card.ran) (take l.player-index l.players)
