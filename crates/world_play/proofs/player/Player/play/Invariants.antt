-- The moves that are left lead on from the stage that the first moves led to, and those were made within their bytes and counts.
use Rattle.world_play.proofs.Moving.{IsOnTheWay}
use Rattle.world_play.proofs.Turns.{IsWithin}
use Rattle.world_play.proofs.player.Player.play.Given as goal

abbrev pub invariant-loop-next : goal.invariant-loop-next
invariant-loop-next l = record {
  way : IsOnTheWay l.step l.moves l.next-index l.fn.house l.fn.self l.house l.self;
  within : IsWithin l.step l.moves l.next-index l.fn.house l.fn.self l.house l.self;
}
