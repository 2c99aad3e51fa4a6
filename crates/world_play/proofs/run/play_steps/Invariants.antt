-- The host and the cards are as after the first steps, with the room of the steps that are left.
use Rattle.std.proofs.Common.{◌≡◌, ◌*◌, length}
use Rattle.world_play.specs.Reaching.{IsAt}
use Rattle.world_play.specs.Room.{RoomFor, CountsWithin}
use Rattle.world_play.proofs.Turns.{AreOwn, left_from}
use Rattle.world_play.proofs.run.play_steps.Given as goal

abbrev pub invariant-loop-index : goal.invariant-loop-index
invariant-loop-index l = record {
  at : IsAt l.cards l.seed l.index l.house l.players.items;
  count : length l.players.items ≡ l.cards;
  own : AreOwn l.cards l.players.items;
  room : RoomFor (left_from l.cards l.steps l.index) l.house;
  counts : CountsWithin (6 * l.index) l.house.tally;
}
