-- The players so far are those of the first cards.
use Rattle.std.proofs.Common.{◌≡◌, ◌≤◌, length, map, vec_capacity}
use Rattle.std.specs.List.{range_with_len}
use Rattle.world_play.specs.Play.{new_player}
use Rattle.world_play.proofs.opening.new_players.Given as goal

abbrev pub invariant-loop-number : goal.invariant-loop-number
invariant-loop-number l = record {
  made : l.players.items ≡ map new_player (range_with_len 0 l.number);
  count : length l.players.items ≡ l.number;
  room : l.cards ≤ vec_capacity l.players;
}
