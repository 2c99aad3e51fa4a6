-- The cards so far are the first ones.
use Rattle.std.proofs.Common.{◌≡◌, ◌≤◌, length, map, vec_capacity}
use Rattle.std.specs.List.{range_with_len}
use Rattle.world_play.specs.Setting.{card_info}
use Rattle.world_play.proofs.setting.issuer.Given as goal

abbrev pub invariant-loop-number : goal.invariant-loop-number
invariant-loop-number l = record {
  made : l.infos.items ≡ map card_info (range_with_len 0 l.number);
  count : length l.infos.items ≡ l.number;
  room : l.cards ≤ vec_capacity l.infos;
}
