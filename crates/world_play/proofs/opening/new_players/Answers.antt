-- One player more.
use Rattle.std.proofs.Common.{◌∙◌, rules}
use Rattle.world_play.specs.Play.{new_player}
use Rattle.world_play.proofs.Numbers.{made_more}
use Rattle.world_play.proofs.opening.new_players.Goals as goal

pub loop-number-preserved : goal.loop-number-preserved
loop-number-preserved c = record {
  made = c.push_reserved.ensures.items
      ∙ made_more new_player c.loop-number.number c.loop-number.players.items c.new_player.result c.loop-number.invariant.made c.new_player.ensures;
  count = search rules;
  room = search rules;
}
