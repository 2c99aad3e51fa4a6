-- One card more.
use Rattle.std.proofs.Common.{◌∙◌, rules}
use Rattle.world_play.specs.Setting.{card_info}
use Rattle.world_play.proofs.Numbers.{made_more}
use Rattle.world_play.proofs.setting.issuer.Goals as goal

pub loop-number-preserved : goal.loop-number-preserved
loop-number-preserved c = record {
  made = c.push_reserved.ensures.items
      ∙ made_more card_info c.loop-number.number c.loop-number.infos.items c.card_info.result c.loop-number.invariant.made c.card_info.ensures;
  count = search rules;
  room = search rules;
}
